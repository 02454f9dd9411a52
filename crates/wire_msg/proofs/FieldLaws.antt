-- What is read of fields is spelled so, and the other way round.
use Rattle.std.proofs.Common.{◌≡◌, ℕ, List, [], ◌∷◌, ◌++◌, map, Ok, Err, refl, ap, ◌∙◌, append_assoc}
use Rattle.std.specs.List.{AllByRecursion}
use Rattle.wire_msg.specs.Fields.{Field, a_tag, a_key, an_epoch, a_frozen_epoch, a_stamp, a_value, a_set, a_replica, a_policy, a_flag}
use Rattle.wire_msg.specs.Lawful.{IsInRange}
use Rattle.wire_msg.specs.Frames.{bytes_of, fields_bytes}
use Rattle.wire_msg.specs.Faults.{Reading, Sort, tag, key, epoch, frozen_epoch, stamp, value, set, replica, policy, flag, made, field_at, fields_at}
use Rattle.wire_msg.specs.Laws.{FitsField}
use Rattle.wire_msg.proofs.Readings.{Good, Takes, Takes-none, Takes-then, Holds, HoldsBy, Holds-ok, Holds-bind, wide32, number_takes, number_again, then_read}
use Rattle.wire_msg.proofs.Parts.{tag_takes, tag_again, stamp_takes, stamp_again, value_takes, value_again, set_takes, set_again, key_takes, key_again, replica_takes, replica_again, flag_takes, flag_again}
use Rattle.wire_msg.proofs.PolicyLaws.{policy_takes, policy_again}
use Rattle.std.proofs.Common.{◌^◌, ◌-◌, arith}

-- the sort of a field
abbrev pub sort_of : Field → Sort
sort_of (a_tag x) = tag
sort_of (a_key x) = key
sort_of (an_epoch x) = epoch
sort_of (a_frozen_epoch x) = frozen_epoch
sort_of (a_stamp x) = stamp
sort_of (a_value x) = value
sort_of (a_set x) = set
sort_of (a_replica x) = replica
sort_of (a_policy x) = policy
sort_of (a_flag x) = flag

pub record TakesField (size : ℕ) (sort : Sort) (bytes : List ℕ) (field : Field) (rest : List ℕ) : Type 0 where
  pub takes : Takes size bytes (bytes_of field) rest
  pub in_range : IsInRange field
  pub fits : FitsField field
  pub sorted : sort_of field ≡ sort

made_by : {X : Type 0} (size : ℕ) (P : X → List ℕ → Type 0) (Q : Field → List ℕ → Type 0) (make : X → Field) (r : Reading X) → HoldsBy size P r → ((x : X) (rest : List ℕ) → P x rest → Q (make x) rest) → HoldsBy size Q (made make r)
made_by size P Q make (Ok x) h step = step x.0 x.1 h
made_by size P Q make (Err left) h step = h

Holds-made : {X : Type 0} {size : ℕ} {P : X → List ℕ → Type 0} {r : Reading X} (Q : Field → List ℕ → Type 0) (make : X → Field) → Holds size P r → ((x : X) (rest : List ℕ) → P x rest → Q (make x) rest) → Holds size Q (made make r)
Holds-made {X} {size} {P} {r} Q make h step = record { by = made_by size P Q make r h.by step }

pub field_takes : {size : ℕ} (sort : Sort) (bytes : List ℕ) → Good size bytes → Holds size (TakesField size sort bytes) (field_at sort bytes)
unfolding field_at
field_takes {size} tag bytes good = Holds-made (TakesField size tag bytes) a_tag (tag_takes good) (λ x rest t. record { takes = t.takes; in_range = t.lawful; fits = t.fits; sorted = refl })
field_takes {size} key bytes good = Holds-made (TakesField size key bytes) a_key (key_takes good) (λ x rest t. record { takes = t.takes; in_range = t.lawful; fits = tt; sorted = refl })
field_takes {size} epoch bytes good = Holds-made (TakesField size epoch bytes) an_epoch (number_takes wide32 1 (2 ^ 32 - 1) good) (λ x rest t. record { takes = t.takes; in_range = t.least; fits = t.fits; sorted = refl })
field_takes {size} frozen_epoch bytes good = Holds-made (TakesField size frozen_epoch bytes) a_frozen_epoch (number_takes wide32 0 (2 ^ 32 - 1) good) (λ x rest t. record { takes = t.takes; in_range = tt; fits = t.fits; sorted = refl })
field_takes {size} stamp bytes good = Holds-made (TakesField size stamp bytes) a_stamp (stamp_takes good) (λ x rest t. record { takes = t.takes; in_range = t.lawful; fits = t.fits; sorted = refl })
field_takes {size} value bytes good = Holds-made (TakesField size value bytes) a_value (value_takes good) (λ x rest t. record { takes = t.takes; in_range = t.lawful; fits = tt; sorted = refl })
field_takes {size} set bytes good = Holds-made (TakesField size set bytes) a_set (set_takes good) (λ x rest t. record { takes = t.takes; in_range = tt; fits = t.fits; sorted = refl })
field_takes {size} replica bytes good = Holds-made (TakesField size replica bytes) a_replica (replica_takes good) (λ x rest t. record { takes = t.takes; in_range = t.lawful; fits = tt; sorted = refl })
field_takes {size} policy bytes good = Holds-made (TakesField size policy bytes) a_policy (policy_takes good) (λ x rest t. record { takes = t.takes; in_range = t.lawful; fits = t.fits; sorted = refl })
field_takes {size} flag bytes good = Holds-made (TakesField size flag bytes) a_flag (flag_takes good) (λ x rest t. record { takes = t; in_range = tt; fits = tt; sorted = refl })

pub field_again : (field : Field) (rest : List ℕ) → IsInRange field → FitsField field → field_at (sort_of field) (bytes_of field ++ rest) ≡ Ok (field, rest)
unfolding field_at
field_again (a_tag x) rest range fits = ap (made a_tag) (tag_again x rest range fits)
field_again (a_key x) rest range fits = ap (made a_key) (key_again x rest range)
field_again (an_epoch x) rest range fits = ap (made an_epoch) (number_again wide32 1 (2 ^ 32 - 1) x rest range (omega arith) fits)
field_again (a_frozen_epoch x) rest range fits = ap (made a_frozen_epoch) (number_again wide32 0 (2 ^ 32 - 1) x rest (omega arith) (omega arith) fits)
field_again (a_stamp x) rest range fits = ap (made a_stamp) (stamp_again x rest range fits)
field_again (a_value x) rest range fits = ap (made a_value) (value_again x rest range)
field_again (a_set x) rest range fits = ap (made a_set) (set_again x rest fits)
field_again (a_replica x) rest range fits = ap (made a_replica) (replica_again x rest range)
field_again (a_policy x) rest range fits = ap (made a_policy) (policy_again x rest range fits)
field_again (a_flag x) rest range fits = ap (made a_flag) (flag_again x rest)

pub record TakesFields (size : ℕ) (sorts : List Sort) (bytes : List ℕ) (fields : List Field) (rest : List ℕ) : Type 0 where
  pub takes : Takes size bytes (fields_bytes fields) rest
  pub in_range : AllByRecursion IsInRange fields
  pub fits : AllByRecursion FitsField fields
  pub sorted : map sort_of fields ≡ sorts

pub fields_take : {size : ℕ} (sorts : List Sort) (bytes : List ℕ) → Good size bytes → Holds size (TakesFields size sorts bytes) (fields_at sorts bytes)
unfolding fields_at
fields_take {size} [] bytes good = Holds-ok (TakesFields size [] bytes) [] bytes (record { takes = Takes-none size bytes good; in_range = tt; fits = tt; sorted = refl })
fields_take {size} (sort ∷ sorts) bytes good =
    Holds-bind (TakesFields size (sort ∷ sorts) bytes) _ (field_takes sort bytes good) (λ field b1 f.
    Holds-bind (TakesFields size (sort ∷ sorts) bytes) _ (fields_take sorts b1 f.takes.good) (λ fields b2 g.
    Holds-ok (TakesFields size (sort ∷ sorts) bytes) (field ∷ fields) b2 (record {
      takes = Takes-then f.takes g.takes;
      in_range = (f.in_range, g.in_range);
      fits = (f.fits, g.fits);
      sorted = ap (λ s. s ∷ map sort_of fields) f.sorted ∙ ap (λ ss. sort ∷ ss) g.sorted;
    })))

pub fields_again : (fields : List Field) (rest : List ℕ) → AllByRecursion IsInRange fields → AllByRecursion FitsField fields → fields_at (map sort_of fields) (fields_bytes fields ++ rest) ≡ Ok (fields, rest)
unfolding fields_at
fields_again [] rest range fits = refl
fields_again (field ∷ fields) rest range fits =
    ap (fields_at (map sort_of (field ∷ fields))) (append_assoc (bytes_of field) (fields_bytes fields) rest)
    ∙ then_read _ (field_again field (fields_bytes fields ++ rest) range.0 fits.0) (then_read _ (fields_again fields rest range.1 fits.1) refl)

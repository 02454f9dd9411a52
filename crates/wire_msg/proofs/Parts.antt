-- What is read of tags, stamps, values and other small fields is spelled so, and the other way round.
use Rattle.std.proofs.Common.{◌≡◌, ℕ, zero, suc, ◌-◌, ◌^◌, ◌≤◌, Bool, true, false, cond, ltb, ◌==◌, List, ◌++◌, length, take, drop, Ok, Err, refl, sym, subst, append_assoc, arith}
use Rattle.std.specs.Int.{w8, w16}
use Rattle.std.proofs.lemmas.Bool.{ltb-false, le-ltb}
use Rattle.std.proofs.lemmas.List.{take_at, drop_at, take-append-drop, length-append, length-take}
use Rattle.span_base.specs.declared.ids.KeyId.{KeyId}
use Rattle.span_base.specs.declared.ids.DcId.{DcId}
use Rattle.span_base.specs.declared.dc_set.DcSet.{DcSet}
use Rattle.ticket_rules.specs.declared.stamp.Stamp.{Stamp}
use Rattle.wire_msg.specs.declared.tag.Tag.{Tag}
use Rattle.wire_msg.specs.Lawful.{IsLawfulTag, IsLawfulStamp, IsLawfulKey, IsLawfulReplica}
use Rattle.wire_msg.specs.Frames.{big, tag_bytes, stamp_bytes, value_bytes, set_bytes}
use Rattle.wire_msg.specs.Faults.{tag_at, stamp_at, value_at, set_at, key_at, replica_at, flag_at}
use Rattle.wire_msg.specs.Laws.{FitsSet, FitsTag, FitsStamp}
use Rattle.wire_msg.proofs.Readings.{Good, Takes, Takes-then, Holds, Holds-ok, Holds-err, Holds-bind, wide8, wide16, wide32, wide64, TakesNumber, number_takes, number_again, then_read, Good-drop}

pub record TakesTag (size : ℕ) (bytes : List ℕ) (tag : Tag) (rest : List ℕ) : Type 0 where
  pub takes : Takes size bytes (tag_bytes tag) rest
  pub lawful : IsLawfulTag tag
  pub fits : FitsTag tag

pub tag_takes : {size : ℕ} {bytes : List ℕ} → Good size bytes → Holds size (TakesTag size bytes) (tag_at bytes)
unfolding tag_at tag_bytes
tag_takes {size} {bytes} good =
    Holds-bind (TakesTag size bytes) _ (number_takes wide8 0 63 good) (λ proxy b1 p.
    Holds-bind (TakesTag size bytes) _ (number_takes wide8 0 63 p.takes.good) (λ slot b2 s.
    Holds-bind (TakesTag size bytes) _ (number_takes wide32 1 (2 ^ 32 - 1) s.takes.good) (λ generation b3 g.
    Holds-bind (TakesTag size bytes) _ (number_takes wide32 1 (2 ^ 32 - 1) g.takes.good) (λ seq b4 q.
    Holds-bind (TakesTag size bytes) _ (number_takes wide8 1 255 q.takes.good) (λ phase b5 f.
    Holds-ok (TakesTag size bytes) (record { call = record { proxy = proxy; seq = seq }; slot = slot; generation = generation; phase = phase }) b5 (record {
      takes = Takes-then (Takes-then (Takes-then (Takes-then p.takes s.takes) g.takes) q.takes) f.takes;
      lawful = record { proxy = omega (arith, p.most); seq = q.least; slot = omega (arith, s.most); generation = g.least; phase = f.least };
      fits = record { generation = g.fits; seq = q.fits; phase = f.fits };
    }))))))

pub tag_again : (tag : Tag) (rest : List ℕ) → IsLawfulTag tag → FitsTag tag → tag_at (tag_bytes tag ++ rest) ≡ Ok (tag, rest)
unfolding tag_at tag_bytes
tag_again tag rest lawful fits =
    simp append_assoc (
    then_read _ (number_again wide8 0 63 tag.call.proxy _ (omega arith) (omega (arith, lawful.proxy)) (omega (arith, lawful.proxy)))
    (then_read _ (number_again wide8 0 63 tag.slot _ (omega arith) (omega (arith, lawful.slot)) (omega (arith, lawful.slot)))
    (then_read _ (number_again wide32 1 (2 ^ 32 - 1) tag.generation _ lawful.generation (omega (arith, fits.generation)) fits.generation)
    (then_read _ (number_again wide32 1 (2 ^ 32 - 1) tag.call.seq _ lawful.seq (omega (arith, fits.seq)) fits.seq)
    (then_read _ (number_again wide8 1 255 tag.phase rest lawful.phase (omega (arith, fits.phase)) fits.phase) refl)))))

pub record TakesStamp (size : ℕ) (bytes : List ℕ) (stamp : Stamp) (rest : List ℕ) : Type 0 where
  pub takes : Takes size bytes (stamp_bytes stamp) rest
  pub lawful : IsLawfulStamp stamp
  pub fits : FitsStamp stamp

pub stamp_takes : {size : ℕ} {bytes : List ℕ} → Good size bytes → Holds size (TakesStamp size bytes) (stamp_at bytes)
unfolding stamp_at stamp_bytes
stamp_takes {size} {bytes} good =
    Holds-bind (TakesStamp size bytes) _ (number_takes wide32 0 (2 ^ 32 - 1) good) (λ epoch b1 e.
    Holds-bind (TakesStamp size bytes) _ (number_takes wide64 0 (2 ^ 64 - 1) e.takes.good) (λ number b2 n.
    Holds-bind (TakesStamp size bytes) _ (number_takes wide8 0 63 n.takes.good) (λ proxy b3 p.
    Holds-bind (TakesStamp size bytes) _ (number_takes wide32 0 (2 ^ 32 - 1) p.takes.good) (λ seq b4 q.
    Holds-ok (TakesStamp size bytes) (record { epoch = epoch; number = number; proxy = proxy; seq = seq }) b4 (record {
      takes = Takes-then (Takes-then (Takes-then e.takes n.takes) p.takes) q.takes;
      lawful = omega (arith, p.most);
      fits = record { epoch = e.fits; number = n.fits; seq = q.fits };
    })))))

pub stamp_again : (stamp : Stamp) (rest : List ℕ) → IsLawfulStamp stamp → FitsStamp stamp → stamp_at (stamp_bytes stamp ++ rest) ≡ Ok (stamp, rest)
unfolding stamp_at stamp_bytes
stamp_again stamp rest lawful fits =
    simp append_assoc (
    then_read _ (number_again wide32 0 (2 ^ 32 - 1) stamp.epoch _ (omega arith) (omega (arith, fits.epoch)) fits.epoch)
    (then_read _ (number_again wide64 0 (2 ^ 64 - 1) stamp.number _ (omega arith) (omega (arith, fits.number)) fits.number)
    (then_read _ (number_again wide8 0 63 stamp.proxy _ (omega arith) (omega arith) (omega arith))
    (then_read _ (number_again wide32 0 (2 ^ 32 - 1) stamp.seq rest (omega arith) (omega (arith, fits.seq)) fits.seq) refl))))

pub record TakesValue (size : ℕ) (bytes value rest : List ℕ) : Type 0 where
  pub takes : Takes size bytes (value_bytes value) rest
  pub lawful : length value ≤ 4096

pub value_takes : {size : ℕ} {bytes : List ℕ} → Good size bytes → Holds size (TakesValue size bytes) (value_at bytes)
unfolding value_at value_bytes
value_takes {size} {bytes} good =
    Holds-bind (TakesValue size bytes) _ (number_takes wide16 0 4096 good) (λ n b1 h. go n b1 h (ltb (length b1) n) refl)
  where
    go : (n : ℕ) (b1 : List ℕ) → TakesNumber size w16 (2 ^ 16) 0 4096 bytes n b1 → (short : Bool) → ltb (length b1) n ≡ short → Holds size (TakesValue size bytes) (cond short (Err 0) (Ok (take n b1, drop n b1)))
    go n b1 h true s = Holds-err (TakesValue size bytes) 0 (omega arith)
    go n b1 h false s =
        let long : n ≤ length b1 = ltb-false _ _ s in
        let len : length (take n b1) ≡ n = omega (arith, length-take n b1) in
        let second : Takes size b1 (take n b1) (drop n b1) = record { parts = sym (take-append-drop n b1); good = Good-drop size n b1 h.takes.good } in
        let both = Takes-then h.takes second in
        Holds-ok (TakesValue size bytes) (take n b1) (drop n b1) (record {
          takes = subst (λ (k : ℕ). Takes size bytes (big w16 k ++ take n b1) (drop n b1)) (sym len) both;
          lawful = omega (arith, h.most);
        })

pub value_again : (value rest : List ℕ) → length value ≤ 4096 → value_at (value_bytes value ++ rest) ≡ Ok (value, rest)
unfolding value_at value_bytes
value_again value rest low =
    let long : ltb (length (value ++ rest)) (length value) ≡ false = le-ltb _ _ (omega (arith, length-append value rest)) in
    simp append_assoc (
    then_read _ (number_again wide16 0 4096 (length value) (value ++ rest) (omega arith) low (omega arith))
    (rw (long, take_at value rest (length value) refl, drop_at value rest (length value) refl) refl))

pub record TakesSet (size : ℕ) (bytes : List ℕ) (centres : DcSet) (rest : List ℕ) : Type 0 where
  pub takes : Takes size bytes (set_bytes centres) rest
  pub fits : FitsSet centres

pub set_takes : {size : ℕ} {bytes : List ℕ} → Good size bytes → Holds size (TakesSet size bytes) (set_at bytes)
unfolding set_at set_bytes
set_takes {size} {bytes} good =
    Holds-bind (TakesSet size bytes) _ (number_takes wide16 0 (2 ^ 16 - 1) good) (λ bits b1 h.
    Holds-ok (TakesSet size bytes) (record { bits = bits }) b1 (record { takes = h.takes; fits = h.fits }))

pub set_again : (centres : DcSet) (rest : List ℕ) → FitsSet centres → set_at (set_bytes centres ++ rest) ≡ Ok (centres, rest)
unfolding set_at set_bytes
set_again centres rest fits = then_read _ (number_again wide16 0 (2 ^ 16 - 1) centres.bits rest (omega arith) (omega arith) fits) refl

pub record TakesKey (size : ℕ) (bytes : List ℕ) (key : KeyId) (rest : List ℕ) : Type 0 where
  pub takes : Takes size bytes (big w16 key.0) rest
  pub lawful : IsLawfulKey key

pub key_takes : {size : ℕ} {bytes : List ℕ} → Good size bytes → Holds size (TakesKey size bytes) (key_at bytes)
unfolding key_at
key_takes {size} {bytes} good =
    Holds-bind (TakesKey size bytes) _ (number_takes wide16 0 999 good) (λ n b1 h.
    Holds-ok (TakesKey size bytes) (record { 0 = n }) b1 (record { takes = h.takes; lawful = omega (arith, h.most) }))

pub key_again : (key : KeyId) (rest : List ℕ) → IsLawfulKey key → key_at (big w16 key.0 ++ rest) ≡ Ok (key, rest)
unfolding key_at
key_again key rest lawful = then_read _ (number_again wide16 0 999 key.0 rest (omega arith) (omega arith) (omega arith)) refl

pub record TakesReplica (size : ℕ) (bytes : List ℕ) (replica : DcId) (rest : List ℕ) : Type 0 where
  pub takes : Takes size bytes (big w8 replica.0) rest
  pub lawful : IsLawfulReplica replica

pub replica_takes : {size : ℕ} {bytes : List ℕ} → Good size bytes → Holds size (TakesReplica size bytes) (replica_at bytes)
unfolding replica_at
replica_takes {size} {bytes} good =
    Holds-bind (TakesReplica size bytes) _ (number_takes wide8 0 15 good) (λ n b1 h.
    Holds-ok (TakesReplica size bytes) (record { 0 = n }) b1 (record { takes = h.takes; lawful = omega (arith, h.most) }))

pub replica_again : (replica : DcId) (rest : List ℕ) → IsLawfulReplica replica → replica_at (big w8 replica.0 ++ rest) ≡ Ok (replica, rest)
unfolding replica_at
replica_again replica rest lawful = then_read _ (number_again wide8 0 15 replica.0 rest (omega arith) (omega arith) (omega arith)) refl

abbrev pub TakesFlag : ℕ → List ℕ → Bool → List ℕ → Type 0
TakesFlag size bytes flag rest = Takes size bytes (big w8 (cond flag 1 0)) rest

flag_number : (n : ℕ) → n ≤ 1 → n ≡ cond (n == 1) 1 0
flag_number zero low = refl
flag_number (suc zero) low = refl
flag_number (suc (suc n)) low = absurd (omega arith)

pub flag_takes : {size : ℕ} {bytes : List ℕ} → Good size bytes → Holds size (TakesFlag size bytes) (flag_at bytes)
unfolding flag_at
flag_takes {size} {bytes} good =
    Holds-bind (TakesFlag size bytes) _ (number_takes wide8 0 1 good) (λ n b1 h.
    Holds-ok (TakesFlag size bytes) (n == 1) b1 (subst (λ (k : ℕ). Takes size bytes (big w8 k) b1) (flag_number n h.most) h.takes))

pub flag_again : (flag : Bool) (rest : List ℕ) → flag_at (big w8 (cond flag 1 0) ++ rest) ≡ Ok (flag, rest)
unfolding flag_at
flag_again true rest = then_read _ (number_again wide8 0 1 1 rest (omega arith) (omega arith) (omega arith)) refl
flag_again false rest = then_read _ (number_again wide8 0 1 0 rest (omega arith) (omega arith) (omega arith)) refl

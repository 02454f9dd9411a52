-- Every event keeps what the answers of replicas tell.
use Rattle.std.proofs.Common.{◌≡◌, ℕ, ◌≤◌, Bool, true, false, List, refl, sym, ap, subst, arith, nat_lt, nat_le, max, ◌&&◌, if◌then◌else◌, Some}
use Rattle.std.proofs.lemmas.Bool.{lt-ltb, le-ltb, ltb-false, le-leb}
use Rattle.register_law.proofs.Words.{KeyId, IsAtMost, Stamp, Tag, Kept, Store, kept_of, Happening, Happened, Ghost, noted_of, Inv, IsKept, IsKnown, WasSent, version_before, IsAtMost-trans, IsAtMost-refl, tag_of, key_of, Message}
use Rattle.wire_msg.specs.declared.message.Message.TheVariants as m
use Rattle.register_law.proofs.MovesStable.{known_stays, kept_stays}
use Rattle.register_law.proofs.Growth.{grows_by}
use Rattle.register_law.proofs.Basics.{point_of}
use Rattle.register_law.proofs.AnswersTold.{both_sent, now_replied, pair_is, Reaches, Shows, Froze, read_replied, freeze_replied, store_replied, repair_replied, seed_replied, Replied}
use Rattle.register_law.specs.Replicas.{AnswersTell}
use Rattle.register_law.proofs.AnswersFence.{have_read_after, yes_ask_after, fence_leg_after}

-- a replica that isn't frozen for the epoch has what its version has
pub reaches_before : (key : KeyId) (z : Store) (g : Ghost) (d epoch : ℕ) (stamp : Stamp) → Reaches epoch stamp (kept_of z d key) → IsAtMost stamp (version_before key z g d epoch)
reaches_before key z g d epoch stamp r = rw (lt-ltb (kept_of z d key).frozen epoch r.open_still) r.has

-- a replica that said Yes to a request of the key has what it then had
yes_after : (key : KeyId) (s : Store) (g : Ghost) (h : Happening) → Happened s h → Inv key s g → (request : Message) (d epoch : ℕ) (stamp : Stamp) → key_of request ≡ Some key → WasSent h.store request → WasSent h.store (m.Yes (tag_of request) (record { 0 = d }))
    → (WasSent s request → WasSent s (m.Yes (tag_of request) (record { 0 = d })) → IsAtMost stamp (version_before key s g d epoch)) → (Replied key s h request (m.Yes (tag_of request) (record { 0 = d })) → Reaches epoch stamp (kept_of h.store d key))
    → IsAtMost stamp (version_before key h.store (noted_of key s h g) d epoch)
yes_after key s g h is inv request d epoch stamp at asked told was now =
    elim (pair_is key s g h request (m.Yes (tag_of request) (record { 0 = d })) inv is asked told at refl (point_of (tag_of request) (tag_of request) refl)) as (λ _. IsAtMost stamp (version_before key h.store (noted_of key s h g) d epoch)) [
      | both_sent a b ↦ IsAtMost-trans stamp (version_before key s g d epoch) (version_before key h.store (noted_of key s h g) d epoch) (was a b) ((grows_by key s g h is inv).before d epoch)
      | now_replied r ↦ reaches_before key h.store (noted_of key s h g) d epoch stamp (now r)
    ]

pub yes_store_after : (key : KeyId) (s : Store) (g : Ghost) (h : Happening) → Happened s h → Inv key s g → (tag : Tag) (d : ℕ) (stamp : Stamp) (value : List ℕ) → WasSent h.store (m.Store tag key stamp value) → WasSent h.store (m.Yes tag (record { 0 = d }))
    → IsAtMost stamp (version_before key h.store (noted_of key s h g) d stamp.epoch)
yes_store_after key s g h is inv tag d stamp value asked told = yes_after key s g h is inv (m.Store tag key stamp value) d stamp.epoch stamp refl asked told (inv.answers.yes_store tag d stamp value) (store_replied key s h tag tag stamp value d)

pub yes_repair_after : (key : KeyId) (s : Store) (g : Ghost) (h : Happening) → Happened s h → Inv key s g → (tag : Tag) (d epoch : ℕ) (stamp : Stamp) (value : List ℕ) → WasSent h.store (m.Repair tag key epoch stamp value) → WasSent h.store (m.Yes tag (record { 0 = d }))
    → IsAtMost stamp (version_before key h.store (noted_of key s h g) d epoch)
yes_repair_after key s g h is inv tag d epoch stamp value asked told = yes_after key s g h is inv (m.Repair tag key epoch stamp value) d epoch stamp refl asked told (inv.answers.yes_repair tag d epoch stamp value) (repair_replied key s h tag tag epoch stamp value d)

pub yes_seed_after : (key : KeyId) (s : Store) (g : Ghost) (h : Happening) → Happened s h → Inv key s g → (tag : Tag) (d epoch : ℕ) (stamp : Stamp) (value : List ℕ) → WasSent h.store (m.Seed tag key epoch stamp value) → WasSent h.store (m.Yes tag (record { 0 = d }))
    → IsAtMost stamp (version_before key h.store (noted_of key s h g) d epoch)
yes_seed_after key s g h is inv tag d epoch stamp value asked told = yes_after key s g h is inv (m.Seed tag key epoch stamp value) d epoch stamp refl asked told (inv.answers.yes_seed tag d epoch stamp value) (seed_replied key s h tag tag epoch stamp value d)

pub before_by : (a b c : Bool) (new version fixed : Stamp) → a ≡ false → c ≡ true → (b ≡ false → IsAtMost fixed version) → IsAtMost (if a then new else (if b && c then version else fixed)) version
before_by true b c new version fixed is reached f = absurd (cc)
before_by false true true new version fixed is reached f = IsAtMost-refl version
before_by false true false new version fixed is reached f = absurd (cc)
before_by false false c new version fixed is reached f = f refl

-- a replica that froze just now
pub froze_now : (key : KeyId) (s : Store) (g : Ghost) (h : Happening) → ((d e : ℕ) → e ≤ (kept_of s d key).frozen → IsAtMost (g.fixed d e) (kept_of s d key).version) → (d epoch : ℕ) (version mark : Stamp) (value : List ℕ) → Froze key s h epoch d version mark value → (epoch ≤ (kept_of h.store d key).frozen) × IsAtMost (version_before key h.store (noted_of key s h g) d epoch) version
froze_now key s g h below d epoch version mark value froze =
    let frozen : (kept_of h.store d key).frozen ≡ max (kept_of s d key).frozen epoch = ap (λ (x : Kept). x.frozen) froze.became in
    let le : epoch ≤ (kept_of h.store d key).frozen = omega arith in
    let at_most : IsAtMost (version_before key h.store (noted_of key s h g) d epoch) (kept_of s d key).version =
    before_by (nat_lt (kept_of h.store d key).frozen epoch) (nat_lt (kept_of s d key).frozen epoch) (nat_le epoch (kept_of h.store d key).frozen) (kept_of h.store d key).version (kept_of s d key).version (g.fixed d epoch)
    (le-ltb (kept_of h.store d key).frozen epoch le) (le-leb epoch (kept_of h.store d key).frozen le) (λ b. below d epoch (ltb-false (kept_of s d key).frozen epoch b)) in
    (le, subst (IsAtMost (version_before key h.store (noted_of key s h g) d epoch)) froze.shows.version_is at_most)

pub have_freeze_after : (key : KeyId) (s : Store) (g : Ghost) (h : Happening) → Happened s h → Inv key s g → (tag : Tag) (d epoch : ℕ) (version mark : Stamp) (value : List ℕ) → WasSent h.store (m.Freeze tag key epoch) → WasSent h.store (m.Have tag (record { 0 = d }) version mark value)
    → (epoch ≤ (kept_of h.store d key).frozen) × IsAtMost (version_before key h.store (noted_of key s h g) d epoch) version
have_freeze_after key s g h is inv tag d epoch version mark value asked told =
    let grows = grows_by key s g h is inv in
    elim (pair_is key s g h (m.Freeze tag key epoch) (m.Have tag (record { 0 = d }) version mark value) inv is asked told refl refl (point_of tag tag refl)) as (λ _. (epoch ≤ (kept_of h.store d key).frozen) × IsAtMost (version_before key h.store (noted_of key s h g) d epoch) version) [
      | both_sent a b ↦ (let was = inv.answers.have_freeze tag d epoch version mark value a b in let le = was.0 in let more = grows.frozen d in (omega arith, subst (λ (x : Stamp). IsAtMost x version) (sym (grows.fixed d epoch was.0)) was.1))
      | now_replied r ↦ froze_now key s g h inv.replicas.fixed_below d epoch version mark value (freeze_replied key s h tag tag epoch d version mark value r)
    ]

-- what a replica shows is known, and its mark kept
shown_known : (key : KeyId) (s : Store) (g : Ghost) (d : ℕ) (version mark : Stamp) (value : List ℕ) → Inv key s g → Shows d d (kept_of s d key) version mark value → IsKnown key s version value × IsKept key s g mark
shown_known key s g d version mark value inv shows =
    (subst (λ (x : Stamp). IsKnown key s x value) shows.version_is (subst (λ (x : List ℕ). IsKnown key s (kept_of s d key).version x) shows.value_is (inv.replicas.version_known d)), subst (IsKept key s g) shows.mark_is (inv.replicas.mark_kept d))

known_and_kept : (key : KeyId) (s : Store) (g : Ghost) (h : Happening) → Happened s h → Inv key s g → (version mark : Stamp) (value : List ℕ) → IsKnown key s version value × IsKept key s g mark → IsKnown key h.store version value × IsKept key h.store (noted_of key s h g) mark
known_and_kept key s g h is inv version mark value was =
    let grows = grows_by key s g h is inv in
    (known_stays key s g h.store (noted_of key s h g) version value grows was.0, kept_stays key s g h.store (noted_of key s h g) mark grows inv.openings.published was.1)

pub read_known_after : (key : KeyId) (s : Store) (g : Ghost) (h : Happening) → Happened s h → Inv key s g → (tag : Tag) (epoch d : ℕ) (version mark : Stamp) (value : List ℕ) → WasSent h.store (m.Read tag key epoch) → WasSent h.store (m.Have tag (record { 0 = d }) version mark value)
    → IsKnown key h.store version value × IsKept key h.store (noted_of key s h g) mark
read_known_after key s g h is inv tag epoch d version mark value asked told =
    known_and_kept key s g h is inv version mark value
    (elim (pair_is key s g h (m.Read tag key epoch) (m.Have tag (record { 0 = d }) version mark value) inv is asked told refl refl (point_of tag tag refl)) as (λ _. IsKnown key s version value × IsKept key s g mark) [
      | both_sent a b ↦ inv.messages.read_known tag epoch d version mark value a b
      | now_replied r ↦ shown_known key s g d version mark value inv (read_replied key s h tag tag epoch d version mark value r).1
    ])

pub freeze_known_after : (key : KeyId) (s : Store) (g : Ghost) (h : Happening) → Happened s h → Inv key s g → (tag : Tag) (epoch d : ℕ) (version mark : Stamp) (value : List ℕ) → WasSent h.store (m.Freeze tag key epoch) → WasSent h.store (m.Have tag (record { 0 = d }) version mark value)
    → IsKnown key h.store version value × IsKept key h.store (noted_of key s h g) mark
freeze_known_after key s g h is inv tag epoch d version mark value asked told =
    known_and_kept key s g h is inv version mark value
    (elim (pair_is key s g h (m.Freeze tag key epoch) (m.Have tag (record { 0 = d }) version mark value) inv is asked told refl refl (point_of tag tag refl)) as (λ _. IsKnown key s version value × IsKept key s g mark) [
      | both_sent a b ↦ inv.messages.freeze_known tag epoch d version mark value a b
      | now_replied r ↦ shown_known key s g d version mark value inv (freeze_replied key s h tag tag epoch d version mark value r).shows
    ])

-- ---- every event keeps what the replicas' answers tell

pub answers_kept : (key : KeyId) (s : Store) (g : Ghost) (h : Happening) → Happened s h → Inv key s g → AnswersTell key h.store (noted_of key s h g)
answers_kept key s g h is inv = record {
  have_read = have_read_after key s g h is inv;
  yes_ask = yes_ask_after key s g h is inv;
  fence_leg = fence_leg_after key s g h is inv;
  yes_store = yes_store_after key s g h is inv;
  yes_repair = yes_repair_after key s g h is inv;
  yes_seed = yes_seed_after key s g h is inv;
  have_freeze = have_freeze_after key s g h is inv;
}

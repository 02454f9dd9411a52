-- What is held in an epoch is held in each later one that has been current.
use Rattle.std.proofs.Common.{◌≡◌, inl, inr, ℕ, ◌+◌, ◌≤◌, Bool, true, false, List, [], ◌∷◌, refl, subst, arith, ltb-false}
use Rattle.std.proofs.lemmas.Bool.{and_from}
use Rattle.register_law.proofs.Words.{and_left, and_right, IsAtMost-refl}
use Rattle.std.specs.Prelude.{nat_lt, if◌then◌else◌, Contains}
use Rattle.std.specs.List.{range_with_len}
use Rattle.span_base.specs.DcSet.{has}
use Rattle.span_base.specs.declared.ids.KeyId.{KeyId}
use Rattle.ticket_rules.specs.declared.stamp.Stamp.{Stamp}
use Rattle.ticket_rules.specs.Stamp.{IsAtMost}
use Rattle.wire_msg.specs.declared.tag.Tag.{Tag}
use Rattle.wire_msg.specs.declared.message.Message.TheVariants as m
use Rattle.span_base.specs.PolicyParts.{faults_of, replicas_of}
use Rattle.world_core.specs.State.{Store, kept_of, policy_of}
use Rattle.register_law.specs.Ghost.{Ghost}
use Rattle.register_law.specs.Seen.{WasSent, version_before, is_at_most, count_of, both}
use Rattle.register_law.specs.Ends.{IsChain}
use Rattle.register_law.proofs.Quorums.{at_most_test, at_most_trans, count_mono, shared, at_most_is}
use Rattle.register_order.proofs.Members.{among, none_among}
use Rattle.register_order.proofs.Stamps.{IsAtMost-trans}
use Rattle.eventual_law.specs.Held.{is_replica, IsHeld, AreFrozen, SwitchHeld, IsAtReplica}

-- what some have, one has
pub one_has : (n : ℕ) (a b : ℕ → Bool) → n + 1 ≤ count_of (both a b) → (d : ℕ) × (a d ≡ true) × (b d ≡ true)
one_has n a b h =
    let x : ℕ → Bool = both a b in
    let some = shared x x x (λ d k. k) (λ d k. k) (omega arith) in
    (some.0, and_left (a some.0) (b some.0) some.1, and_right (a some.0) (b some.0) some.1)

-- a lower stamp is held too
held_below : (key : KeyId) (s : Store) (g : Ghost) (epoch : ℕ) (high low : Stamp) → IsAtMost low high → IsHeld key s g epoch high → IsHeld key s g epoch low
held_below key s g epoch high low below h =
    let w : ℕ → Bool = has (replicas_of (policy_of s key epoch)) in
    let more = count_mono (both w (λ d. is_at_most high (version_before key s g d epoch))) (both w (λ d. is_at_most low (version_before key s g d epoch)))
    (λ d k. and_from (w d) (is_at_most low (version_before key s g d epoch)) (and_left (w d) (is_at_most high (version_before key s g d epoch)) k)
    (at_most_trans low high (version_before key s g d epoch) (at_most_test low high below) (and_right (w d) (is_at_most high (version_before key s g d epoch)) k))) (range_with_len 0 16) in
    omega arith

-- whatever is held in the old epoch is at most what is seeded
below_seeded : (key : KeyId) (s : Store) (g : Ghost) (old : ℕ) (seeded stamp : Stamp) → AreFrozen key s g old seeded → IsHeld key s g old stamp → IsAtMost stamp seeded
below_seeded key s g old seeded stamp frozen held =
    let some = one_has (faults_of (policy_of s key old)) (has (replicas_of (policy_of s key old))) (λ d. is_at_most stamp (version_before key s g d old)) held in
    IsAtMost-trans stamp (version_before key s g some.0 old) seeded (at_most_is stamp (version_before key s g some.0 old) some.2) (frozen.below some.0 some.1)

-- each Switch that was sent is backed
abbrev pub AreSwitches : KeyId → Store → Ghost → Type 0
AreSwitches key s g = (tag : Tag) (old new : ℕ) → WasSent s (m.Switch tag key old new) → SwitchHeld key s g tag.call old new

pub held_on : (key : KeyId) (s : Store) (g : Ghost) → AreSwitches key s g → (stamp : Stamp) (new : ℕ) (rest : List ℕ) → IsChain key s (new ∷ rest) → (e : ℕ) → Contains (new ∷ rest) e → IsHeld key s g e stamp → IsHeld key s g new stamp
held_on key s g backed stamp new [] c e h k = elim (among new [] e h) as (λ _. IsHeld key s g new stamp) [ inl is ↦ subst (λ x. IsHeld key s g x stamp) is k | inr none ↦ absurd (none_among e none) ]
held_on key s g backed stamp new (old ∷ rest) c e h k =
    elim (among new (old ∷ rest) e h) as (λ _. IsHeld key s g new stamp) [
      | inl is ↦ subst (λ x. IsHeld key s g x stamp) is k
      | inr later ↦
          (let b = backed c.1.tag old new c.1.sent in
          held_below key s g new b.seeded stamp (below_seeded key s g old b.seeded stamp b.all_frozen (held_on key s g backed stamp old rest c.2 e later k)) b.held)
    ]

-- a stamp of an earlier epoch that a replica of it had is at most what the last switch's move seeded
pub reached_below : (key : KeyId) (s : Store) (g : Ghost) → AreSwitches key s g → (stamp : Stamp) (tag : Tag) (new old : ℕ) (rest : List ℕ) → WasSent s (m.Switch tag key old new) → IsChain key s (old ∷ rest) → Contains (old ∷ rest) stamp.epoch → IsAtReplica key s g stamp
    → (b : SwitchHeld key s g tag.call old new) → IsAtMost stamp b.seeded
reached_below key s g backed stamp tag new old [] sent c there at b =
    elim (among old [] stamp.epoch there) as (λ _. IsAtMost stamp b.seeded) [ inl is ↦ here is | inr none ↦ absurd (none_among stamp.epoch none) ]
  where
    here : stamp.epoch ≡ old → IsAtMost stamp b.seeded
    here is = IsAtMost-trans stamp (version_before key s g at.d old) b.seeded (subst (λ e. IsAtMost stamp (version_before key s g at.d e)) is at.reached) (b.all_frozen.below at.d (subst (λ e. is_replica key s e at.d) is at.of_policy))
reached_below key s g backed stamp tag new old (older ∷ rest) sent c there at b =
    elim (among old (older ∷ rest) stamp.epoch there) as (λ _. IsAtMost stamp b.seeded) [
      | inl is ↦ here is
      | inr later ↦
          (let first = backed c.1.tag older old c.1.sent in
          IsAtMost-trans stamp first.seeded b.seeded (reached_below key s g backed stamp c.1.tag old older rest c.1.sent c.2 later at first) (below_seeded key s g old b.seeded first.seeded b.all_frozen first.held))
    ]
  where
    here : stamp.epoch ≡ old → IsAtMost stamp b.seeded
    here is = IsAtMost-trans stamp (version_before key s g at.d old) b.seeded (subst (λ e. IsAtMost stamp (version_before key s g at.d e)) is at.reached) (b.all_frozen.below at.d (subst (λ e. is_replica key s e at.d) is at.of_policy))

before_is_below : (b : Bool) (version fixed stamp : Stamp) → (b ≡ false → IsAtMost fixed version) → IsAtMost version version → is_at_most stamp (if b then version else fixed) ≡ true → is_at_most stamp version ≡ true
before_is_below true version fixed stamp f own h = h
before_is_below false version fixed stamp f own h = at_most_trans stamp fixed version h (at_most_test fixed version (f refl))

-- what was held before the freeze is held now
pub held_now : (key : KeyId) (s : Store) (g : Ghost) (epoch : ℕ) (stamp : Stamp) → ((d e : ℕ) → e ≤ (kept_of s d key).frozen → IsAtMost (g.fixed d e) (kept_of s d key).version) → IsHeld key s g epoch stamp
    → faults_of (policy_of s key epoch) + 1 ≤ count_of (both (has (replicas_of (policy_of s key epoch))) (λ d. is_at_most stamp (kept_of s d key).version))
held_now key s g epoch stamp fixed h =
    let w : ℕ → Bool = has (replicas_of (policy_of s key epoch)) in
    let more = count_mono (both w (λ d. is_at_most stamp (version_before key s g d epoch))) (both w (λ d. is_at_most stamp (kept_of s d key).version))
    (λ d k. and_from (w d) (is_at_most stamp (kept_of s d key).version) (and_left (w d) (is_at_most stamp (version_before key s g d epoch)) k)
    (before_is_below (nat_lt (kept_of s d key).frozen epoch) (kept_of s d key).version (g.fixed d epoch) stamp (λ no. fixed d epoch (ltb-false (kept_of s d key).frozen epoch no)) (IsAtMost-refl (kept_of s d key).version)
    (and_right (w d) (is_at_most stamp (version_before key s g d epoch)) k))) (range_with_len 0 16) in
    omega arith

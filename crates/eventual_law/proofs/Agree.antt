-- Replicas agree where all that was sent has been taken.
use Rattle.std.proofs.Common.{◌≡◌, ◌⊎◌, inl, inr, ℕ, ◌==◌, ◌<◌, ◌≤◌, true, List, [], ◌∷◌, ◌∙◌, sym, subst, arith, refl}
use Rattle.register_law.proofs.Words.{and_left}
use Rattle.std.specs.Prelude.{nat_lt, Contains}
use Rattle.std.proofs.lemmas.Bool.{cases_lt, lt-ltb, and_from}
use Rattle.std.proofs.lemmas.Grind.{common_steps}
use Rattle.span_base.specs.declared.ids.KeyId.{KeyId}
use Rattle.span_base.specs.declared.policy.Policy.{Policy}
use Rattle.span_base.specs.DcSet.{has, no_centre}
use Rattle.span_base.specs.PolicyParts.{faults_of, replicas_of}
use Rattle.span_base.proofs.Sets.{has-below}
use Rattle.ticket_rules.specs.declared.stamp.Stamp.{Stamp}
use Rattle.ticket_rules.specs.Stamp.{IsAtMost, stamp_zero}
use Rattle.wire_msg.specs.declared.message.Message.TheVariants as m
use Rattle.epoch_directory.specs.State.{current_of}
use Rattle.relay_proxy.specs.Routes.{parent_of, is_onward, onward_of}
use Rattle.relay_proxy.proofs.SetOf.{has_set_of}
use Rattle.world_core.specs.State.{Store, kept_of, policy_of}
use Rattle.register_law.specs.Ghost.{Ghost}
use Rattle.register_law.specs.Seen.{is_at_most}
use Rattle.register_law.specs.Ends.{IsChain, IsNewest}
use Rattle.register_law.proofs.Quorums.{at_most_is}
use Rattle.register_order.proofs.Stamps.{IsAtMost-trans}
use Rattle.eventual_law.specs.Held.{IsAtReplica}
use Rattle.eventual_law.specs.Laws.{IsCurrent, IsPlaced}
use Rattle.eventual_law.specs.Puts.{IsStored}
use Rattle.eventual_law.specs.Quiet.{IsSpread, HasPushed}
use Rattle.eventual_law.proofs.AtRest.{IsAtRest, by_replica, none_frozen}
use Rattle.eventual_law.proofs.Bounds.{opened_below}
use Rattle.eventual_law.proofs.Carried.{one_has, reached_below}
use Rattle.eventual_law.proofs.Covered.{covered, IsCovered}
use Rattle.eventual_law.proofs.Follows.{zero_below, opened_before, stored_are_held}
use Rattle.span_base.specs.declared.dc_set.DcSet.{DcSet}
use Rattle.register_order.proofs.Members.{none_among}

-- a push of the current epoch comes to every replica of its policy
spread_reaches : (key : KeyId) (s : Store) (g : Ghost) → IsAtRest key s g → (stamp : Stamp) → IsSpread key s stamp → current_of s.directory key ≤ stamp.epoch → (d : ℕ) → has (replicas_of (policy_of s key stamp.epoch)) d ≡ true → IsAtMost stamp (kept_of s d key).version
spread_reaches key s g r stamp spread now d there =
    elim way.comes as (λ _. IsAtMost stamp (kept_of s d key).version) [
      | inl same ↦ subst (λ n. IsAtMost stamp (kept_of s n key).version) (sym same) first.reached
      | inr on ↦ (not_over d no_centre (by_replica key s g r d (m.Push spread.tag key stamp no_centre spread.value) (placed.there d there) (first.passed d (onward on)) refl)).reached
    ]
  where
    policy : Policy
    policy = policy_of s key stamp.epoch

    way : IsCovered policy spread.member d
    way = covered policy spread.member d (r.goes.go.sound stamp.epoch spread.published.0 spread.published.1).sound there

    placed : IsPlaced s (replicas_of policy)
    placed = r.placed stamp.epoch spread.published.0 spread.published.1

    parent_there : has (replicas_of policy) way.parent ≡ true
    parent_there = and_left (has (replicas_of policy) way.parent) (parent_of policy spread.member way.parent == way.parent) way.direct

    not_over : (e : ℕ) (onward : DcSet) → (stamp.epoch ≤ (kept_of s e key).frozen) ⊎ HasPushed key s e spread.tag stamp onward spread.value → HasPushed key s e spread.tag stamp onward spread.value
    not_over e onward (inl over) = absurd (let lt = none_frozen key s g r e in omega arith)
    not_over e onward (inr did) = did

    first : HasPushed key s way.parent spread.tag stamp (onward_of policy spread.member way.parent) spread.value
    first = not_over way.parent (onward_of policy spread.member way.parent)
        (by_replica key s g r way.parent (m.Push spread.tag key stamp (onward_of policy spread.member way.parent) spread.value) (placed.there way.parent parent_there) (spread.sent way.parent way.direct) refl)

    onward : is_onward policy spread.member way.parent d ≡ true → has (onward_of policy spread.member way.parent) d ≡ true
    onward on = has_set_of (is_onward policy spread.member way.parent) d ∙ and_from (nat_lt d 16) (is_onward policy spread.member way.parent d) (lt-ltb d 16 (has-below (replicas_of policy) d there)) on

-- the version that opened the current epoch came to every replica of it
seeds_reach : (key : KeyId) (s : Store) (g : Ghost) → IsAtRest key s g → (stamp : Stamp) (current : ℕ) (opened : List ℕ) → current ≡ current_of s.directory key → IsChain key s opened → IsNewest current opened → stamp.epoch < current → Contains opened stamp.epoch → IsAtReplica key s g stamp
    → (d : ℕ) → has (replicas_of (policy_of s key current)) d ≡ true → IsAtMost stamp (kept_of s d key).version
seeds_reach key s g r stamp current [] now chain newest lt opened at d there = absurd newest
seeds_reach key s g r stamp current (new ∷ []) now chain newest lt opened at d there = absurd (none_among stamp.epoch (opened_before new [] stamp.epoch (omega arith) opened))
seeds_reach key s g r stamp current (new ∷ old ∷ rest) now chain newest lt opened at d there =
    let inv = r.goes.inv in
    let b = inv.moves.switch_sent chain.1.tag old new chain.1.sent in
    let below : IsAtMost stamp b.seeded = reached_below key s g inv.moves.switch_sent stamp chain.1.tag new old rest chain.1.sent chain.2 (opened_before new (old ∷ rest) stamp.epoch (omega arith) opened) at b in
    let here : has (replicas_of (policy_of s key new)) d ≡ true = subst (λ n. has (replicas_of (policy_of s key n)) d ≡ true) (sym newest) there in
    let first : 1 ≤ new = let later = b.later in omega arith in
    let seed = b.to_all d here in
    elim (by_replica key s g r d (m.Seed seed.tag key new b.seeded seed.value) ((r.placed new first b.published).there d here) seed.sent refl) as (λ _. IsAtMost stamp (kept_of s d key).version) [
      | inl over ↦ absurd (let no = none_frozen key s g r d in omega arith)
      | inr did ↦ IsAtMost-trans stamp b.seeded (kept_of s d key).version below did.0
    ]

-- what one replica of the current policy holds, each other one holds too
below_each : (key : KeyId) (s : Store) (g : Ghost) → IsAtRest key s g → (d e : ℕ) → IsCurrent s key e → IsAtMost (kept_of s d key).version (kept_of s e key).version
below_each key s g r d e there = elim (r.goes.inv.versions.versions.kept d) as (λ _. IsAtMost stamp (kept_of s e key).version) [
  | inl zero ↦ from_zero zero
  | inr at ↦ elim (r.goes.go.versions.kept d) as (λ _. IsAtMost stamp (kept_of s e key).version) [
    | inl zero ↦ from_zero zero
    | inr spread ↦ elim (cases_lt stamp.epoch (current_of s.directory key)) as (λ _. IsAtMost stamp (kept_of s e key).version) [
      | inl lt ↦ seeds_reach key s g r stamp (current_of s.directory key) g.opened refl r.goes.inv.epochs.chain r.goes.inv.epochs.newest lt at.opened at e there
      | inr le ↦
          (let most = opened_below key s g r.goes.inv stamp.epoch at.opened in
          let is : current_of s.directory key ≡ stamp.epoch = omega arith in
          spread_reaches key s g r stamp spread le e (subst (λ n. has (replicas_of (policy_of s key n)) e ≡ true) is there))
    ]
  ]
]
  where
    stamp : Stamp
    stamp = (kept_of s d key).version

    from_zero : stamp ≡ stamp_zero → IsAtMost stamp (kept_of s e key).version
    from_zero zero = subst (λ (x : Stamp). IsAtMost x (kept_of s e key).version) (sym zero) (zero_below (kept_of s e key).version)

both_same : (a b : Stamp) → IsAtMost a b → IsAtMost b a → a ≡ b
both_same a b h j = grind (arith, common_steps)

pub versions_agree : (key : KeyId) (s : Store) (g : Ghost) → IsAtRest key s g → (d e : ℕ) → IsCurrent s key d → IsCurrent s key e → (kept_of s d key).version ≡ (kept_of s e key).version
versions_agree key s g r d e there also = both_same (kept_of s d key).version (kept_of s e key).version (below_each key s g r d e also) (below_each key s g r e d there)

-- the ticket of each put that was answered is at most what each replica of the current policy holds
pub stored_everywhere : (key : KeyId) (s : Store) (g : Ghost) → IsAtRest key s g → (stamp : Stamp) → IsStored key g.marks stamp → (e : ℕ) → IsCurrent s key e → IsAtMost stamp (kept_of s e key).version
stored_everywhere key s g r stamp stored e there =
    let policy : Policy = policy_of s key (current_of s.directory key) in
    let some = one_has (faults_of policy) (has (replicas_of policy)) (λ d. is_at_most stamp (kept_of s d key).version) (stored_are_held key s g r.goes.inv stamp stored) in
    IsAtMost-trans stamp (kept_of s some.0 key).version (kept_of s e key).version (at_most_is stamp (kept_of s some.0 key).version some.2) (below_each key s g r some.0 e there)

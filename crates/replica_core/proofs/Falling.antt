-- Nothing that a replica keeps falls.
use Rattle.std.proofs.Common.{◌≡◌, ℕ, zero, suc, Bool, true, false, cond, ◌&&◌, not, List, [], ◌∷◌, get_or, set, refl, subst, arith, Option, Some, None}
use Rattle.std.specs.Ordering.{is_gt}
use Rattle.std.specs.declared.cmp.Ordering.{Ordering}
use Rattle.std.specs.declared.cmp.Ordering.TheVariants.{Less, Equal, Greater}
use Rattle.std.proofs.lemmas.Grind.{common_steps}
use Rattle.span_base.specs.declared.ids.KeyId.{KeyId}
use Rattle.ticket_rules.specs.declared.stamp.Stamp.{Stamp}
use Rattle.ticket_rules.specs.Stamp.{stamp_cmp, IsAbove, IsAtMost, grants, stores}
use Rattle.ticket_rules.proofs.StampOrder.{IsAbove-irrefl, IsAbove-trans, IsAtMost-refl}
use Rattle.wire_msg.specs.declared.message.Message.{Message}
use Rattle.wire_msg.specs.declared.message.Message.TheVariants.{Read, Ask, Store, Repair, Confirm, Freeze, Seed, Push, Lookup, Switch, Have, Yes, Held, Gone, Here, Switched}
use Rattle.replica_core.specs.declared.kept.Kept.{Kept}
use Rattle.replica_core.specs.Keeping.{opening, is_over, merge, after_merge, kept_after}
use Rattle.replica_core.specs.Rule.{State, kept_at, request_key, step_at, step}
use Rattle.replica_core.specs.Rising.{Rises}

at_most_above : (a b : Stamp) → IsAbove b a → IsAtMost a b
at_most_above a b above h = IsAbove-irrefl a (IsAbove-trans a b a h above)

is_greater : (o : Ordering) → is_gt o ≡ true → o ≡ Greater
is_greater Less h = cc
is_greater Equal h = cc
is_greater Greater h = refl

-- the greater of two stamps isn't below the first
greater_rises : (a b : Stamp) (t : Bool) → is_gt (stamp_cmp b a) ≡ t → IsAtMost a (cond t b a)
greater_rises a b true h = at_most_above a b (is_greater (stamp_cmp b a) h)
greater_rises a b false h = IsAtMost-refl a

-- a ticket that is granted isn't below the fence
granted_rises : (t fence version : Stamp) → grants t fence version ≡ true → IsAtMost fence t
granted_rises t fence version h = grind (arith, common_steps)

pub rises_itself : (kept : Kept) → Rises kept kept
rises_itself kept = record {
  version = IsAtMost-refl kept.version;
  value = λ _. refl;
  mark = IsAtMost-refl kept.mark;
  fence = IsAtMost-refl kept.fence;
  frozen = omega arith;
}

rises_either : (b : Bool) (old x y : Kept) → (b ≡ true → Rises old x) → Rises old y → Rises old (cond b x y)
rises_either true old x y p q = p refl
rises_either false old x y p q = q

merge_rises : (kept : Kept) (stamp : Stamp) (value : List ℕ) → Rises kept (merge kept stamp value)
merge_rises kept stamp value =
    rises_either (is_gt (stamp_cmp stamp kept.version)) kept (record kept { version = stamp; value = value }) kept
    (λ above. record {
      version = at_most_above kept.version stamp (is_greater (stamp_cmp stamp kept.version) above);
      value = λ same. let P : Stamp → Type 0 = λ s. IsAbove s kept.version in absurd (IsAbove-irrefl kept.version (subst P same (is_greater (stamp_cmp stamp kept.version) above)));
      mark = IsAtMost-refl kept.mark;
      fence = IsAtMost-refl kept.fence;
      frozen = omega arith;
    })
    (rises_itself kept)

after_merge_rises : (kept : Kept) (epoch : ℕ) (stamp : Stamp) (value : List ℕ) → Rises kept (after_merge kept epoch stamp value)
after_merge_rises kept epoch stamp value = rises_either (is_over kept epoch) kept kept (merge kept stamp value) (λ _. rises_itself kept) (merge_rises kept stamp value)

and_right : (a b : Bool) → (a && b) ≡ true → b ≡ true
and_right true b h = h
and_right false b h = cc

-- nothing that is kept of a key falls with a message
pub kept_after_rises : (kept : Kept) (message : Message) → Rises kept (kept_after kept message)
kept_after_rises kept (Read tag key epoch) = rises_itself kept
kept_after_rises kept (Ask tag key stamp) =
    rises_either (not (is_over kept stamp.epoch) && grants stamp kept.fence kept.version) kept (record kept { fence = stamp }) kept
    (λ h. record {
      version = IsAtMost-refl kept.version;
      value = λ _. refl;
      mark = IsAtMost-refl kept.mark;
      fence = granted_rises stamp kept.fence kept.version (and_right (not (is_over kept stamp.epoch)) (grants stamp kept.fence kept.version) h);
      frozen = omega arith;
    })
    (rises_itself kept)
kept_after_rises kept (Store tag key stamp value) =
    rises_either (not (is_over kept stamp.epoch) && stores stamp kept.fence) kept (merge kept stamp value) kept (λ _. merge_rises kept stamp value) (rises_itself kept)
kept_after_rises kept (Repair tag key epoch stamp value) = after_merge_rises kept epoch stamp value
kept_after_rises kept (Confirm tag key stamp) = record {
  version = IsAtMost-refl kept.version;
  value = λ _. refl;
  mark = greater_rises kept.mark stamp (is_gt (stamp_cmp stamp kept.mark)) refl;
  fence = IsAtMost-refl kept.fence;
  frozen = omega arith;
}
kept_after_rises kept (Freeze tag key epoch) = record {
  version = IsAtMost-refl kept.version;
  value = λ _. refl;
  mark = IsAtMost-refl kept.mark;
  fence = IsAtMost-refl kept.fence;
  frozen = omega arith;
}
kept_after_rises kept (Seed tag key epoch stamp value) = after_merge_rises kept epoch stamp value
kept_after_rises kept (Push tag key stamp onward value) = after_merge_rises kept stamp.epoch stamp value
kept_after_rises kept (Lookup tag key) = rises_itself kept
kept_after_rises kept (Switch tag key old_epoch new_epoch) = rises_itself kept
kept_after_rises kept (Have tag replica version mark value) = rises_itself kept
kept_after_rises kept (Yes tag replica) = rises_itself kept
kept_after_rises kept (Held tag replica stamp) = rises_itself kept
kept_after_rises kept (Gone tag replica epoch) = rises_itself kept
kept_after_rises kept (Here tag key epoch policy latest_epoch latest_policy) = rises_itself kept
kept_after_rises kept (Switched tag key done epoch) = rises_itself kept

-- where one key's part rises, each key's does
set_rises : (kept : List Kept) (i j : ℕ) (new : Kept) → Rises (get_or kept i opening) new → Rises (get_or kept j opening) (get_or (set kept i new) j opening)
set_rises [] i j new h = rises_itself opening
set_rises (x ∷ xs) zero zero new h = h
set_rises (x ∷ xs) zero (suc j) new h = rises_itself (get_or xs j opening)
set_rises (x ∷ xs) (suc i) zero new h = rises_itself x
set_rises (x ∷ xs) (suc i) (suc j) new h = set_rises xs i j new h

step_at_rises : (state : State) (message : Message) (at : Option KeyId) (key : KeyId) → Rises (kept_at state key) (kept_at (step_at state message at).state key)
step_at_rises state message None key = rises_itself (kept_at state key)
step_at_rises state message (Some at) key = set_rises state.kept at.0 key.0 (kept_after (kept_at state at) message) (kept_after_rises (kept_at state at) message)

-- nothing that is kept falls with a message
pub step_rises : (state : State) (message : Message) (key : KeyId) → Rises (kept_at state key) (kept_at (step state message).state key)
step_rises state message key = step_at_rises state message (request_key message) key

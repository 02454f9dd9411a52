-- After every run that wasn't refused, what was delivered has been taken.
use Rattle.std.proofs.Common.{◌≡◌, ◌⊎◌, inl, inr, ℕ, ◌≤◌, false, List, [], ◌∷◌, refl, sym, ap, subst, arith}
use Rattle.std.specs.Prelude.{None, Ok, Err, Contains}
use Rattle.span_base.specs.declared.ids.KeyId.{KeyId}
use Rattle.wire_msg.specs.declared.actor.Actor.TheVariants as to
use Rattle.wire_msg.specs.declared.message.Message.TheVariants as m
use Rattle.epoch_directory.specs.State.{latest}
use Rattle.replica_core.specs.declared.kept.Kept.{Kept}
use Rattle.world_core.specs.declared.event.Event.{Event}
use Rattle.world_core.specs.declared.event.Event.TheVariants.{Deliver}
use Rattle.world_core.specs.declared.event.Header.{Header}
use Rattle.world_core.specs.declared.live.LiveCall.TheVariants.{EventualMove}
use Rattle.world_core.specs.State.{Store, opening, policy_of}
use Rattle.world_core.specs.Step.{Outcome, Happening, step}
use Rattle.world_core.specs.Run.{Run, run, run_of, ran, store_after, IsHeader, MayRun, GoingOn}
use Rattle.register_law.specs.Ghost.{Ghost, first_ghost, noted, noted_of, noted_by, history}
use Rattle.register_law.proofs.Induction.{Keeps, all_along}
use Rattle.register_law.proofs.Happened.{happened}
use Rattle.register_law.proofs.Opening.{nothing_sent, none_live, nothing_kept}
use Rattle.register_order.proofs.Members.{among, none_among}
use Rattle.eventual_law.specs.Keys.{IsEventualKey}
use Rattle.eventual_law.specs.Held.{InvOfEventual}
use Rattle.eventual_law.specs.Quiet.{IsSoundEventual, IsZeroOrPushed, IsDone, MovesGoOn}
use Rattle.eventual_law.proofs.DoneKept.{done_stays}
use Rattle.eventual_law.proofs.DoneNow.{done_now}
use Rattle.eventual_law.proofs.HeldRun.{grows_by, inv_kept, inv_first}
use Rattle.eventual_law.proofs.QuietKept.{go_kept}
use Rattle.eventual_law.proofs.SoundKept.{sound_first}

-- all that agreement rests on
pub record GoesOn (key : KeyId) (s : Store) (g : Ghost) : Type 0 where
  pub inv : InvOfEventual key s g
  pub go : MovesGoOn key s g

goes_keeps : (key : KeyId) → Keeps key (GoesOn key)
goes_keeps key s g e h taken may was =
    let is = happened s e h taken in
    record { inv = inv_kept key s g h is was.inv; go = go_kept key s g e h taken may is was.inv was.go (grows_by key s g h is was.inv) }

-- a message that was taken
pub record IsTaken (key : KeyId) (n : ℕ) (s : Store) (g : Ghost) : Type 0 where
  pub goes : GoesOn key s g
  pub done : IsDone key s n

taken_keeps : (key : KeyId) (n : ℕ) → Keeps key (IsTaken key n)
taken_keeps key n s g e h taken may was =
    let is = happened s e h taken in
    record { goes = goes_keeps key s g e h taken may was.goes; done = done_stays key s g h is was.goes.inv (grows_by key s g h is was.goes.inv) n was.done }

-- an event delivers the message, or a later one does
one_done : (key : KeyId) (n : ℕ) (s : Store) (g : Ghost) (e : Event) (es : List Event) (o : Outcome) (rest : Run) (going : Type 0)
    → ((h : Happening) → o ≡ Ok h → GoesOn key h.store (noted_of key s h g) × (Deliver n ≡ e → IsDone key h.store n))
    → (going → GoesOn key (store_after s o) (noted_by key s o g) → rest.refused ≡ None → IsDone key (store_after s o) n ⊎ Contains es (Deliver n) → IsDone key rest.store n)
    → GoingOn o going → (ran s o rest).refused ≡ None → Contains (e ∷ es) (Deliver n) → IsDone key (ran s o rest).store n
one_done key n s g e es (Ok h) rest going now later may whole c =
    later may (now h refl).0 whole (elim (among e es (Deliver n) c) as (λ _. IsDone key h.store n ⊎ Contains es (Deliver n)) [ inl is ↦ inl ((now h refl).1 is) | inr more ↦ inr more ])
one_done key n s g e es (Err fault) rest going now later may whole c = absurd (cc)

-- each message that these events delivered was taken
delivered_are_done : (key : KeyId) (n : ℕ) (events : List Event) (s : Store) (g : Ghost) → MayRun events s → GoesOn key s g → (run events s).refused ≡ None → Contains events (Deliver n) → IsDone key (run events s).store n
unfolding run MayRun
delivered_are_done key n [] s g may was whole c = absurd (none_among (Deliver n) c)
delivered_are_done key n (e ∷ es) s g may was whole c =
    one_done key n s g e es (step s e) (run es (store_after s (step s e))) (MayRun es (store_after s (step s e)))
    (λ h is. (goes_keeps key s g e h is may.0 was, λ same. done_now key s g n h (subst (λ (x : Event). step s x ≡ Ok h) (sym same) is) (happened s e h is) was.inv was.go))
    (λ more next w d. elim d as (λ _. IsDone key (run es (store_after s (step s e))).store n) [
      | inl done ↦ (all_along (IsTaken key n) key (taken_keeps key n) es (store_after s (step s e)) (noted key s e g) more (record { goes = next; done = done })).done
      | inr at ↦ delivered_are_done key n es (store_after s (step s e)) (noted key s e g) more next w at
    ])
    may.1 whole c

last_is_one : (header : Header) (n : ℕ) → 1 ≤ n → n ≤ latest (opening header).directory → n ≡ 1
unfolding opening
last_is_one header n first last = omega arith

go_first : (header : Header) (key : KeyId) → IsHeader header → IsEventualKey header key.0 → MovesGoOn key (opening header) first_ghost
go_first header key h e = record {
  handles = λ p handle live there. absurd (none_live header p handle live there);
  sound = λ n first last. subst (λ i. IsSoundEventual (policy_of (opening header) key i)) (sym (last_is_one header n first last)) (sound_first header key h e);
  freeze_opened = λ tag epoch sent. absurd (nothing_sent header (m.Freeze tag key epoch) sent);
  frozen_by = λ d. inl (ap (λ (x : Kept). x.frozen) (nothing_kept header d key));
  gone_seed = λ tag d epoch last stamp value asked told. absurd (nothing_sent header (m.Seed tag key epoch stamp value) asked);
  not_switched = λ tag epoch sent. absurd (nothing_sent header (m.Switched tag key false epoch) sent);
  undecided = λ p handle call lives _. absurd (none_live header p handle (EventualMove call) lives);
  closing = λ tag sent. absurd (nothing_sent header (m.Freeze tag key _) sent);
  pushed = λ d tag stamp onward value sent. absurd (nothing_sent header (m.Push tag key stamp onward value) (to.Replica d, sent));
  versions = record {
    seeded = λ tag epoch stamp value sent. absurd (nothing_sent header (m.Seed tag key epoch stamp value) sent);
    kept = λ d. subst (λ (x : Kept). IsZeroOrPushed key (opening header) x.version x.value) (sym (nothing_kept header d key)) (inl refl);
    had = λ tag replica version mark value sent _ _ _ _. absurd (nothing_sent header (m.Have tag replica version mark value) sent);
    best = λ p handle call old target found lives _ _. absurd (none_live header p handle (EventualMove call) lives);
  };
}

goes_first : (header : Header) (key : KeyId) → IsHeader header → IsEventualKey header key.0 → GoesOn key (opening header) first_ghost
goes_first header key h e = record { inv = inv_first header key e; go = go_first header key h e }

-- of every run from the state that a header opens
pub goes_at_end : (header : Header) (key : KeyId) (events : List Event) → IsHeader header → IsEventualKey header key.0 → MayRun events (opening header) → GoesOn key (run_of header events).store (history key events (opening header) first_ghost)
goes_at_end header key events h e may = all_along (GoesOn key) key (goes_keeps key) events (opening header) first_ghost may (goes_first header key h e)

pub done_at_end : (header : Header) (key : KeyId) (events : List Event) (n : ℕ) → IsHeader header → IsEventualKey header key.0 → MayRun events (opening header) → (run_of header events).refused ≡ None → Contains events (Deliver n) → IsDone key (run_of header events).store n
done_at_end header key events n h e may whole c = delivered_are_done key n events (opening header) first_ghost may (goes_first header key h e) whole c

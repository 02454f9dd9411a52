-- After every run each replica keeps its greatest push of each eventual key.
use Rattle.std.proofs.Common.{◌≡◌, ℕ, List, [], ◌∷◌, ◌++◌, inl, refl, sym, ap, ◌∙◌, subst, arith}
use Rattle.std.specs.Prelude.{Ok, Err}
use Rattle.std.proofs.lemmas.List.{append_assoc}
use Rattle.span_base.specs.declared.ids.KeyId.{KeyId}
use Rattle.call_phase.specs.declared.best.Found.{Found}
use Rattle.replica_core.specs.declared.kept.Kept.{Kept}
use Rattle.epoch_directory.specs.State.{is_strong}
use Rattle.world_core.specs.declared.event.Event.{Event}
use Rattle.world_core.specs.declared.event.Header.{Header}
use Rattle.world_core.specs.State.{Store, opening, kept_of}
use Rattle.world_core.specs.Step.{Happening, Outcome, step}
use Rattle.world_core.specs.Run.{Run, run, ran, store_after, run_of}
use Rattle.register_order.proofs.Members.{none_among}
use Rattle.register_law.proofs.Happened.{happened}
use Rattle.register_law.proofs.Opening.{nothing_sent, none_live, nothing_kept, policy_is}
use Rattle.register_law.proofs.OpeningHolds.{opening_seats, opening_view_keys}
use Rattle.eventual_law.specs.Keys.{IsEventualKey}
use Rattle.eventual_law.specs.Pushes.{pushes, pushed_in, taken_first}
use Rattle.eventual_law.specs.Kinds.{KeyIsEventual}
use Rattle.eventual_law.proofs.KindsKept.{kinds_kept}
use Rattle.eventual_law.proofs.Greatest.{KeepsGreatest, none_more}
use Rattle.eventual_law.proofs.GreatestStep.{Makes, Greatest, event_makes}

-- before anything happened
pub kinds_first : (header : Header) (key : KeyId) → IsEventualKey header key.0 → KeyIsEventual key (opening header)
unfolding opening
kinds_first header key k = record {
  tags = record {
    sent_numbered = λ message sent. absurd (nothing_sent header message sent);
    live_numbered = λ p handle call live. absurd (none_live header p handle call live);
    live_once = λ p a b first second live _ _. absurd (none_live header p a first live);
    view_keys = opening_view_keys header;
    phase_bound = λ p handle call message live _ _. absurd (none_live header p handle call live);
    answers_asked = λ message sent _. absurd (nothing_sent header message sent);
  };
  published = omega arith;
  eventual = ap is_strong (policy_is header key) ∙ k.eventual;
  seats = opening_seats header key k.exists;
  live_kinds = λ p handle live lives _. absurd (none_live header p handle live lives);
  sent_kinds = λ message sent _. absurd (nothing_sent header message sent);
}

one_more : (key : KeyId) (d : ℕ) (all now later : List Found) (s : Store) (o : Outcome) (rest : Run) → ((h : Happening) → o ≡ Ok h → KeyIsEventual key h.store) → Greatest key d all s → Makes (Greatest key d (all ++ now)) o
    → (KeyIsEventual key (store_after s o) → Greatest key d (all ++ now) (store_after s o) → Greatest key d ((all ++ now) ++ later) rest.store)
    → Greatest key d (all ++ taken_first o now later) (ran s o rest).store
one_more key d all now later s (Ok h) rest kinds was made more = subst (λ (x : List Found). Greatest key d x rest.store) (append_assoc all now later) (more (kinds h refl) made)
one_more key d all now later s (Err fault) rest kinds was made more = none_more all (kept_of s d key) was

greatest_along : (key : KeyId) (d : ℕ) (events : List Event) (s : Store) (all : List Found) → KeyIsEventual key s → Greatest key d all s → Greatest key d (all ++ pushes key d events s) (run events s).store
unfolding run pushes
greatest_along key d [] s all k h = none_more all (kept_of s d key) h
greatest_along key d (e ∷ es) s all k h =
    one_more key d all (pushed_in key d s e) (pushes key d es (store_after s (step s e))) s (step s e) (run es (store_after s (step s e)))
    (λ h is. kinds_kept key s h (happened s e h is) k) h (event_makes key d all s e k h)
    (λ k' h'. greatest_along key d es (store_after s (step s e)) (all ++ pushed_in key d s e) k' h')

pub greatest_at_end : (header : Header) (events : List Event) (key : KeyId) → IsEventualKey header key.0 → (d : ℕ) → Greatest key d (pushes key d events (opening header)) (run_of header events).store
greatest_at_end header events key k d =
    greatest_along key d events (opening header) [] (kinds_first header key k)
    (subst (λ (x : Kept). KeepsGreatest [] x) (sym (nothing_kept header d key)) (record { is_one = inl (refl, refl); greatest = λ push c. absurd (none_among push c) }))

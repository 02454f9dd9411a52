-- A run with one event more.
use Rattle.std.proofs.Common.{◌≡◌, ℕ, ◌+◌, List, [], ◌∷◌, ◌++◌, refl, sym, ap, ◌∙◌, arith}
use Rattle.std.specs.Prelude.{Option, Some, None, Ok, Err}
use Rattle.std.proofs.lemmas.List.{append_assoc, append-nil}
use Rattle.run_marks.specs.declared.mark.Mark.{Mark}
use Rattle.world_core.specs.declared.event.Event.{Event}
use Rattle.world_core.specs.declared.event.StepFault.{StepFault}
use Rattle.world_core.specs.State.{Store}
use Rattle.world_core.specs.Step.{Outcome, step}
use Rattle.world_core.specs.Run.{Run, nothing_ran, after_marks, store_after, ran, run}

-- a run that went to its end goes on with what one more event does
abbrev pub going_on : Run → Outcome → Run
going_on r (Ok happening) = record { store = happening.store; marks = r.marks ++ happening.marks; taken = r.taken + 1; refused = None }
going_on r (Err fault) = record { store = r.store; marks = r.marks; taken = r.taken; refused = Some fault }

-- a refused event has ended it
abbrev pub one_more_by : Run → Outcome → Option StepFault → Run
one_more_by r outcome None = going_on r outcome
one_more_by r outcome (Some fault) = r

abbrev pub one_more : Run → Event → Run
one_more r event = one_more_by r (step r.store event) r.refused

-- marks that come first don't matter to what comes last
after_one : (marks : List Mark) (r : Run) (outcome : Outcome) (refused : Option StepFault) → after_marks marks (one_more_by r outcome refused) ≡ one_more_by (after_marks marks r) outcome refused
after_one marks r (Ok happening) None =
    ap (λ (xs : List Mark). let x : Run = record { store = happening.store; marks = xs; taken = 1 + (r.taken + 1); refused = None } in x) (sym (append_assoc marks r.marks happening.marks))
    ∙ ap (λ (n : ℕ). let x : Run = record { store = happening.store; marks = (marks ++ r.marks) ++ happening.marks; taken = n; refused = None } in x) (omega arith)
after_one marks r (Err fault) None = refl
after_one marks r outcome (Some fault) = refl

from_nothing : (store : Store) (outcome : Outcome) → ran store outcome (nothing_ran (store_after store outcome)) ≡ going_on (nothing_ran store) outcome
from_nothing store (Ok happening) =
    ap (λ (xs : List Mark). let x : Run = record { store = happening.store; marks = xs; taken = 1; refused = None } in x) (append-nil happening.marks)
from_nothing store (Err fault) = refl

pub run_more : (events : List Event) (event : Event) (store : Store) → run (events ++ event ∷ []) store ≡ one_more (run events store) event
unfolding run
run_more [] event store = from_nothing store (step store event)
run_more (first ∷ events) event store = by (step store first) (run_more events event (store_after store (step store first)))
  where
    by : (outcome : Outcome) → run (events ++ event ∷ []) (store_after store outcome) ≡ one_more (run events (store_after store outcome)) event
        → ran store outcome (run (events ++ event ∷ []) (store_after store outcome)) ≡ one_more (ran store outcome (run events (store_after store outcome))) event
    by (Ok happening) rest =
        let r : Run = run events happening.store in
        ap (after_marks happening.marks) rest ∙ after_one happening.marks r (step r.store event) r.refused
    by (Err fault) rest = refl

-- Each step that is taken goes on with the run of the events before it.
use Rattle.std.proofs.Common.{◌≡◌, ℕ, ◌+◌, List, [], ◌∷◌, ◌++◌, length, refl, sym, ap, ◌∙◌, subst}
use Rattle.std.specs.Prelude.{None, Ok, Err}
use Rattle.std.proofs.lemmas.List.{length-append}
use Rattle.run_marks.specs.declared.mark.Mark.{Mark}
use Rattle.run_marks.specs.History.{history_of}
use Rattle.run_marks.specs.Register.{IsRegisterOrder}
use Rattle.world_core.specs.declared.event.Event.{Event}
use Rattle.world_core.specs.declared.event.StepFault.{StepFault}
use Rattle.world_core.specs.declared.event.StepFault.TheVariants.{NoActor, NoKey, WrongMode, NoMessage, NoCall, Limit, Taker, NoMemory}
use Rattle.world_core.specs.State.{Store, opening}
use Rattle.world_core.specs.Step.{Outcome, Happening, step}
use Rattle.world_core.specs.Run.{Run, run, run_of, ran, store_after, MayHappen, MayRun, GoingOn}
use Rattle.world_core.specs.Ends.{Seen, StepEnds}
use Rattle.world_core.proofs.Runs.{one_more, going_on, run_more}
use Rattle.register_law.proofs.Induction.{registers}
use Rattle.cloud_law.specs.Taken.{HasTaken, StoresOpen, StepsTake, RefusalsTakeNone, TakenKeepRegisters}

-- the run that went to its end with these
abbrev whole : Store → List Mark → ℕ → Run
whole store marks taken = record { store = store; marks = marks; taken = taken; refused = None }

pub stores_open : StoresOpen
unfolding run MayRun
stores_open header = record { may = tt; runs = refl }

nothing_more : (outcome : Outcome) → GoingOn outcome (Unit {0})
nothing_more (Ok happening) = tt
nothing_more (Err fault) = tt

more_by : (store : Store) (outcome : Outcome) (rest : Run) (event : Event) (before after : Type 0)
    → GoingOn outcome before → MayHappen (ran store outcome rest).store event → (before → MayHappen rest.store event → after) → GoingOn outcome after
more_by store (Ok happening) rest event before after may there more = more may there
more_by store (Err fault) rest event before after may there more = tt

-- one event more may happen, where it may at the end of the run of the others
may_more : (events : List Event) (event : Event) (store : Store) → MayRun events store → MayHappen (run events store).store event → MayRun (events ++ event ∷ []) store
unfolding run MayRun
may_more [] event store may here = (here, nothing_more (step store event))
may_more (first ∷ events) event store may here =
    let outcome : Outcome = step store first in
    let next : Store = store_after store outcome in
    (may.0, more_by store outcome (run events next) event (MayRun events next) (MayRun (events ++ event ∷ []) next) may.1 here (may_more events event next))

pub steps_take : StepsTake
steps_take header events marks more old new event taken may ends =
    let first : Store = opening header in
    let n : ℕ = length events in
    let h : Happening = ends.happening in
    let at_end : (run events first).store ≡ old.store = ap (λ (r : Run). r.store) taken.runs in
    record {
      may = may_more events event first taken.may (subst (λ (s : Store). MayHappen s event) (sym at_end) may);
      runs = run_more events event first
          ∙ ap (λ (r : Run). one_more r event) taken.runs
          ∙ ap (going_on (whole old.store marks n)) ends.taken
          ∙ ap (λ (s : Store). whole s (marks ++ h.marks) (n + 1)) (sym ends.store_is)
          ∙ ap (λ (xs : List Mark). whole new.store (marks ++ xs) (n + 1)) (sym ends.marks_are)
          ∙ ap (whole new.store (marks ++ more)) (sym (length-append events (event ∷ [])));
    }

-- the store is as it was
abbrev Unmoved : Seen → Seen → Type 0
Unmoved old new = new.store ≡ old.store

unmoved : (old new : Seen) (event : Event) (fault : StepFault) → StepEnds old new event (Err fault) → Unmoved old new
unmoved old new event NoActor ends = ap (λ (x : Seen). x.store) ends.1
unmoved old new event NoKey ends = ap (λ (x : Seen). x.store) ends.1
unmoved old new event WrongMode ends = ap (λ (x : Seen). x.store) ends.1
unmoved old new event (NoMessage sent) ends = ap (λ (x : Seen). x.store) ends.1
unmoved old new event NoCall ends = ap (λ (x : Seen). x.store) ends.1
unmoved old new event (Limit what number) ends = ap (λ (x : Seen). x.store) ends.1
unmoved old new event (Taker fault) ends = ends.store_is
unmoved old new event (NoMemory error) ends = ap (λ (x : Seen). x.store) ends

pub refusals_take_none : RefusalsTakeNone
refusals_take_none header events marks old new event fault taken ends = subst (HasTaken header events marks) (sym (unmoved old new event fault ends)) taken

pub taken_keep_registers : TakenKeepRegisters
taken_keep_registers header events marks store is taken key strong =
    let law = registers header events is taken.may key strong in
    let same : (run_of header events).marks ≡ marks = ap (λ (r : Run). r.marks) taken.runs in
    subst (λ (xs : List Mark). IsRegisterOrder (history_of key xs)) same law

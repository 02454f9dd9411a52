-- What the run of the chosen events comes to with one event more.
use Rattle.std.proofs.Common.{◌≡◌, true, false, List, ◌++◌, refl, sym, ap, ◌∙◌, subst}
use Rattle.std.specs.Prelude.{Option, Some, None, is_some, Result, Ok, Err, OnOk}
use Rattle.run_marks.specs.declared.mark.Mark.{Mark}
use Rattle.world_core.specs.declared.event.Event.{Event}
use Rattle.world_core.specs.declared.event.StepFault.{StepFault}
use Rattle.world_core.specs.State.{Store, opening}
use Rattle.world_core.specs.Step.{Happening, Outcome, step}
use Rattle.world_core.specs.Run.{Run}
use Rattle.world_core.specs.Ends.{Seen}
use Rattle.world_core.specs.InMemory.{EndsInMemory}
use Rattle.world_core.specs.declared.event.StepFault.TheVariants.{NoActor, NoKey, WrongMode, NoMessage, NoCall, Limit, Taker, NoMemory}
use Rattle.run_generator.proofs.Keeps.{keeps}
use Rattle.world_core.proofs.Runs.{run_more, one_more_by}
use Rattle.run_generator.specs.Header.{header}
use Rattle.run_generator.specs.Chosen.{Chosen, made, chooses}
use Rattle.run_generator.specs.Standing.{StandsFor, IsLogOf, IsReady, is_no_memory}
use Rattle.run_generator.specs.declared.log.Log.{Log}
use Rattle.run_generator.specs.declared.generator.Generator.{Generator}

made_more : (c : Chosen) (event : Event) (outcome : Outcome) (refused : Option StepFault) → step (made c).store event ≡ outcome → (made c).refused ≡ refused → made (chooses c event) ≡ one_more_by (made c) outcome refused
made_more c event outcome refused is ended =
    run_more c.events event (opening header) ∙ ap (λ (o : Outcome). one_more_by (made c) o (made c).refused) is ∙ ap (one_more_by (made c) outcome) ended

not_refused : (o : Option StepFault) → false ≡ is_some o → o ≡ None
not_refused None e = refl
not_refused (Some fault) e = absurd (cc)

-- the generator stands for this run
record Stands (g : Generator) (c : Chosen) (r : Run) : Type 0 where
  pub state : g.state ≡ c.state
  pub store : g.cloud.store ≡ r.store
  pub log : IsLogOf g.log r.marks
  pub over : g.over ≡ is_some r.refused

stands : (g : Generator) (c : Chosen) (r : Run) → made c ≡ r → Stands g c r → StandsFor g c
stands g c r is s = record {
  state = s.state;
  store = s.store ∙ ap (λ (x : Run). x.store) (sym is);
  log = subst (λ (x : Run). IsLogOf g.log x.marks) (sym is) s.log;
  over = s.over ∙ ap (λ (x : Run). is_some x.refused) (sym is);
}

-- an event that is taken
pub took : (old new : Generator) (c : Chosen) (event : Event) (happening : Happening) → StandsFor old c → old.over ≡ false → step old.cloud.store event ≡ Ok happening
    → new.state ≡ old.state → new.cloud.store ≡ happening.store → new.over ≡ false → ((before : List Mark) → IsLogOf old.log before → IsLogOf new.log (before ++ happening.marks))
    → StandsFor new (chooses c event)
took old new c event h is on taken state store over log =
    stands new (chooses c event) (one_more_by (made c) (Ok h) None)
    (made_more c event (Ok h) None (ap (λ (s : Store). step s event) (sym is.store) ∙ taken) (not_refused (made c).refused (sym on ∙ is.over)))
    (record { state = state ∙ is.state; store = store; log = log (made c).marks is.log; over = over })

-- an event that is refused
pub stopped : (old new : Generator) (c : Chosen) (event : Event) (fault : StepFault) → StandsFor old c → old.over ≡ false → step old.cloud.store event ≡ Err fault
    → new.state ≡ old.state → new.cloud.store ≡ old.cloud.store → new.over ≡ true → new.log ≡ old.log → StandsFor new (chooses c event)
stopped old new c event fault is on refused state store over log =
    stands new (chooses c event) (one_more_by (made c) (Err fault) None)
    (made_more c event (Err fault) None (ap (λ (s : Store). step s event) (sym is.store) ∙ refused) (not_refused (made c).refused (sym on ∙ is.over)))
    (record { state = state ∙ is.state; store = store ∙ is.store; log = subst (λ (l : Log). IsLogOf l (made c).marks) (sym log) is.log; over = over })

-- an event after one that was refused
pub stays : (g : Generator) (c : Chosen) (event : Event) → g.over ≡ true → StandsFor g c → StandsFor g (chooses c event)
stays g c event over is = by (made c).refused refl
  where
    by : (o : Option StepFault) → (made c).refused ≡ o → StandsFor g (chooses c event)
    by None e = absurd (let off : g.over ≡ false = is.over ∙ ap is_some e in cc)
    by (Some fault) e =
        stands g (chooses c event) (made c) (made_more c event (step (made c).store event) (Some fault) refl e)
        (record { state = is.state; store = is.store; log = is.log; over = is.over })

pub on_ok : {T E P Q : Type 0} (r : Result T E) → (P → Q) → OnOk r P → OnOk r Q
on_ok (Ok value) f p = f p
on_ok (Err error) f p = p

pub on_both : {T E P Q R : Type 0} (r : Result T E) → (P → Q → R) → OnOk r P → OnOk r Q → OnOk r R
on_both (Ok value) f p q = f p q
on_both (Err error) f p q = p

-- a step that ended with a fault other than want of memory was refused
pub refused_as : (old new : Seen) (outcome : Outcome) (fault : StepFault) → is_no_memory fault ≡ false → EndsInMemory old new outcome (Err fault) → (outcome ≡ Err fault) × (new ≡ old)
refused_as old new outcome NoActor e ends = ends
refused_as old new outcome NoKey e ends = ends
refused_as old new outcome WrongMode e ends = ends
refused_as old new outcome (NoMessage sent) e ends = ends
refused_as old new outcome NoCall e ends = ends
refused_as old new outcome (Limit what number) e ends = ends
refused_as old new outcome (Taker fault) e ends = absurd ends
refused_as old new outcome (NoMemory error) e ends = absurd (cc)

-- the directory stays ready
pub ready_after : (old new : Seen) (event : Event) (h : Happening) → step old.store event ≡ Ok h → new.store ≡ h.store → IsReady old.store.directory → IsReady new.store.directory
ready_after old new event h taken is ready = subst (λ (s : Store). IsReady s.directory) (sym is) (keeps old.store event h taken ready)

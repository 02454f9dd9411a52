-- A run goes on with its next event.
use Rattle.std.proofs.Common.{◌≡◌, ℕ, ◌+◌, ◌<◌, List, [], ◌∷◌, ◌++◌, length, refl, sym, ap, ◌∙◌, subst, arith}
use Rattle.std.specs.Prelude.{Some, Err}
use Rattle.std.specs.List.{All}
use Rattle.std.proofs.lemmas.List.{append_assoc, append-nil}
use Rattle.std.proofs.lemmas.List.Elements.{All-head, All-tail}
use Rattle.run_marks.specs.declared.mark.Mark.{Mark}
use Rattle.world_core.specs.declared.event.Event.{Event}
use Rattle.world_core.specs.declared.event.StepFault.{StepFault}
use Rattle.world_core.specs.declared.event.StepFault.TheVariants.{NoActor, NoKey, WrongMode, NoMessage, NoCall, Limit, Taker, NoMemory}
use Rattle.world_core.specs.State.{Store}
use Rattle.world_core.specs.Step.{Happening, Outcome, step}
use Rattle.world_core.specs.Ends.{Seen}
use Rattle.world_core.specs.InMemory.{Happens, EndsInMemory}
use Rattle.world_core.specs.Run.{Run, run, ran, nothing_ran, after_marks, store_after, MayHappen}
use Rattle.schedule_text.specs.Laws.{HasModes, MayAlways}
use Rattle.schedule_text.specs.Schedules.{Schedule}
use Rattle.schedule_replay.specs.declared.running.Running.{Running}
use Rattle.schedule_replay.specs.Replays.{replayed, event_line, refused_at}
use Rattle.schedule_replay.specs.Standing.{IsReady, behind, Stands, IsOver, IsRefused, BeginsWith, Goes}
use Rattle.schedule_replay.proofs.Keeps.{keeps_modes}

behind_more : (marks more : List Mark) (n : ℕ) (r : Run) → behind marks n (after_marks more r) ≡ behind (marks ++ more) (n + 1) r
behind_more marks more n r =
    let count : n + (1 + r.taken) ≡ (n + 1) + r.taken = omega arith in
    ap (λ (xs : List Mark). let x : Run = record { store = r.store; marks = xs; taken = n + (1 + r.taken); refused = r.refused } in x) (sym (append_assoc marks more r.marks))
    ∙ ap (λ (t : ℕ). let x : Run = record { store = r.store; marks = (marks ++ more) ++ r.marks; taken = t; refused = r.refused } in x) count

run_one : (event : Event) (rest : List Event) (store : Store) → run (event ∷ rest) store ≡ ran store (step store event) (run rest (store_after store (step store event)))
unfolding run
run_one event rest store = refl

run_none : (store : Store) → run [] store ≡ nothing_ran store
unfolding run
run_none store = refl

-- the event may happen, and there is room for it
pub may_happen : (running : Running) (event : Event) (rest : List Event) → running.events.events ≡ event ∷ rest → IsReady running → MayHappen running.cloud.store event
may_happen running event rest left ready =
    All-head (MayAlways ready.header) event rest (subst (All (MayAlways ready.header)) left ready.may) running.cloud.store ready.modes

pub has_room : (running : Running) (event : Event) (rest : List Event) → running.events.events ≡ event ∷ rest → IsReady running → running.cloud.events < 1000000
has_room running event rest left ready =
    let many : length running.events.events ≡ length (event ∷ rest) = ap length left in
    let few = ready.few in
    omega (arith, many, few)

-- no event is left
pub over : (schedule : Schedule) (old new : Running) (marks : List Mark) → old.events.events ≡ [] → new.cloud.store ≡ old.cloud.store → Stands schedule old marks → IsOver schedule new marks
over schedule old new marks none store stands =
    let whole : replayed schedule ≡ behind marks old.cloud.events (nothing_ran old.cloud.store) =
    stands.goes_on ∙ ap (λ (es : List Event). behind marks old.cloud.events (run es old.cloud.store)) none ∙ ap (behind marks old.cloud.events) (run_none old.cloud.store) in
    record {
      unrefused = ap (λ (r : Run). r.refused) whole;
      marks_are = ap (λ (r : Run). r.marks) whole ∙ append-nil marks;
      store_is = ap (λ (r : Run). r.store) whole ∙ sym store;
    }

-- the next event is taken
pub took : (schedule : Schedule) (old new : Running) (marks more : List Mark) (event : Event)
    → old.events.events ≡ event ∷ new.events.events → new.events.line ≡ old.events.line + 1
    → Happens old.cloud new.cloud (step old.cloud.store event) more → Stands schedule old marks → Stands schedule new (marks ++ more)
took schedule old new marks more event left line happens stands =
    let n : ℕ = old.cloud.events in
    let s : Store = old.cloud.store in
    let rest : List Event = new.events.events in
    let h : Happening = happens.happening in
    let was = stands.line in
    let one = happens.events_are in
    record {
      goes_on = stands.goes_on
          ∙ ap (λ (es : List Event). behind marks n (run es s)) left
          ∙ ap (behind marks n) (run_one event rest s ∙ ap (λ (o : Outcome). ran s o (run rest (store_after s o))) happens.taken)
          ∙ behind_more marks h.marks n (run rest h.store)
          ∙ ap (λ (x : Store). behind (marks ++ h.marks) (n + 1) (run rest x)) (sym happens.store_is)
          ∙ ap (λ (xs : List Mark). behind (marks ++ xs) (n + 1) (run rest new.cloud.store)) (sym happens.marks_are)
          ∙ ap (λ (t : ℕ). behind (marks ++ more) t (run rest new.cloud.store)) (sym one);
      line = omega (arith, line, was, one);
      registers = stands.registers;
    }

pub ready_next : (old new : Running) (more : List Mark) (event : Event) → old.events.events ≡ event ∷ new.events.events
    → Happens old.cloud new.cloud (step old.cloud.store event) more → IsReady old → IsReady new
ready_next old new more event left happens ready =
    let many : length old.events.events ≡ length (event ∷ new.events.events) = ap length left in
    let few = ready.few in
    let one = happens.events_are in
    record {
      header = ready.header;
      few = omega (arith, many, few, one);
      may = All-tail (MayAlways ready.header) event new.events.events (subst (All (MayAlways ready.header)) left ready.may);
      modes = subst (λ (s : Store). HasModes ready.header s.directory) (sym happens.store_is) (keeps_modes ready.header old.cloud.store event happens.happening happens.taken ready.modes);
    }

pub fewer : (old new : Running) (event : Event) → old.events.events ≡ event ∷ new.events.events → length new.events.events < length old.events.events
fewer old new event left =
    let many : length old.events.events ≡ length (event ∷ new.events.events) = ap length left in
    omega (arith, many)

-- the run begins with the marks so far
pub begins : (schedule : Schedule) (running : Running) (marks : List Mark) → Stands schedule running marks → BeginsWith schedule marks
begins schedule running marks stands = ((run running.events.events running.cloud.store).marks, ap (λ (r : Run). r.marks) stands.goes_on)

-- the next event is refused
refused : (schedule : Schedule) (old : Running) (marks : List Mark) (event : Event) (rest : List Event) (line : ℕ) (fault : StepFault)
    → old.events.events ≡ event ∷ rest → line ≡ old.events.line + 1 → step old.cloud.store event ≡ Err fault → Stands schedule old marks → IsRefused schedule marks (refused_at line fault)
refused schedule old marks event rest line fault left at is stands =
    let n : ℕ = old.cloud.events in
    let s : Store = old.cloud.store in
    let stop : Run = record { store = s; marks = []; taken = 0; refused = Some fault } in
    let whole : replayed schedule ≡ behind marks n stop =
    stands.goes_on
    ∙ ap (λ (es : List Event). behind marks n (run es s)) left
    ∙ ap (behind marks n) (run_one event rest s ∙ ap (λ (o : Outcome). ran s o (run rest (store_after s o))) is) in
    let count : (replayed schedule).taken ≡ n + 0 = ap (λ (r : Run). r.taken) whole in
    let was = stands.line in
    let same : line ≡ event_line schedule (replayed schedule).taken = omega (arith, at, was, count) in
    record {
      fault = fault;
      refused = ap (λ (r : Run). r.refused) whole;
      marks_are = ap (λ (r : Run). r.marks) whole ∙ append-nil marks;
      told_is = ap (λ (l : ℕ). refused_at l fault) same;
    }

-- the next event isn't taken
pub not_taken : (schedule : Schedule) (old new : Running) (marks : List Mark) (event : Event) (rest : List Event) (line : ℕ) (after : Seen) (fault : StepFault)
    → old.events.events ≡ event ∷ rest → line ≡ old.events.line + 1 → EndsInMemory old.cloud after (step old.cloud.store event) (Err fault)
    → Stands schedule old marks → Goes schedule marks new (Err (refused_at line fault))
not_taken schedule old new marks event rest line after NoActor left at ends stands = refused schedule old marks event rest line NoActor left at ends.0 stands
not_taken schedule old new marks event rest line after NoKey left at ends stands = refused schedule old marks event rest line NoKey left at ends.0 stands
not_taken schedule old new marks event rest line after WrongMode left at ends stands = refused schedule old marks event rest line WrongMode left at ends.0 stands
not_taken schedule old new marks event rest line after (NoMessage sent) left at ends stands = refused schedule old marks event rest line (NoMessage sent) left at ends.0 stands
not_taken schedule old new marks event rest line after NoCall left at ends stands = refused schedule old marks event rest line NoCall left at ends.0 stands
not_taken schedule old new marks event rest line after (Limit what number) left at ends stands = refused schedule old marks event rest line (Limit what number) left at ends.0 stands
not_taken schedule old new marks event rest line after (Taker fault) left at ends stands = absurd ends
not_taken schedule old new marks event rest line after (NoMemory error) left at ends stands = begins schedule old marks stands

-- A restart run goes on with its next event.
use Rattle.std.proofs.Common.{◌≡◌, ℕ, ◌+◌, ◌<◌, List, [], ◌∷◌, ◌++◌, length, refl, sym, ap, ◌∙◌, subst, arith}
use Rattle.std.specs.Prelude.{Some, Err}
use Rattle.std.specs.List.{All}
use Rattle.std.proofs.lemmas.List.{append_assoc, append-nil}
use Rattle.std.proofs.lemmas.List.Elements.{All-head, All-tail}
use Rattle.run_marks.specs.declared.mark.Mark.{Mark}
use Rattle.world_core.specs.declared.event.StepFault.{StepFault}
use Rattle.world_core.specs.declared.event.StepFault.TheVariants.{NoActor, NoKey, WrongMode, NoMessage, NoCall, Limit, Taker, NoMemory}
use Rattle.world_core.specs.State.{Store}
use Rattle.world_core.specs.Step.{Happening, Outcome}
use Rattle.world_core.specs.Run.{Run, ran, nothing_ran, after_marks, store_after}
use Rattle.schedule_text.specs.declared.kept_event.KeptEvent.{KeptEvent}
use Rattle.schedule_text.specs.Laws.{HasModes}
use Rattle.schedule_text.specs.KeptLaws.{KeptMayAlways}
use Rattle.schedule_text.specs.Kept.{KeptSchedule}
use Rattle.schedule_replay.specs.Replays.{refused_at}
use Rattle.schedule_replay.specs.Standing.{behind}
use Rattle.restart_law.specs.Restart.{restart_run, restart_step}
use Rattle.restart_replay.specs.declared.running.Running.{Running}
use Rattle.restart_replay.specs.Replays.{restarted, event_line}
use Rattle.restart_replay.specs.Steady.{IsSteady, KeptMayHappen, Happens, EventEnds}
use Rattle.restart_replay.specs.Standing.{IsReady, Stands, IsOver, IsRefused, BeginsWith, Goes}
use Rattle.restart_replay.proofs.MayRun.{may_here, modes_stay}

behind_more : (marks more : List Mark) (n : ℕ) (r : Run) → behind marks n (after_marks more r) ≡ behind (marks ++ more) (n + 1) r
behind_more marks more n r =
    let count : n + (1 + r.taken) ≡ (n + 1) + r.taken = omega arith in
    ap (λ (xs : List Mark). let x : Run = record { store = r.store; marks = xs; taken = n + (1 + r.taken); refused = r.refused } in x) (sym (append_assoc marks more r.marks))
    ∙ ap (λ (t : ℕ). let x : Run = record { store = r.store; marks = (marks ++ more) ++ r.marks; taken = t; refused = r.refused } in x) count

run_one : (event : KeptEvent) (rest : List KeptEvent) (store : Store) → restart_run (event ∷ rest) store ≡ ran store (restart_step store event) (restart_run rest (store_after store (restart_step store event)))
unfolding restart_run
run_one event rest store = refl

run_none : (store : Store) → restart_run [] store ≡ nothing_ran store
unfolding restart_run
run_none store = refl

-- the event may happen, and there is room for it
pub may_happen : (running : Running) (event : KeptEvent) (rest : List KeptEvent) → running.events.events ≡ event ∷ rest → IsReady running → KeptMayHappen running.store.cloud.store event
may_happen running event rest left ready =
    may_here ready.header running.store.cloud.store event ready.modes (All-head (KeptMayAlways ready.header) event rest (subst (All (KeptMayAlways ready.header)) left ready.may))

pub has_room : (running : Running) (event : KeptEvent) (rest : List KeptEvent) → running.events.events ≡ event ∷ rest → IsReady running → running.store.taken < 1000000
has_room running event rest left ready =
    let many : length running.events.events ≡ length (event ∷ rest) = ap length left in
    let few = ready.few in
    omega (arith, many, few)

-- no event is left
pub over : (schedule : KeptSchedule) (old new : Running) (marks : List Mark) → old.events.events ≡ [] → new.store.cloud.store ≡ old.store.cloud.store → Stands schedule old marks → IsOver schedule new marks
over schedule old new marks none store stands =
    let n : ℕ = old.store.taken in
    let whole : restarted schedule ≡ behind marks old.store.taken (nothing_ran old.store.cloud.store) =
    stands.goes_on ∙ ap (λ (es : List KeptEvent). behind marks old.store.taken (restart_run es old.store.cloud.store)) none ∙ ap (behind marks old.store.taken) (run_none old.store.cloud.store) in
    record {
      unrefused = ap (λ (r : Run). r.refused) whole;
      marks_are = ap (λ (r : Run). r.marks) whole ∙ append-nil marks;
      store_is = ap (λ (r : Run). r.store) whole ∙ sym store;
    }

-- the next event is taken
pub took : (schedule : KeptSchedule) (old new : Running) (marks more : List Mark) (event : KeptEvent)
    → old.events.events ≡ event ∷ new.events.events → new.events.line ≡ old.events.line + 1 → new.store.taken ≡ old.store.taken + 1
    → Happens old.store.cloud.store new.store.cloud.store (restart_step old.store.cloud.store event) more → Stands schedule old marks → Stands schedule new (marks ++ more)
took schedule old new marks more event left line one happens stands =
    let n : ℕ = old.store.taken in
    let s : Store = old.store.cloud.store in
    let rest : List KeptEvent = new.events.events in
    let h : Happening = happens.happening in
    let was = stands.line in
    record {
      goes_on = stands.goes_on
          ∙ ap (λ (es : List KeptEvent). behind marks n (restart_run es s)) left
          ∙ ap (behind marks n) (run_one event rest s ∙ ap (λ (o : Outcome). ran s o (restart_run rest (store_after s o))) happens.taken)
          ∙ behind_more marks h.marks n (restart_run rest h.store)
          ∙ ap (λ (x : Store). behind (marks ++ h.marks) (n + 1) (restart_run rest x)) (sym happens.store_is)
          ∙ ap (λ (xs : List Mark). behind (marks ++ xs) (n + 1) (restart_run rest new.store.cloud.store)) (sym happens.marks_are)
          ∙ ap (λ (t : ℕ). behind (marks ++ more) t (restart_run rest new.store.cloud.store)) (sym one);
      line = omega (arith, line, was, one);
      registers = stands.registers;
    }

pub ready_next : (old new : Running) (more : List Mark) (event : KeptEvent) → old.events.events ≡ event ∷ new.events.events → new.store.taken ≡ old.store.taken + 1
    → Happens old.store.cloud.store new.store.cloud.store (restart_step old.store.cloud.store event) more → IsSteady new.store → IsReady old → IsReady new
ready_next old new more event left one happens steady ready =
    let many : length old.events.events ≡ length (event ∷ new.events.events) = ap length left in
    let few = ready.few in
    record {
      steady = steady;
      header = ready.header;
      few = omega (arith, many, few, one);
      may = All-tail (KeptMayAlways ready.header) event new.events.events (subst (All (KeptMayAlways ready.header)) left ready.may);
      modes = subst (λ (s : Store). HasModes ready.header s.directory) (sym happens.store_is) (modes_stay ready.header old.store.cloud.store event happens.happening happens.taken ready.modes);
    }

pub fewer : (old new : Running) (event : KeptEvent) → old.events.events ≡ event ∷ new.events.events → length new.events.events < length old.events.events
fewer old new event left =
    let many : length old.events.events ≡ length (event ∷ new.events.events) = ap length left in
    omega (arith, many)

-- the run begins with the marks so far
pub begins : (schedule : KeptSchedule) (running : Running) (marks : List Mark) → Stands schedule running marks → BeginsWith schedule marks
begins schedule running marks stands = ((restart_run running.events.events running.store.cloud.store).marks, ap (λ (r : Run). r.marks) stands.goes_on)

-- the next event is refused
refused : (schedule : KeptSchedule) (old : Running) (marks : List Mark) (event : KeptEvent) (rest : List KeptEvent) (line : ℕ) (fault : StepFault)
    → old.events.events ≡ event ∷ rest → line ≡ old.events.line + 1 → restart_step old.store.cloud.store event ≡ Err fault → Stands schedule old marks → IsRefused schedule marks (refused_at line fault)
refused schedule old marks event rest line fault left at is stands =
    let n : ℕ = old.store.taken in
    let s : Store = old.store.cloud.store in
    let stop : Run = record { store = s; marks = []; taken = 0; refused = Some fault } in
    let whole : restarted schedule ≡ behind marks n stop =
    stands.goes_on
    ∙ ap (λ (es : List KeptEvent). behind marks n (restart_run es s)) left
    ∙ ap (behind marks n) (run_one event rest s ∙ ap (λ (o : Outcome). ran s o (restart_run rest (store_after s o))) is) in
    let count : (restarted schedule).taken ≡ n + 0 = ap (λ (r : Run). r.taken) whole in
    let was = stands.line in
    let same : line ≡ event_line schedule (restarted schedule).taken = omega (arith, at, was, count) in
    record {
      fault = fault;
      refused = ap (λ (r : Run). r.refused) whole;
      marks_are = ap (λ (r : Run). r.marks) whole ∙ append-nil marks;
      told_is = ap (λ (l : ℕ). refused_at l fault) same;
    }

-- the next event isn't taken
pub not_taken : (schedule : KeptSchedule) (old new : Running) (marks : List Mark) (event : KeptEvent) (rest : List KeptEvent) (line : ℕ) (after : Store) (fault : StepFault)
    → old.events.events ≡ event ∷ rest → line ≡ old.events.line + 1 → EventEnds old.store.cloud.store after (restart_step old.store.cloud.store event) (Err fault)
    → Stands schedule old marks → Goes schedule marks new (Err (refused_at line fault))
not_taken schedule old new marks event rest line after NoActor left at ends stands = refused schedule old marks event rest line NoActor left at ends stands
not_taken schedule old new marks event rest line after NoKey left at ends stands = refused schedule old marks event rest line NoKey left at ends stands
not_taken schedule old new marks event rest line after WrongMode left at ends stands = refused schedule old marks event rest line WrongMode left at ends stands
not_taken schedule old new marks event rest line after (NoMessage sent) left at ends stands = refused schedule old marks event rest line (NoMessage sent) left at ends stands
not_taken schedule old new marks event rest line after NoCall left at ends stands = refused schedule old marks event rest line NoCall left at ends stands
not_taken schedule old new marks event rest line after (Limit what number) left at ends stands = refused schedule old marks event rest line (Limit what number) left at ends stands
not_taken schedule old new marks event rest line after (Taker fault) left at ends stands = absurd ends
not_taken schedule old new marks event rest line after (NoMemory error) left at ends stands = begins schedule old marks stands

-- A restart run before its first event.
use Rattle.std.proofs.Common.{◌≡◌, ℕ, ◌+◌, ◌≤◌, List, [], length, sym, ap, ◌∙◌, subst, arith}
use Rattle.std.specs.Prelude.{Ok}
use Rattle.std.specs.List.{All}
use Rattle.world_core.specs.declared.event.Header.{Header}
use Rattle.world_core.specs.State.{Store, opening}
use Rattle.world_core.specs.Run.{Run}
use Rattle.schedule_text.specs.declared.kept_event.KeptEvent.{KeptEvent}
use Rattle.schedule_text.specs.KeptGiven.{KeptLeft}
use Rattle.schedule_text.specs.Headers.{begin_line}
use Rattle.schedule_text.specs.Laws.{HasModes}
use Rattle.schedule_text.specs.KeptLaws.{IsKeptSchedule, KeptMayAlways, KeptSchedulesMayHappen}
use Rattle.schedule_text.specs.Kept.{KeptSchedule, kept_schedule_of}
use Rattle.schedule_replay.specs.Standing.{behind}
use Rattle.schedule_replay.proofs.Keeps.{opens_modes}
use Rattle.restart_law.specs.Restart.{restart_run}
use Rattle.restart_law.proofs.Running.{restart_registers}
use Rattle.restart_replay.specs.declared.running.Running.{Running}
use Rattle.restart_replay.specs.Steady.{IsSteady}
use Rattle.restart_replay.specs.Standing.{IsReady, Stands, Opens}
use Rattle.restart_replay.proofs.Few.{few_events}

behind_nothing : (r : Run) → r ≡ behind [] 0 r
behind_nothing r =
    let same : r.taken ≡ 0 + r.taken = omega arith in
    ap (λ (n : ℕ). let x : Run = record { store = r.store; marks = r.marks; taken = n; refused = r.refused } in x) same

-- the events that were read, in the store that their header opens
pub record IsOpened (running : Running) (header : Header) (events : List KeptEvent) : Type 0 where
  pub events_are : running.events ≡ record { events = events; line = begin_line header }
  pub store_is : running.store.cloud.store ≡ opening header
  pub none_taken : running.store.taken ≡ 0
  pub steady : IsSteady running.store

module _ (running : Running) (header : Header) (events : List KeptEvent) where
  stands_opened : IsKeptSchedule (record { header = header; events = events }) → IsOpened running header events → Stands (record { header = header; events = events }) running []
  stands_opened may is =
      let left : running.events.events ≡ events = ap (λ (l : KeptLeft). l.events) is.events_are in
      let none = is.none_taken in
      let at : running.events.line ≡ begin_line header = ap (λ (l : KeptLeft). l.line) is.events_are in
      record {
        goes_on = behind_nothing (restart_run events (opening header))
            ∙ ap (λ (n : ℕ). behind [] n (restart_run events (opening header))) (sym none)
            ∙ ap (λ (es : List KeptEvent). behind [] running.store.taken (restart_run es (opening header))) (sym left)
            ∙ ap (λ (s : Store). behind [] running.store.taken (restart_run running.events.events s)) (sym is.store_is);
        line = omega (arith, at, none);
        registers = restart_registers header events may.opens;
      }

  pub opens_so : KeptSchedulesMayHappen → (text : List ℕ) → kept_schedule_of text ≡ Ok (record { header = header; events = events }) → IsOpened running header events → Opens text (Ok running)
  opens_so may text read is =
      let schedule : KeptSchedule = record { header = header; events = events } in
      (schedule, read, stands_opened (may text schedule read) is)

  pub opens_ready : KeptSchedulesMayHappen → (text : List ℕ) → kept_schedule_of text ≡ Ok (record { header = header; events = events }) → IsOpened running header events → IsReady running
  opens_ready may text read is =
      let schedule : KeptSchedule = record { header = header; events = events } in
      let left : running.events.events ≡ events = ap (λ (l : KeptLeft). l.events) is.events_are in
      let as_many : length running.events.events ≡ length events = ap length left in
      let few : length events ≤ 1000000 = few_events text schedule read in
      let none = is.none_taken in
      record {
        steady = is.steady;
        header = header;
        few = omega (arith, as_many, few, none);
        may = subst (All (KeptMayAlways header)) (sym left) (may text schedule read).may;
        modes = subst (λ (s : Store). HasModes header s.directory) (sym is.store_is) (opens_modes header);
      }

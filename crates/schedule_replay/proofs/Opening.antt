-- A run before its first event.
use Rattle.std.proofs.Common.{◌≡◌, ℕ, ◌+◌, ◌≤◌, List, [], length, sym, ap, ◌∙◌, subst, arith}
use Rattle.std.specs.Prelude.{Ok}
use Rattle.std.specs.List.{All}
use Rattle.world_core.specs.declared.event.Header.{Header}
use Rattle.world_core.specs.declared.event.Event.{Event}
use Rattle.world_core.specs.State.{Store, opening}
use Rattle.world_core.specs.Run.{Run, run}
use Rattle.schedule_text.specs.declared.setting.Form.TheVariants.{Plain}
use Rattle.schedule_text.specs.Given.{Left}
use Rattle.schedule_text.specs.Headers.{begin_line}
use Rattle.schedule_text.specs.Laws.{HasModes, IsSchedule, MayAlways, SchedulesMayHappen}
use Rattle.schedule_text.specs.Schedules.{Schedule, schedule_of}
use Rattle.schedule_replay.specs.declared.running.Running.{Running}
use Rattle.schedule_replay.specs.Standing.{IsReady, Stands, behind, Opens}
use Rattle.schedule_replay.proofs.Few.{few_events}
use Rattle.schedule_replay.proofs.Keeps.{opens_modes}
use Rattle.schedule_replay.proofs.Registers.{registers_kept}

behind_nothing : (r : Run) → r ≡ behind [] 0 r
behind_nothing r =
    let same : r.taken ≡ 0 + r.taken = omega arith in
    ap (λ (n : ℕ). let x : Run = record { store = r.store; marks = r.marks; taken = n; refused = r.refused } in x) same

-- the events that were read, in the store that their header opens
pub record IsOpened (running : Running) (header : Header) (events : List Event) : Type 0 where
  pub events_are : running.events ≡ record { events = events; line = begin_line header }
  pub store_is : running.cloud.store ≡ opening header
  pub none_taken : running.cloud.events ≡ 0

module _ (running : Running) (header : Header) (events : List Event) where
  stands_opened : IsSchedule (record { header = header; events = events }) → IsOpened running header events → Stands (record { header = header; events = events }) running []
  stands_opened may is =
      let left : running.events.events ≡ events = ap (λ (l : Left). l.events) is.events_are in
      let none = is.none_taken in
      let at : running.events.line ≡ begin_line header = ap (λ (l : Left). l.line) is.events_are in
      record {
        goes_on = behind_nothing (run events (opening header))
            ∙ ap (λ (n : ℕ). behind [] n (run events (opening header))) (sym none)
            ∙ ap (λ (es : List Event). behind [] running.cloud.events (run es (opening header))) (sym left)
            ∙ ap (λ (s : Store). behind [] running.cloud.events (run running.events.events s)) (sym is.store_is);
        line = omega (arith, at, none);
        registers = registers_kept (record { header = header; events = events }) may;
      }

  pub opens_so : SchedulesMayHappen → (text : List ℕ) → schedule_of Plain text ≡ Ok (record { header = header; events = events }) → IsOpened running header events → Opens text (Ok running)
  opens_so may text read is =
      let schedule : Schedule = record { header = header; events = events } in
      (schedule, read, stands_opened (may Plain text schedule read) is)

  pub opens_ready : SchedulesMayHappen → (text : List ℕ) → schedule_of Plain text ≡ Ok (record { header = header; events = events }) → IsOpened running header events → IsReady running
  opens_ready may text read is =
      let schedule : Schedule = record { header = header; events = events } in
      let left : running.events.events ≡ events = ap (λ (l : Left). l.events) is.events_are in
      let as_many : length running.events.events ≡ length events = ap length left in
      let few : length events ≤ 1000000 = few_events Plain text schedule read in
      let none = is.none_taken in
      record {
        header = header;
        few = omega (arith, as_many, few, none);
        may = subst (All (MayAlways header)) (sym left) (may Plain text schedule read).events;
        modes = subst (λ (s : Store). HasModes header s.directory) (sym is.store_is) (opens_modes header);
      }

-- The events of a schedule may happen where its run comes to them.
use Rattle.std.proofs.Common.{◌≡◌, List, [], ◌∷◌, refl}
use Rattle.std.specs.Prelude.{Ok, Err}
use Rattle.std.specs.List.{All}
use Rattle.std.proofs.lemmas.List.Elements.{All-head, All-tail}
use Rattle.world_core.specs.declared.event.Header.{Header}
use Rattle.world_core.specs.declared.event.Event.{Event}
use Rattle.world_core.specs.State.{Store, opening}
use Rattle.world_core.specs.Step.{Outcome, step}
use Rattle.world_core.specs.Run.{GoingOn, MayRun, store_after}
use Rattle.schedule_text.specs.Laws.{HasModes, MayAlways, IsSchedule}
use Rattle.schedule_text.specs.Schedules.{Schedule}
use Rattle.schedule_replay.proofs.Keeps.{keeps_modes, opens_modes}

may_run_from : (header : Header) (events : List Event) (store : Store) → HasModes header store.directory → All (MayAlways header) events → MayRun events store
unfolding MayRun
may_run_from header [] store modes may = tt
may_run_from header (event ∷ events) store modes may = (
  All-head (MayAlways header) event events may store modes,
  by (step store event) refl (λ next kept. may_run_from header events next kept (All-tail (MayAlways header) event events may)),
)
  where
    by : (outcome : Outcome) → step store event ≡ outcome → ((next : Store) → HasModes header next.directory → MayRun events next) → GoingOn outcome (MayRun events (store_after store outcome))
    by (Ok happening) is more = more happening.store (keeps_modes header store event happening is modes)
    by (Err fault) is more = tt

pub may_run : (schedule : Schedule) → IsSchedule schedule → MayRun schedule.events (opening schedule.header)
may_run schedule is = may_run_from schedule.header schedule.events (opening schedule.header) (opens_modes schedule.header) is.events

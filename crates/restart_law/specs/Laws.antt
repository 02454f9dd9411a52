-- What is claimed of every restart run.
use Rattle.std.specs.Prelude.{◌≡◌, ℕ, List}
use Rattle.world_core.specs.declared.event.Header.{Header}
use Rattle.world_core.specs.declared.event.Event.{Event}
use Rattle.world_core.specs.State.{Store}
use Rattle.world_core.specs.Step.{step}
use Rattle.world_core.specs.Run.{IsHeader}
use Rattle.world_core.specs.Laws.{KeepsRegisters}
use Rattle.schedule_text.specs.declared.kept_event.KeptEvent.{KeptEvent}
use Rattle.restart_law.specs.Unlimited.{unlimited_step, unlimited_run_of, IsWithinLimits, unless_limited}
use Rattle.restart_law.specs.Restart.{restart_run_of}
use Rattle.restart_law.specs.Renumbered.{StandsFor}

-- the limits alone part the two steps
abbrev pub StepsAreLimited : Type 0
StepsAreLimited = (store : Store) (event : Event) → IsWithinLimits store → step store event ≡ unless_limited store (unlimited_step store event)

-- the history of each strong key in a run without limits on messages is that of one register
abbrev pub UnlimitedRegistersAreKept : Type 0
UnlimitedRegistersAreKept = (header : Header) (events : List Event) → IsHeader header → KeepsRegisters header (unlimited_run_of header events).marks

-- each restart run stands for a run
abbrev pub RestartRunsAreRuns : Type 0
RestartRunsAreRuns = (header : Header) (events : List KeptEvent) → (numbers : List ℕ) × StandsFor header events numbers

-- so the history of each strong key in it is that of one register
abbrev pub RestartRegistersAreKept : Type 0
RestartRegistersAreKept = (header : Header) (events : List KeptEvent) → IsHeader header → KeepsRegisters header (restart_run_of header events).marks

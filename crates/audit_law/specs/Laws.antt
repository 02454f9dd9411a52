-- What is claimed of the marks of every run.
use Rattle.std.specs.Prelude.{List}
use Rattle.register_order.specs.Clauses.{BreaksNone}
use Rattle.world_core.specs.declared.event.Header.{Header}
use Rattle.world_core.specs.declared.event.Event.{Event}
use Rattle.world_core.specs.State.{opening}
use Rattle.world_core.specs.Run.{run_of, IsHeader, MayRun}

-- no mark breaks a clause of the audit, whatever happens, also where the run stops at a refused event
abbrev pub RunsBreakNoClause : Type 0
RunsBreakNoClause = (header : Header) (events : List Event) → IsHeader header → MayRun events (opening header) → BreaksNone (run_of header events).marks

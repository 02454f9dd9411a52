use Rattle.std.proofs.Common.{All}
use Rattle.span_service.specs.MemDoors.{IsUnused}
use Rattle.service_cases.proofs.streams.streams.Given as goal

abbrev pub invariant-loop-input : goal.invariant-loop-input
invariant-loop-input l = All IsUnused l.streams.items

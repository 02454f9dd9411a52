use Rattle.std.proofs.Common.{◌≡◌, length, ◌-◌}
use Rattle.span_service.specs.Pieces.{left_of, trimmed}
use Rattle.span_service.proofs.pieces.Pieces.pass.Given as goal

abbrev pub invariant-loop-self : goal.invariant-loop-self
invariant-loop-self l = (l.self-inside.pieces.items ≡ l.initial.self-inside.pieces.items) × (trimmed (left_of l.self-inside.pieces.items l.self-inside.passed l.self-inside.used)
    ≡ trimmed (left_of l.initial.self-inside.pieces.items l.initial.self-inside.passed l.initial.self-inside.used))

abbrev pub decreases-loop-self : goal.decreases-loop-self
decreases-loop-self l = length l.self-inside.pieces.items - l.self-inside.passed

use Rattle.std.proofs.Common.{◌-◌}
use Rattle.slot_pool.proofs.ShapeLemmas.{IsShape}
use Rattle.slot_pool.proofs.free.shape.Given as goal

abbrev pub invariant-loop-first : goal.invariant-loop-first
invariant-loop-first l = IsShape l.levels l.first

abbrev pub decreases-loop-first : goal.decreases-loop-first
decreases-loop-first l = l.count - l.first

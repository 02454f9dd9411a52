use Rattle.std.proofs.Common.{ℕ}
use Rattle.std.specs.List.{All, AllWithin}
use Rattle.primal_dual.specs.Locals.{IsLocal, IsTarget}
use Rattle.primal_dual.proofs.local.copy_targets.Given as goal

abbrev pub invariant-loop-line : goal.invariant-loop-line
invariant-loop-line l = (limit : ℕ) → All (IsLocal limit) l.coordinates → AllWithin (IsTarget limit) l.targets 0 l.line

use Rattle.std.proofs.Common.{◌^◌, ◌≤◌}
use Rattle.std.specs.List.{AllWithin}
use Rattle.primal_dual.proofs.stop.note_values.Given as goal

abbrev pub invariant-loop-var : goal.invariant-loop-var
invariant-loop-var l = AllWithin (λ value. value ≤ 2 ^ 20) l.values 0 l.var

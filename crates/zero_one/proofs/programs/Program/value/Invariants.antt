use Rattle.std.proofs.Common.{◌≡◌, ◌*◌, ◌^◌, ◌≤◌, take}
use Rattle.zero_one.specs.Program.{value_of}
use Rattle.zero_one.proofs.programs.Program.value.Given as goal

abbrev pub invariant-loop-i : goal.invariant-loop-i
invariant-loop-i l = (l.value ≡ value_of (take l.i l.cost-items) (take l.i l.x-2)) × (l.value ≤ l.i * 10 ^ 24)

use Rattle.std.proofs.Common.{◌≡◌, length, map, take}
use Rattle.branch_solver.specs.Nodes.{is_one}
use Rattle.branch_solver.proofs.node.write_bits.Given as goal

abbrev pub invariant-loop-i : goal.invariant-loop-i
invariant-loop-i l = (length l.bits ≡ length l.fixed-2) × (take l.i l.bits ≡ take l.i (map is_one l.fixed-2))

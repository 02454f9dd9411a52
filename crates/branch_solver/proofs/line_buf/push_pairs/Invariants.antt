use Rattle.std.proofs.Common.{◌≡◌, ◌++◌, take}
use Rattle.branch_solver.proofs.line_buf.push_pairs.Given as goal

abbrev pub invariant-loop-pair : goal.invariant-loop-pair
invariant-loop-pair l = l.pairs.items ≡ l.fn.pairs.items ++ take l.pair-index l.more

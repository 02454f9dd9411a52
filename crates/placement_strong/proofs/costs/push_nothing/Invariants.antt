use Rattle.std.proofs.Common.{◌≡◌, ◌++◌, replicate}
use Rattle.placement_strong.proofs.costs.push_nothing.Given as goal

abbrev pub invariant-loop-i : goal.invariant-loop-i
invariant-loop-i l = l.costs.items ≡ l.initial.costs.items ++ replicate l._i 0

use Rattle.std.proofs.Common.{◌≡◌, ◌++◌, map}
use Rattle.std.specs.List.{range_with_len}
use Rattle.span_base.specs.DcSet.{has}
use Rattle.placement_strong.proofs.placing.push_set.Given as goal

abbrev pub invariant-loop-d : goal.invariant-loop-d
invariant-loop-d l = l.bits.items ≡ l.initial.bits.items ++ map (has l.set) (range_with_len 0 l.d)

use Rattle.std.proofs.Common.{◌≡◌, ◌+◌, ◌-◌, ◌++◌, ℕ, map}
use Rattle.std.specs.List.{range_with_len}
use Rattle.placement_strong.proofs.members.push_pairs_of.Given as goal

abbrev pub invariant-loop-b : goal.invariant-loop-b
invariant-loop-b l = l.pairs.items ≡ l.initial.pairs.items ++ map (λ (b : ℕ). (l.a, b)) (range_with_len (l.a + 1) (l.b - (l.a + 1)))

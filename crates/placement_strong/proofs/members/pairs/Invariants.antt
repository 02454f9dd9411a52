use Rattle.std.proofs.Common.{◌≡◌, ◌+◌, ◌-◌, ℕ, map}
use Rattle.std.specs.List.{range_with_len, flat_map}
use Rattle.placement_strong.proofs.members.pairs.Given as goal

abbrev pub invariant-loop-a : goal.invariant-loop-a
invariant-loop-a l = l.list.items ≡ flat_map (λ (a : ℕ). map (λ (b : ℕ). (a, b)) (range_with_len (a + 1) (l.count - (a + 1)))) (range_with_len 0 l.a)

use Rattle.std.proofs.Common.{◌≡◌, ℕ, map}
use Rattle.std.specs.List.{range_with_len}
use Rattle.replica_core.specs.Rule.{opening_state}
use Rattle.world_core.proofs.making.opening_replicas.Given as goal

abbrev pub invariant-loop-number : goal.invariant-loop-number
invariant-loop-number l = l.made.items ≡ map (λ (number : ℕ). opening_state number l.keys) (range_with_len 0 l.number)

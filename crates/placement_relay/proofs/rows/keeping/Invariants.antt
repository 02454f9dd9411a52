use Rattle.std.proofs.Common.{◌≡◌, ℕ, map}
use Rattle.std.specs.List.{range_with_len}
use Rattle.placement_relay.proofs.rows.keeping.Given as goal

abbrev pub invariant-loop-d : goal.invariant-loop-d
invariant-loop-d l = l.vars.items ≡ map (λ (d : ℕ). (d, d)) (range_with_len 0 l.d)

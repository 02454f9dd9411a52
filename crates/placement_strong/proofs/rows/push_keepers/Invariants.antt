use Rattle.std.proofs.Common.{◌≡◌, ◌+◌, ◌++◌, ℕ, map}
use Rattle.std.specs.List.{filter, range_with_len}
use Rattle.span_base.specs.DcSet.{has}
use Rattle.placement_strong.proofs.rows.push_keepers.Given as goal

abbrev pub invariant-loop-d : goal.invariant-loop-d
invariant-loop-d l = l.vars.items ≡ l.initial.vars.items ++ map (λ (d : ℕ). (l.first + d, d)) (filter (has l.near) (range_with_len 0 l.d))

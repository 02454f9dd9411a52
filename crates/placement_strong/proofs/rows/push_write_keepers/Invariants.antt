use Rattle.std.proofs.Common.{◌≡◌, ◌++◌, ℕ, map}
use Rattle.std.specs.List.{range_with_len, flat_map}
use Rattle.placement_rows.specs.Centres.{write_near}
use Rattle.placement_strong.specs.Variables.{member_at, w_var}
use Rattle.placement_strong.proofs.rows.push_write_keepers.Given as goal

abbrev pub invariant-loop-a : goal.invariant-loop-a
invariant-loop-a l = l.vars.items ≡ l.initial.vars.items ++ flat_map (λ a. map (λ (d : ℕ). (w_var l.world l.set.0 a d, d)) (write_near l.world l.set.0 (member_at l.world l.set.0 a))) (range_with_len 0 l.a)

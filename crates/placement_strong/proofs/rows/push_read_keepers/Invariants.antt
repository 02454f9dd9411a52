use Rattle.std.proofs.Common.{◌≡◌, ◌++◌, ℕ, map}
use Rattle.std.specs.List.{range_with_len, flat_map}
use Rattle.placement_rows.specs.Centres.{read_near}
use Rattle.placement_strong.specs.Variables.{member_at, g_var}
use Rattle.placement_strong.proofs.rows.push_read_keepers.Given as goal

abbrev pub invariant-loop-a : goal.invariant-loop-a
invariant-loop-a l = l.vars.items ≡ l.initial.vars.items ++ flat_map (λ a. map (λ (d : ℕ). (g_var l.world a d, d)) (read_near l.world l.set.0 (member_at l.world l.set.0 a))) (range_with_len 0 l.a)

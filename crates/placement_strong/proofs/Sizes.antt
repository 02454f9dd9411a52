-- How many variables a strong set's program has.
use Rattle.std.proofs.Common.{◌≡◌, ℕ, ◌+◌, ◌*◌, ◌<◌, ◌≤◌, ◌++◌, length, arith}
use Rattle.std.proofs.lemmas.Nat.{mul-le}
use Rattle.std.proofs.lemmas.List.{length-append, length-replicate}
use Rattle.std.proofs.lemmas.List.FromFn.{length-map-range_with_len}
use Rattle.workload.specs.World.{Lists, centre_count, rule_of}
use Rattle.workload.proofs.Worlds.{length-rows}
use Rattle.slo_rules.specs.Cost.{stored_cost, gets_cost, quorum_puts_cost}
use Rattle.placement_strong.specs.Variables.{member_count, member_at, pairs, g_var, w_var, storing_costs, reading_costs, writing_costs, meeting_costs, strong_costs}

pub variables : (w : Lists) (set : ℕ) → length (strong_costs w set) ≡ centre_count w + 2 * member_count w set * centre_count w + (member_count w set * member_count w set + length (pairs (member_count w set))) * centre_count w
variables w set =
    let n = centre_count w in
    let k = member_count w set in
    omega (
      arith,
      length-append ((storing_costs w set ++ reading_costs w set) ++ writing_costs w set) (meeting_costs w set),
      length-append (storing_costs w set ++ reading_costs w set) (writing_costs w set),
      length-append (storing_costs w set) (reading_costs w set),
      length-map-range_with_len (stored_cost w (rule_of w set)) 0 n,
      length-rows (λ a. gets_cost w (rule_of w set) (member_at w set a)) n 0 k,
      length-rows (λ a. quorum_puts_cost w (rule_of w set) (member_at w set a)) n 0 k,
      length-replicate {A = ℕ} ((k * k + length (pairs k)) * n) 0,
    )

-- a member's variables are among them
pub read-room : (w : Lists) (set a : ℕ) → a < member_count w set → g_var w a 0 + centre_count w ≤ length (strong_costs w set)
read-room w set a low =
    let n = centre_count w in
    let k = member_count w set in
    omega (arith, variables w set, mul-le (a + 1) n k n (omega arith) (omega arith))

pub write-room : (w : Lists) (set a : ℕ) → a < member_count w set → w_var w set a 0 + centre_count w ≤ length (strong_costs w set)
write-room w set a low =
    let n = centre_count w in
    let k = member_count w set in
    omega (arith, variables w set, mul-le (a + 1) n k n (omega arith) (omega arith))

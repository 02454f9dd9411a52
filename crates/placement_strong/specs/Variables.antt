-- The variables of a strong set's program and what they cost. With `n` centres and `k` members, both
-- numbered from 0, with `a` and `b` members and `d` a centre, they are in this order:
--   r d      the centre keeps a replica
--   g a d    it is in the member's read set
--   w a d    it is in the member's write set
--   u a b d  the read set of `a` and the write set of `b` meet there
--   v a b d  the write sets of `a` and a later `b` meet there
-- Variable `r d` is `d`; each block follows the one before, and its last index runs fastest.
use Rattle.std.specs.Prelude.{ℕ, ◌+◌, ◌-◌, ◌*◌, List, ◌++◌, length, map, replicate, slice_index_or}
use Rattle.std.specs.List.{flat_map, range_with_len}
use Rattle.workload.specs.World.{Lists, centre_count, rule_of, members_of}
use Rattle.workload.specs.declared.rules.Demand.{Demand}
use Rattle.slo_rules.specs.Cost.{stored_cost, gets_cost, quorum_puts_cost}
use Rattle.placement_rows.specs.Centres.{centres, nobody}

-- how many members a set has, and their numbers
abbrev pub member_count : Lists → ℕ → ℕ
member_count w set = length (members_of w set)

abbrev pub members : Lists → ℕ → List ℕ
members w set = range_with_len 0 (member_count w set)

-- the member of a number
abbrev pub member_at : Lists → ℕ → ℕ → Demand
member_at w set a = slice_index_or (members_of w set) a nobody

-- the pairs of `k` members, the earlier one first, in lexicographic order
abbrev pub pairs : ℕ → List (ℕ × ℕ)
pairs k = flat_map (λ a. map (λ b. (a, b)) (range_with_len (a + 1) (k - (a + 1)))) (range_with_len 0 k)

-- the variables; a pair of write sets is counted by its place among the pairs
abbrev pub g_var : Lists → ℕ → ℕ → ℕ
g_var w a d = centre_count w + a * centre_count w + d

abbrev pub w_var : Lists → ℕ → ℕ → ℕ → ℕ
w_var w set a d = let n = centre_count w in let k = member_count w set in
    n + k * n + a * n + d

abbrev pub u_var : Lists → ℕ → ℕ → ℕ → ℕ → ℕ
u_var w set a b d = let n = centre_count w in let k = member_count w set in
    n + 2 * k * n + (a * k + b) * n + d

abbrev pub v_var : Lists → ℕ → ℕ → ℕ → ℕ
v_var w set pair d = let n = centre_count w in let k = member_count w set in
    n + 2 * k * n + k * k * n + pair * n + d

-- the costs of the blocks: where quorums meet costs nothing
abbrev pub storing_costs : Lists → ℕ → List ℕ
storing_costs w set = map (stored_cost w (rule_of w set)) (centres w)

abbrev pub reading_costs : Lists → ℕ → List ℕ
reading_costs w set = flat_map (λ a. map (gets_cost w (rule_of w set) (member_at w set a)) (centres w)) (members w set)

abbrev pub writing_costs : Lists → ℕ → List ℕ
writing_costs w set = flat_map (λ a. map (quorum_puts_cost w (rule_of w set) (member_at w set a)) (centres w)) (members w set)

abbrev pub meeting_costs : Lists → ℕ → List ℕ
meeting_costs w set = let k = member_count w set in
    replicate ((k * k + length (pairs k)) * centre_count w) 0

abbrev pub strong_costs : Lists → ℕ → List ℕ
strong_costs w set = ((storing_costs w set ++ reading_costs w set) ++ writing_costs w set) ++ meeting_costs w set

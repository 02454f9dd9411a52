-- What a relay set's program has of its own: `q a p d` is 1 where a write of member number `a` comes to the
-- replica in `d` from that in `p`, or, where both are one, from the member itself. With `n` centres
-- and `k` members it is variable `n + k * n + a * n * n + p * n + d`.
use Rattle.std.specs.Prelude.{ℕ, ◌+◌, ◌*◌, ◌==◌, not, List, [], ◌∷◌, ◌++◌, length, map, nat_lt, if◌then◌else◌}
use Rattle.std.specs.List.{flat_map, filter}
use Rattle.zero_one.specs.declared.rows.Row.{Row}
use Rattle.workload.specs.World.{Lists, centre_count, rule_of, members_of}
use Rattle.workload.specs.declared.rules.Demand.{Demand}
use Rattle.slo_rules.specs.Cost.{stored_cost, puts_cost}
use Rattle.placement_rows.specs.Centres.{centres, member_numbers, numbered_members, write_near}
use Rattle.placement_rows.specs.Rows.{at_least, backed, answered}
use Rattle.placement_relay.specs.Reading.{reading_costs, reading_rows}

-- the variable that says that a member's writes come to a centre from another
abbrev pub q : Lists → ℕ → ℕ → ℕ → ℕ → ℕ
q w set a p d =
    let n = centre_count w in
    n + length (members_of w set) * n + a * n * n + p * n + d

-- what the puts of a member cost that come to a centre from another
abbrev pub passed_cost : Lists → ℕ → Demand → ℕ → ℕ → ℕ
passed_cost w set m p d = puts_cost w (rule_of w set) m (if p == d then m.dc.0 else p) d

-- what the puts of a member cost: from each centre to each
abbrev pub hop_costs : Lists → ℕ → Demand → List ℕ
hop_costs w set m = flat_map (λ p. map (passed_cost w set m p) (centres w)) (centres w)

-- the costs of the variables, in their order
abbrev pub relay_costs : Lists → ℕ → List ℕ
relay_costs w set =
    (map (stored_cost w (rule_of w set)) (centres w) ++ reading_costs w set) ++ flat_map (hop_costs w set) (members_of w set)

-- a member's writes come to a replica from somewhere
abbrev pub comes_from_somewhere : Lists → ℕ → ℕ → ℕ → Row
comes_from_somewhere w set a d = answered d (λ p. q w set a p d) (centres w)

-- the variable `up` is 1 where the variable `low` is
abbrev pub implied : ℕ → ℕ → Row
implied up low = if nat_lt up low then backed (λ v. v) (up ∷ []) low else answered low (λ v. v) (up ∷ [])

-- what passes a member's writes on has them from the member itself
abbrev pub has_them_itself : Lists → ℕ → ℕ → ℕ → ℕ → Row
has_them_itself w set a p d = implied (q w set a p p) (q w set a p d)

-- the centres other than one
abbrev pub others : Lists → ℕ → List ℕ
others w p = filter (λ d. not (p == d)) (centres w)

-- a centre to which a member writes itself keeps a replica
abbrev pub writes_a_replica : Lists → ℕ → ℕ → ℕ → Row
writes_a_replica w set a p = backed (λ v. v) (p ∷ []) (q w set a p p)

-- a member writes to more than `f` of its write-near centres itself
abbrev pub writes_near : Lists → ℕ → (ℕ × Demand) → Row
writes_near w set (a, m) = at_least ((rule_of w set).f + 1) (λ p. q w set a p p) (write_near w set m)

-- the rows on writing, in their order
abbrev pub hop_rows : Lists → ℕ → List Row
hop_rows w set =
    ((flat_map (λ a. map (comes_from_somewhere w set a) (centres w)) (member_numbers w set)
    ++ flat_map (λ a. flat_map (λ p. map (has_them_itself w set a p) (others w p)) (centres w)) (member_numbers w set))
    ++ flat_map (λ a. map (writes_a_replica w set a) (centres w)) (member_numbers w set))
    ++ map (writes_near w set) (numbered_members w set)

-- the rows, in their order: those on reading, and those on writing
abbrev pub relay_rows : Lists → ℕ → List Row
relay_rows w set = reading_rows w set ++ hop_rows w set

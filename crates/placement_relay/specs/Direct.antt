-- What a direct set's program has of its own: every member writes to every replica itself.
use Rattle.std.specs.Prelude.{ℕ, ◌+◌, List, ◌++◌, map}
use Rattle.std.specs.List.{sum_by}
use Rattle.zero_one.specs.declared.rows.Row.{Row}
use Rattle.workload.specs.World.{Lists, rule_of, members_of}
use Rattle.slo_rules.specs.Cost.{stored_cost, puts_cost}
use Rattle.placement_rows.specs.Centres.{centres, write_near}
use Rattle.placement_relay.specs.Reading.{reading_costs, reading_rows, has_replicas}

-- what a replica in a centre costs: its storage, and all puts
abbrev pub replica_cost : Lists → ℕ → ℕ → ℕ
replica_cost w set d =
    stored_cost w (rule_of w set) d + sum_by (λ m. puts_cost w (rule_of w set) m m.dc.0 d) (members_of w set)

-- the costs of the variables, in their order
abbrev pub direct_costs : Lists → ℕ → List ℕ
direct_costs w set = map (replica_cost w set) (centres w) ++ reading_costs w set

-- the rows, in their order: those on reading, and enough replicas near to write to
abbrev pub direct_rows : Lists → ℕ → List Row
direct_rows w set = reading_rows w set ++ map (λ m. has_replicas w set (write_near w set m)) (members_of w set)

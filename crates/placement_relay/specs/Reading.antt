-- What the programs of direct and relay sets share: where replicas are kept, and where members
-- read. `r d` is 1 where centre `d` keeps a replica, `h a d` where member number `a` reads at centre
-- `d`; with `n` centres `r d` is variable `d` and `h a d` is variable `n + a * n + d`.
use Rattle.std.specs.Prelude.{ℕ, ◌+◌, ◌*◌, List, [], ◌∷◌, ◌++◌, map}
use Rattle.std.specs.List.{flat_map}
use Rattle.workload.specs.World.{Lists, centre_count, rule_of, members_of}
use Rattle.workload.specs.declared.rules.Demand.{Demand}
use Rattle.slo_rules.specs.Cost.{gets_cost}
use Rattle.zero_one.specs.declared.rows.Row.{Row}
use Rattle.placement_rows.specs.Centres.{centres, member_numbers, numbered_members, read_near}
use Rattle.placement_rows.specs.Rows.{at_least, backed}

-- the variable that says that a member reads at a centre
abbrev pub h : Lists → ℕ → ℕ → ℕ
h w a d = centre_count w + a * centre_count w + d

-- what the gets cost: each member's at each centre
abbrev pub reading_costs : Lists → ℕ → List ℕ
reading_costs w set = flat_map (λ m. map (gets_cost w (rule_of w set) m) (centres w)) (members_of w set)

-- a member reads at one of its read-near centres at least
abbrev pub reads_somewhere : Lists → ℕ → (ℕ × Demand) → Row
reads_somewhere w set (a, m) = at_least 1 (h w a) (read_near w set m)

-- a centre at which a member reads keeps a replica
abbrev pub reads_a_replica : Lists → ℕ → ℕ → Row
reads_a_replica w a d = backed (λ v. v) (d ∷ []) (h w a d)

-- more than `f` of these centres keep a replica
abbrev pub has_replicas : Lists → ℕ → List ℕ → Row
has_replicas w set near = at_least ((rule_of w set).f + 1) (λ d. d) near

-- the rows on reading: each member reads near, at replicas, and has enough of them near
abbrev pub reading_rows : Lists → ℕ → List Row
reading_rows w set =
    (map (reads_somewhere w set) (numbered_members w set)
    ++ flat_map (λ a. map (reads_a_replica w a) (centres w)) (member_numbers w set))
    ++ map (λ m. has_replicas w set (read_near w set m)) (members_of w set)

-- The rows of a strong set's program.
use Rattle.std.specs.Prelude.{ℕ, ◌+◌, ◌*◌, ◌&&◌, List, [], ◌∷◌, ◌++◌, map}
use Rattle.std.specs.List.{flat_map, filter, enumerate_from}
use Rattle.zero_one.specs.declared.rows.Row.{Row}
use Rattle.workload.specs.World.{Lists, rule_of}
use Rattle.slo_rules.specs.Rules.{is_read_near, is_write_near}
use Rattle.placement_rows.specs.Centres.{centres, read_near, write_near}
use Rattle.placement_rows.specs.Rows.{at_least, backed}
use Rattle.placement_strong.specs.Variables.{members, member_count, member_at, pairs, g_var, w_var, u_var, v_var}

-- more than twice `f` of the variables of these centres are 1
abbrev pub quorum_row : Lists → ℕ → (ℕ → ℕ) → List ℕ → Row
quorum_row w set var places = at_least (2 * (rule_of w set).f + 1) var places

-- the variable `low` is 1 only where the variable `up`, which precedes it, is
abbrev pub only_where : ℕ → ℕ → Row
only_where up low = backed (λ v. v) (up ∷ []) low

-- the centres where a member reads in time and another writes in time, and where both write in time
abbrev pub meeting_places : Lists → ℕ → ℕ → ℕ → List ℕ
meeting_places w set a b =
    filter (λ d. is_read_near w (rule_of w set) (member_at w set a).dc.0 d && is_write_near w (rule_of w set) (member_at w set b).dc.0 d) (centres w)

abbrev pub write_places : Lists → ℕ → ℕ → ℕ → List ℕ
write_places w set a b =
    filter (λ d. is_write_near w (rule_of w set) (member_at w set a).dc.0 d && is_write_near w (rule_of w set) (member_at w set b).dc.0 d) (centres w)

-- 1. a read set and a write set meet in enough centres
abbrev pub meets : Lists → ℕ → ℕ → ℕ → Row
meets w set a b = quorum_row w set (u_var w set a b) (meeting_places w set a b)

-- 2. where they meet, both sets have the centre
abbrev pub meets_within : Lists → ℕ → ℕ → ℕ → ℕ → List Row
meets_within w set a b d = only_where (g_var w a d) (u_var w set a b d) ∷ only_where (w_var w set b d) (u_var w set a b d) ∷ []

-- 3. a write set has enough centres
abbrev pub writes : Lists → ℕ → ℕ → Row
writes w set a = quorum_row w set (w_var w set a) (write_near w set (member_at w set a))

-- 4. two write sets, which are a pair of this number, meet in enough centres
abbrev pub writes_meet : Lists → ℕ → ℕ × (ℕ × ℕ) → Row
writes_meet w set (pair, (a, b)) = quorum_row w set (v_var w set pair) (write_places w set a b)

-- 5. where they meet, both sets have the centre
abbrev pub writes_meet_within : Lists → ℕ → ℕ × (ℕ × ℕ) → ℕ → List Row
writes_meet_within w set (pair, (a, b)) d = only_where (w_var w set a d) (v_var w set pair d) ∷ only_where (w_var w set b d) (v_var w set pair d) ∷ []

-- 6. and 7. a centre of a read set, and one of a write set, keeps a replica
abbrev pub reads_replica : Lists → ℕ → ℕ → Row
reads_replica w a d = only_where d (g_var w a d)

abbrev pub writes_replica : Lists → ℕ → ℕ → ℕ → Row
writes_replica w set a d = only_where d (w_var w set a d)

-- the pairs of a set's members with their numbers
abbrev pub numbered_pairs : Lists → ℕ → List (ℕ × (ℕ × ℕ))
numbered_pairs w set = enumerate_from 0 (pairs (member_count w set))

-- the rows, in their order
abbrev pub strong_rows : Lists → ℕ → List Row
strong_rows w set =
    (((((flat_map (λ a. map (meets w set a) (members w set)) (members w set)
    ++ flat_map (λ a. flat_map (λ b. flat_map (meets_within w set a b) (centres w)) (members w set)) (members w set))
    ++ map (writes w set) (members w set))
    ++ map (writes_meet w set) (numbered_pairs w set))
    ++ flat_map (λ p. flat_map (writes_meet_within w set p) (centres w)) (numbered_pairs w set))
    ++ flat_map (λ a. map (reads_replica w a) (centres w)) (members w set))
    ++ flat_map (λ a. map (writes_replica w set a) (centres w)) (members w set)

-- what keeps a replica in a centre: the centre's place in a read set in which the member may read,
-- or in a write set in which it may write
abbrev pub keeping : Lists → ℕ → List (ℕ × ℕ)
keeping w set =
    flat_map (λ a. map (λ d. (g_var w a d, d)) (read_near w set (member_at w set a))) (members w set)
    ++ flat_map (λ a. map (λ d. (w_var w set a d, d)) (write_near w set (member_at w set a))) (members w set)

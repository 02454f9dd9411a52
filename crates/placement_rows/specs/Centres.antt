-- The centres and the members of a set, over which its program has variables.
use Rattle.std.specs.Prelude.{ℕ, List, length}
use Rattle.std.specs.List.{enumerate_from, filter, fold, range_with_len}
use Rattle.span_base.specs.declared.dc_set.DcSet.{DcSet}
use Rattle.span_base.specs.DcSet.{insert, no_centre as no_dc}
use Rattle.workload.specs.World.{Lists, centre_count, rule_of, members_of}
use Rattle.workload.specs.declared.rules.Demand.{Demand}
use Rattle.slo_rules.specs.Rules.{is_read_near, is_write_near}

-- the numbers of the centres
abbrev pub centres : Lists → List ℕ
centres w = range_with_len 0 (centre_count w)

-- the members of a set with their numbers
abbrev pub numbered_members : Lists → ℕ → List (ℕ × Demand)
numbered_members w set = enumerate_from 0 (members_of w set)

abbrev pub member_numbers : Lists → ℕ → List ℕ
member_numbers w set = range_with_len 0 (length (members_of w set))

-- the centres that are read-near to a member, and those that are write-near
abbrev pub read_near : Lists → ℕ → Demand → List ℕ
read_near w set m = filter (is_read_near w (rule_of w set) m.dc.0) (centres w)

abbrev pub write_near : Lists → ℕ → Demand → List ℕ
write_near w set m = filter (is_write_near w (rule_of w set) m.dc.0) (centres w)

-- the set of these centres
abbrev pub set_of_centres : List ℕ → DcSet
set_of_centres ds = fold insert no_dc ds

-- what a place past the last member stands for
abbrev pub nobody : Demand
nobody = record { dc = record { 0 = 0 }; gets = 0; puts = 0 }

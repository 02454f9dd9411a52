-- The 0-1 program of a joint plan: the sets' programs one after the other, with their variables moved
-- up, the digits of the machines, and what the machines bear.
use Rattle.std.specs.Prelude.{ℕ, ◌+◌, List, ◌++◌, map}
use Rattle.std.specs.List.{flat_map}
use Rattle.zero_one.specs.Contents.{Contents}
use Rattle.zero_one.specs.declared.rows.Entry.{Entry}
use Rattle.zero_one.specs.declared.rows.Row.{Row}
use Rattle.workload.specs.World.{Lists}
use Rattle.placement.specs.Placement.{program_of}
use Rattle.placement_rows.specs.Centres.{centres}
use Rattle.machine_text.specs.Machines.{Fleet}
use Rattle.joint_placement.specs.JointPlans.{sets}
use Rattle.joint_placement.specs.Variables.{first_of, joint_costs}
use Rattle.joint_placement.specs.Capacity.{capacity_row}

-- an entry and a row whose variables are so much further up
abbrev pub moved_entry : ℕ → Entry → Entry
moved_entry first entry = record { var = first + entry.var; coef = entry.coef }

abbrev pub moved_row : ℕ → Row → Row
moved_row first row = record { entries = map (moved_entry first) row.entries; bound = row.bound }

-- the rows of a set's program at their place
abbrev pub set_rows : Lists → ℕ → List Row
set_rows w set = map (moved_row (first_of w set)) (program_of w set).rows

-- all rows: those of the sets, and then one for each centre
unfoldable pub joint_rows : Lists → Fleet → List Row
joint_rows w fleet = flat_map (set_rows w) (sets w) ++ map (capacity_row w fleet) (centres w)

-- the 0-1 program of the joint plans of a world
unfoldable pub joint_program : Lists → Fleet → Contents
joint_program w fleet = record { costs = joint_costs w fleet; rows = joint_rows w fleet }

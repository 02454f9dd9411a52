-- What the near centres of a set's members are as sets: words of inner contracts alone.
use Rattle.std.specs.Prelude.{ℕ, List, map}
use Rattle.span_base.specs.declared.dc_set.DcSet.{DcSet}
use Rattle.workload.specs.World.{Lists, members_of}
use Rattle.placement_rows.specs.Centres.{read_near, write_near, set_of_centres}

-- the read-near centres of each member, and the write-near ones
abbrev pub read_near_sets : Lists → ℕ → List DcSet
read_near_sets w set = map (λ m. set_of_centres (read_near w set m)) (members_of w set)

abbrev pub write_near_sets : Lists → ℕ → List DcSet
write_near_sets w set = map (λ m. set_of_centres (write_near w set m)) (members_of w set)

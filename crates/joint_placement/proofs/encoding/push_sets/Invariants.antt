use Rattle.std.proofs.Common.{◌≡◌, length}
use Rattle.std.specs.List.{flat_map, range_with_len}
use Rattle.placement.specs.Placement.{program_of}
use Rattle.joint_placement.specs.Variables.{first_of}
use Rattle.joint_placement.specs.Programs.{set_rows}
use Rattle.joint_placement.proofs.encoding.push_sets.Given as goal

abbrev pub invariant-loop-set : goal.invariant-loop-set
invariant-loop-set l = record {
  costs : l.costs.items ≡ flat_map (λ set. (program_of l.world set).costs) (range_with_len 0 l.set);
  rows : l.rows.items ≡ flat_map (set_rows l.world) (range_with_len 0 l.set);
  many : length l.costs.items ≡ first_of l.world l.set;
}

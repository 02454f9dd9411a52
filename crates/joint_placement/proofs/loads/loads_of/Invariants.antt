use Rattle.std.proofs.Common.{◌≡◌, ◌≤◌, map}
use Rattle.std.specs.List.{flat_map, range_with_len}
use Rattle.joint_placement.specs.Variables.{first_of}
use Rattle.joint_placement.specs.Capacity.{set_loads, load_from}
use Rattle.joint_placement.proofs.loads.loads_of.Given as goal

abbrev pub invariant-loop-set : goal.invariant-loop-set
invariant-loop-set l = record {
  gathered : l.loads.items ≡ flat_map (λ set. map (load_from (first_of l.world set)) (set_loads l.world l.unit l.dc.0 set)) (range_with_len 0 l.set);
  next : l.first ≡ first_of l.world l.set;
  low : l.first ≤ 4096;
}

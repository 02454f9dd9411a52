use Rattle.std.proofs.Common.{◌≡◌, ◌*◌, ◌≤◌, map}
use Rattle.std.specs.List.{range_with_len}
use Rattle.placement.specs.Placement as set_policy
use Rattle.joint_placement.specs.Variables.{first_of}
use Rattle.joint_placement.specs.Placed.{part_of}
use Rattle.joint_placement.proofs.decoding.decoded_policies.Given as goal

abbrev pub invariant-loop-set : goal.invariant-loop-set
invariant-loop-set l = record {
  made : l.policies.items ≡ map (λ set. set_policy.decoded l.world set (part_of l.world l.x set)) (range_with_len 0 l.set);
  next : l.first ≡ first_of l.world l.set;
  small : l.first ≤ l.set * 4096;
}

use Rattle.std.proofs.Common.{◌≡◌, ◌≤◌, ◌*◌, ◌^◌}
use Rattle.std.specs.List.{sum_by, range_with_len}
use Rattle.machine_text.specs.Machines.{machine_of}
use Rattle.joint_placement.specs.JointPlans.{machines_in}
use Rattle.joint_plan.proofs.cost.machines_cost.Given as goal

abbrev pub invariant-loop-d : goal.invariant-loop-d
invariant-loop-d l = record {
  counted : l.total ≡ sum_by (λ d. machines_in l.plan d * (machine_of l.machines d).price) (range_with_len 0 l.d);
  small : l.total ≤ l.d * (1023 * 10 ^ 9);
}

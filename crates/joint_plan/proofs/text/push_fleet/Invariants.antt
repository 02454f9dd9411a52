use Rattle.std.proofs.Common.{◌≡◌, ◌++◌, string_bytes}
use Rattle.std.specs.List.{flat_map, range_with_len}
use Rattle.joint_placement.specs.JointPlans.{machines_in}
use Rattle.joint_plan.specs.JointText.{machines_line}
use Rattle.joint_plan.proofs.text.push_fleet.Given as goal

abbrev pub invariant-loop-d : goal.invariant-loop-d
invariant-loop-d l = string_bytes l.text ≡ string_bytes l.fn.text ++ flat_map (λ d. machines_line l.world d (machines_in l.plan d)) (range_with_len 0 l.d)

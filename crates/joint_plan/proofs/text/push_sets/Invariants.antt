use Rattle.std.proofs.Common.{◌≡◌, ◌++◌, string_bytes}
use Rattle.std.specs.List.{flat_map, range_with_len}
use Rattle.joint_plan.specs.JointText.{set_text}
use Rattle.joint_plan.proofs.text.push_sets.Given as goal

abbrev pub invariant-loop-set : goal.invariant-loop-set
invariant-loop-set l = string_bytes l.text ≡ string_bytes l.fn.text ++ flat_map (set_text l.world l.plan) (range_with_len 0 l.set)

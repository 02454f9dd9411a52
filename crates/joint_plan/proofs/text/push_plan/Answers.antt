use Rattle.std.proofs.Common.{string_bytes}
use Rattle.std.specs.List.{flat_map}
use Rattle.std.proofs.lemmas.Result.{on_ok_weaker}
use Rattle.placement_rows.specs.Centres.{centres}
use Rattle.joint_placement.specs.JointPlans.{sets, machines_in}
use Rattle.joint_plan.specs.JointText.{set_text, machines_line, plan_text}
use Rattle.joint_plan.proofs.Texts.{two_pieces}
use Rattle.joint_plan.proofs.text.push_plan.Goals as goal

pub returns : goal.returns
unfolding plan_text
returns c =
    let w = c.args.world.now in
    let plan = c.args.plan.now in
    on_ok_weaker c.push_fleet.result
    (two_pieces (string_bytes c.args.text.now) (string_bytes c.push_sets.new.text) (string_bytes c.push_fleet.new.text) (flat_map (set_text w plan) (sets w)) (flat_map (λ d. machines_line w d (machines_in plan d)) (centres w)) c.in_ok-push_sets.ensures)
    c.push_fleet.ensures

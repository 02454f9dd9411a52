use Rattle.std.proofs.Common.{ℕ, List, get_or, ap, string_bytes}
use Rattle.joint_placement.specs.JointPlans.{machines_in}
use Rattle.joint_plan.specs.JointText.{machines_line}
use Rattle.joint_plan.proofs.Texts.{pieces_more}
use Rattle.joint_plan.proofs.text.push_fleet.Goals as goal

pub loop-d-preserved : goal.loop-d-preserved
loop-d-preserved c =
    let w = c.args.world.now in
    let plan = c.args.plan.now in
    let d = c.loop-d.d in
    let f : ℕ → List ℕ = λ e. machines_line w e (machines_in plan e) in
    pieces_more f d (string_bytes c.args.text.now) (string_bytes c.loop-d.text) (string_bytes c.push_machines.new.text) (machines_line w d (get_or c.machines-machines.result.now d 0))
    c.loop-d.invariant c.in_ok-push_machines.ensures (ap (λ (ns : List ℕ). machines_line w d (get_or ns d 0)) c.machines-machines.ensures)

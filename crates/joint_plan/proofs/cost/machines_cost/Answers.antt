use Rattle.std.proofs.Common.{◌≡◌, ◌∙◌, ◌*◌, ℕ, List, get_or, ap, arith}
use Rattle.machine_text.specs.Machines.{machine_of}
use Rattle.joint_placement.specs.JointPlans.{machines_in}
use Rattle.joint_placement.proofs.Stacks.{sum-next}
use Rattle.joint_plan.proofs.cost.machines_cost.Goals as goal

pub loop-d-preserved : goal.loop-d-preserved
loop-d-preserved c =
    let plan = c.args.plan.now in
    let fleet = c.args.machines.now in
    let d = c.loop-d.d in
    let f : ℕ → ℕ = λ e. machines_in plan e * (machine_of fleet e).price in
    let same : c.machine_cost-total.result ≡ f d = c.machine_cost-total.ensures.cost ∙ ap (λ (ns : List ℕ). get_or ns d 0 * (machine_of fleet d).price) c.machines-numbers.ensures in
    record {
      counted = omega (arith, c.loop-d.invariant.counted, same, sum-next f d);
      small = omega (arith, c.loop-d.invariant.small, c.machine_cost-total.ensures.small);
    }

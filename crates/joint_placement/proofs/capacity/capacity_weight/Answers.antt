use Rattle.std.proofs.Common.{ℕ, ◌*◌, ◌^◌, ◌∙◌, ap, arith}
use Rattle.std.specs.List.{sum_by}
use Rattle.machine_text.specs.declared.machines.Machine.{Machine}
use Rattle.joint_placement.specs.Variables.{places}
use Rattle.joint_placement.specs.Capacity.{joint_loads}
use Rattle.joint_placement.proofs.JointFits.{capacity-weight}
use Rattle.joint_placement.proofs.capacity.capacity_weight.Goals as goal

pub returns-clause-weight : goal.returns-clause-weight
returns-clause-weight c =
    let w = c.args.world.now in
    let fleet = c.args.machines.now in
    let same = c.as_slice.ensures.value ∙ c.in_ok-loads.ensures.loads ∙ ap (λ u. joint_loads w u c.args.dc.0) c.unit.ensures.unit in
    let loads = ap (sum_by (λ (load : ℕ × ℕ). load.1)) same in
    let digits = ap (λ (m : Machine). sum_by (λ j. 2 ^ j * m.capacity) (places m)) c.machine.ensures.machine in
    omega (arith, c.sum_of.ensures.sum, loads, c.most_capacity.ensures.sum, digits, capacity-weight w fleet c.args.dc.0)

use Rattle.std.proofs.Common.{◌≤◌, length, ◌∙◌, sym, ap, subst}
use Rattle.zero_one.specs.Program.{IsFeasible, value_of}
use Rattle.joint_placement.specs.JointPlans.{JointPlan, IsJointPlan, MeetsCapacity, joint_cost}
use Rattle.joint_placement.specs.Variables.{joint_costs}
use Rattle.joint_placement.specs.Programs.{joint_program}
use Rattle.joint_placement.specs.Placed.{decoded}
use Rattle.joint_placement.proofs.JointLaws.{decoding}
use Rattle.joint_placement.proofs.ReadingOff.{all-bits, joint-costs, whole-plan}
use Rattle.joint_placement.proofs.decoding.decode_joint.Goals as goal

pub decoded_policies-requires : goal.decoded_policies-requires
decoded_policies-requires c = subst (IsFeasible (joint_program c.args.world.now c.args.machines.now)) (sym c.as_slice-x.ensures) c.requires.feasible

pub decoded_numbers-requires : goal.decoded_numbers-requires
decoded_numbers-requires c = ap length c.as_slice-x.ensures ∙ all-bits c.args.world.now c.args.machines.now c.args.x.now c.requires.feasible

pub returns-clause-plan : goal.returns-clause-plan
returns-clause-plan c =
    whole-plan c.args.world.now c.args.machines.now c.args.x.now c.as_slice-x.result.now c.in_ok-policies.policies.items c.in_ok-numbers.numbers.items c.make.result c.make.ensures c.as_slice-x.ensures c.in_ok-policies.ensures c.in_ok-numbers.ensures

pub returns-clause-joint : goal.returns-clause-joint
returns-clause-joint c =
    let w = c.args.world.now in
    let fleet = c.args.machines.now in
    let plan = whole-plan w fleet c.args.x.now c.as_slice-x.result.now c.in_ok-policies.policies.items c.in_ok-numbers.numbers.items c.make.result c.make.ensures c.as_slice-x.ensures c.in_ok-policies.ensures c.in_ok-numbers.ensures in
    subst (IsJointPlan w fleet) (sym plan) (decoding w fleet c.centre_count-centres.ensures.complete c.centre_count-centres.ensures.named c.args.x.now c.requires.feasible).plan

pub returns-clause-capacity : goal.returns-clause-capacity
returns-clause-capacity c =
    let w = c.args.world.now in
    let fleet = c.args.machines.now in
    let plan = whole-plan w fleet c.args.x.now c.as_slice-x.result.now c.in_ok-policies.policies.items c.in_ok-numbers.numbers.items c.make.result c.make.ensures c.as_slice-x.ensures c.in_ok-policies.ensures c.in_ok-numbers.ensures in
    subst (MeetsCapacity w fleet) (sym plan) (decoding w fleet c.centre_count-centres.ensures.complete c.centre_count-centres.ensures.named c.args.x.now c.requires.feasible).capacity

pub returns-clause-cost : goal.returns-clause-cost
returns-clause-cost c =
    let w = c.args.world.now in
    let fleet = c.args.machines.now in
    let plan = whole-plan w fleet c.args.x.now c.as_slice-x.result.now c.in_ok-policies.policies.items c.in_ok-numbers.numbers.items c.make.result c.make.ensures c.as_slice-x.ensures c.in_ok-policies.ensures c.in_ok-numbers.ensures in
    let low = (decoding w fleet c.centre_count-centres.ensures.complete c.centre_count-centres.ensures.named c.args.x.now c.requires.feasible).cost in
    subst (λ (p : JointPlan). joint_cost w fleet p ≤ value_of (joint_costs w fleet) c.args.x.now) (sym plan) (subst (λ cs. joint_cost w fleet (decoded w fleet c.args.x.now) ≤ value_of cs c.args.x.now) (joint-costs w fleet) low)

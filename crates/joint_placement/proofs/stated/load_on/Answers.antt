use Rattle.std.proofs.Common.{◌≡◌, ◌∙◌, ◌<◌, ℕ, length, get_or, ap, arith}
use Rattle.std.proofs.lemmas.List.{get_or_read}
use Rattle.joint_placement.specs.Loads.{policy_load}
use Rattle.joint_placement.specs.JointPlans.{policy_of, no_policy}
use Rattle.joint_placement.proofs.Stacks.{sum-next}
use Rattle.joint_placement.proofs.stated.load_on.Goals as goal

pub loop-set-preserved : goal.loop-set-preserved
loop-set-preserved c =
    let w = c.args.world.now in
    let plan = c.args.plan.now in
    let g : ℕ → ℕ = λ set. policy_load w c.unit-unit.result c.args.dc.0 set (policy_of plan set) in
    let low : c.loop-set.set < length plan.policies = omega (arith, c.loop-set-test.true, c.sets-set-end.ensures, c.requires) in
    let read : c.index-policies-set.result ≡ get_or plan.policies c.loop-set.set c.index-policies-set.result = rw (← c.policies-policies.ensures) c.index-policies-set.is in
    let at : c.index-policies-set.result ≡ policy_of plan c.loop-set.set = get_or_read plan.policies c.loop-set.set c.index-policies-set.result low read no_policy in
    let same : c.policy_load-total.result ≡ g c.loop-set.set = c.policy_load-total.ensures.load ∙ ap (policy_load w c.unit-unit.result c.args.dc.0 c.loop-set.set) at in
    (omega (arith, c.loop-set.invariant.0, same, sum-next g c.loop-set.set), omega (arith, c.loop-set.invariant.1, c.policy_load-total.ensures.small))

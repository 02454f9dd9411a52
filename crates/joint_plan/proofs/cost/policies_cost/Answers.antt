use Rattle.std.proofs.Common.{◌≡◌, ◌∙◌, ◌+◌, ◌<◌, ℕ, true, length, get_or, sym, ap, subst, arith}
use Rattle.std.proofs.lemmas.List.{get_or_read}
use Rattle.span_base.specs.declared.policy.Policy.{Policy}
use Rattle.slo_rules.specs.Rules.{fits_set}
use Rattle.slo_rules.specs.Cost.{policy_cost}
use Rattle.joint_placement.specs.JointPlans.{policy_of, no_policy}
use Rattle.joint_placement.proofs.Stacks.{sum-next}
use Rattle.planner.proofs.Endings.{allowed_fits}
use Rattle.joint_plan.proofs.Costs.{sum-up}
use Rattle.joint_plan.proofs.cost.policies_cost.Goals as goal

pub cost-total-requires-clause-fitting : goal.cost-total-requires-clause-fitting
cost-total-requires-clause-fitting c =
    let w = c.args.world.now in
    let plan = c.args.plan.now in
    let set = c.loop-set.set in
    let there : set < length w.sets = omega (arith, c.loop-set-test.true, c.sets-set-end.ensures) in
    let low : set < length plan.policies = omega (arith, there, c.requires.joint.policies) in
    let read : c.index-policies-set.result ≡ get_or plan.policies set c.index-policies-set.result = rw (← c.policies-policies.ensures) c.index-policies-set.is in
    let at : c.index-policies-set.result ≡ policy_of plan set = get_or_read plan.policies set c.index-policies-set.result low read no_policy in
    subst (λ (p : Policy). fits_set w set p ≡ true) (sym at) (allowed_fits w set (policy_of plan set) (c.requires.joint.allowed set there))

pub overflow_add-total : goal.overflow_add-total
overflow_add-total c =
    let w = c.args.world.now in
    let plan = c.args.plan.now in
    let set = c.loop-set.set in
    let f : ℕ → ℕ = λ s. policy_cost w s (policy_of plan s) in
    let there : set < length w.sets = omega (arith, c.loop-set-test.true, c.sets-set-end.ensures) in
    let low : set < length plan.policies = omega (arith, there, c.requires.joint.policies) in
    let read : c.index-policies-set.result ≡ get_or plan.policies set c.index-policies-set.result = rw (← c.policies-policies.ensures) c.index-policies-set.is in
    let at : c.index-policies-set.result ≡ policy_of plan set = get_or_read plan.policies set c.index-policies-set.result low read no_policy in
    let same : c.cost-total.result ≡ f set = c.cost-total.ensures ∙ ap (policy_cost w set) at in
    omega (arith, c.loop-set.invariant, same, sum-next f set, sum-up f (set + 1) (length w.sets) (omega (arith, there)), c.requires.small)

pub loop-set-preserved : goal.loop-set-preserved
loop-set-preserved c =
    let w = c.args.world.now in
    let plan = c.args.plan.now in
    let set = c.loop-set.set in
    let f : ℕ → ℕ = λ s. policy_cost w s (policy_of plan s) in
    let there : set < length w.sets = omega (arith, c.loop-set-test.true, c.sets-set-end.ensures) in
    let low : set < length plan.policies = omega (arith, there, c.requires.joint.policies) in
    let read : c.index-policies-set.result ≡ get_or plan.policies set c.index-policies-set.result = rw (← c.policies-policies.ensures) c.index-policies-set.is in
    let at : c.index-policies-set.result ≡ policy_of plan set = get_or_read plan.policies set c.index-policies-set.result low read no_policy in
    let same : c.cost-total.result ≡ f set = c.cost-total.ensures ∙ ap (policy_cost w set) at in
    omega (arith, c.loop-set.invariant, same, sum-next f set)

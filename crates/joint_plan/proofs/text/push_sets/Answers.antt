use Rattle.std.proofs.Common.{◌≡◌, ◌<◌, ◌++◌, length, get_or, ap, sym, subst, string_bytes, arith}
use Rattle.std.proofs.lemmas.List.{get_or_read}
use Rattle.span_base.specs.declared.policy.Policy.{Policy}
use Rattle.slo_rules.specs.PolicyText.{policy_text, NamesCentres}
use Rattle.joint_placement.specs.JointPlans.{policy_of, no_policy}
use Rattle.joint_plan.specs.JointText.{set_text, named_line}
use Rattle.joint_plan.proofs.Texts.{pieces_more, two_pieces}
use Rattle.joint_plan.proofs.text.push_sets.Goals as goal

pub push_policy-requires : goal.push_policy-requires
push_policy-requires c =
    let w = c.args.world.now in
    let plan = c.args.plan.now in
    let set = c.loop-set.set in
    let there : set < length w.sets = omega (arith, c.loop-set-test.true, c.sets-set-end.ensures) in
    let low : set < length plan.policies = omega (arith, there, c.requires.policies) in
    let read : c.index-policies-set.result ≡ get_or plan.policies set c.index-policies-set.result = rw (← c.policies-policies.ensures) c.index-policies-set.is in
    let at : c.index-policies-set.result ≡ policy_of plan set = get_or_read plan.policies set c.index-policies-set.result low read no_policy in
    subst (NamesCentres w) (sym at) (c.requires.names set there)

pub loop-set-preserved : goal.loop-set-preserved
loop-set-preserved c =
    let w = c.args.world.now in
    let plan = c.args.plan.now in
    let set = c.loop-set.set in
    let low : set < length plan.policies = omega (arith, c.loop-set-test.true, c.sets-set-end.ensures, c.requires.policies) in
    let read : c.index-policies-set.result ≡ get_or plan.policies set c.index-policies-set.result = rw (← c.policies-policies.ensures) c.index-policies-set.is in
    let at : c.index-policies-set.result ≡ policy_of plan set = get_or_read plan.policies set c.index-policies-set.result low read no_policy in
    pieces_more (set_text w plan) set (string_bytes c.args.text.now) (string_bytes c.loop-set.text) (string_bytes c.push_policy.new.text) (named_line w set ++ policy_text w c.index-policies-set.result)
    c.loop-set.invariant
    (two_pieces (string_bytes c.loop-set.text) (string_bytes c.push_named.new.text) (string_bytes c.push_policy.new.text) (named_line w set) (policy_text w c.index-policies-set.result) c.in_ok-push_named.ensures c.in_ok-push_policy.ensures)
    (ap (λ (p : Policy). named_line w set ++ policy_text w p) at)

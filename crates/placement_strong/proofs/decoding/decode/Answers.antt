use Rattle.std.proofs.Common.{◌≡◌, ◌≤◌, ◌∙◌, List, sym, ap, subst, arith, length}
use Rattle.span_base.specs.declared.policy.Policy.{Policy}
use Rattle.span_base.specs.declared.policy.Policy.TheVariants.{Strong}
use Rattle.span_base.specs.declared.policy.Quorum.{Quorum}
use Rattle.workload.specs.World.{rule_of}
use Rattle.slo_rules.specs.Rules.{IsAllowed, union_of}
use Rattle.slo_rules.specs.Cost.{policy_cost}
use Rattle.zero_one.specs.Program.{value_of}
use Rattle.placement_strong.specs.Programs.{set_costs}
use Rattle.placement_strong.specs.Placed.{chosen_quorums, decoded}
use Rattle.placement_strong.proofs.Choices.{decoding, feasible_bits}
use Rattle.placement_strong.proofs.Limits.{set_variables}
use Rattle.placement_strong.proofs.decoding.decode.Goals as goal

pub chosen_quorums-requires-clause-bits : goal.chosen_quorums-requires-clause-bits
chosen_quorums-requires-clause-bits c =
    omega (arith, ap length c.as_slice.ensures, feasible_bits c.args.world.now c.args.set.0 c.args.x.now c.requires.feasible, set_variables c.args.world.now c.args.set.0)

pub returns-clause-policy : goal.returns-clause-policy
unfolding decoded
returns-clause-policy c =
    let w = c.args.world.now in
    let set = c.args.set.0 in
    let f : c.rule.result.f ≡ (rule_of w set).f = ap (λ r. r.f) c.rule.ensures.rule in
    let quorums : c.in_ok-quorums.quorums ≡ chosen_quorums w set c.args.x.now = c.in_ok-quorums.ensures ∙ ap (chosen_quorums w set) c.as_slice.ensures in
    let union : c.union_of.result ≡ union_of c.in_ok-quorums.quorums = c.union_of.ensures ∙ ap union_of c.as_slice-2.ensures in
    ap (λ f. Strong f c.union_of.result c.in_ok-quorums.quorums) f
    ∙ ap (λ replicas. Strong (rule_of w set).f replicas c.in_ok-quorums.quorums) union
    ∙ ap (λ (qs : List Quorum). Strong (rule_of w set).f (union_of qs) qs) quorums

pub returns-clause-allowed : goal.returns-clause-allowed
returns-clause-allowed c =
    subst (IsAllowed c.args.world.now c.args.set.0) (sym (returns-clause-policy c)) (decoding c.args.world.now c.args.set.0 c.requires.strong c.args.x.now c.requires.feasible).allowed

pub returns-clause-cost : goal.returns-clause-cost
returns-clause-cost c =
    subst (λ (q : Policy). policy_cost c.args.world.now c.args.set.0 q ≤ value_of (set_costs c.args.world.now c.args.set.0) c.args.x.now) (sym (returns-clause-policy c)) (decoding c.args.world.now c.args.set.0 c.requires.strong c.args.x.now c.requires.feasible).cost

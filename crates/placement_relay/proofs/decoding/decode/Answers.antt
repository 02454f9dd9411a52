use Rattle.std.proofs.Common.{◌≡◌, ◌≤◌, ◌∙◌, sym, ap, subst, arith, length}
use Rattle.span_base.specs.declared.policy.Policy.{Policy}
use Rattle.workload.specs.World.{rule_of}
use Rattle.workload.specs.declared.rules.SetRule.{SetRule}
use Rattle.workload.specs.declared.rules.Mode.TheVariants as mode
use Rattle.slo_rules.specs.Rules.{IsAllowed}
use Rattle.slo_rules.specs.Cost.{policy_cost}
use Rattle.zero_one.specs.Program.{value_of}
use Rattle.placement_relay.specs.Programs.{costs_by, set_costs}
use Rattle.placement_relay.proofs.EventualSets.{decoding, direct_parts, relay_parts, feasible_bits}
use Rattle.placement_relay.proofs.Limits.{reading_variables, set_variables}
use Rattle.placement_relay.proofs.decoding.decode.Goals as goal

pub chosen_replicas-replicas-requires-clause-bits : goal.chosen_replicas-replicas-requires-clause-bits
chosen_replicas-replicas-requires-clause-bits c =
    omega (arith, ap length c.as_slice-x.ensures, feasible_bits c.args.world.now c.args.set.0 c.args.x.now c.requires.feasible, reading_variables c.args.world.now c.args.set.0 c.requires.set)

pub chosen_primaries-requires-clause-bits : goal.chosen_primaries-requires-clause-bits
chosen_primaries-requires-clause-bits c =
    omega (arith, ap length c.as_slice-x.ensures, feasible_bits c.args.world.now c.args.set.0 c.args.x.now c.requires.feasible, reading_variables c.args.world.now c.args.set.0 c.requires.set)

pub chosen_hops-requires-clause-bits : goal.chosen_hops-requires-clause-bits
chosen_hops-requires-clause-bits c =
    let w = c.args.world.now in
    let is : (rule_of w c.args.set.0).mode ≡ mode.Relay = sym (ap (λ (r : SetRule). r.mode) c.rule-rule.ensures.rule) ∙ c.in-Relay.is in
    omega (arith, ap length c.as_slice-x.ensures, feasible_bits w c.args.set.0 c.args.x.now c.requires.feasible, set_variables w c.args.set.0 c.requires.set, ap (λ m. length (costs_by m w c.args.set.0)) is)

pub returns-in-Direct-clause-policy : goal.returns-in-Direct-clause-policy
returns-in-Direct-clause-policy c =
    let w = c.args.world.now in
    let is : (rule_of w c.args.set.0).mode ≡ mode.Direct = sym (ap (λ (r : SetRule). r.mode) c.rule-rule.ensures.rule) ∙ c.in-Direct.is in
    direct_parts w c.args.set.0 c.args.x.now c.as_slice-x.result.now c.rule-rule.result.f c.chosen_replicas-replicas.result c.in_ok-primary.primary is c.as_slice-x.ensures (ap (λ (r : SetRule). r.f) c.rule-rule.ensures.rule) c.chosen_replicas-replicas.ensures c.in_ok-primary.ensures

pub returns-in-Direct-clause-allowed : goal.returns-in-Direct-clause-allowed
returns-in-Direct-clause-allowed c =
    subst (IsAllowed c.args.world.now c.args.set.0) (sym (returns-in-Direct-clause-policy c)) (decoding c.args.world.now c.args.set.0 c.requires.set c.args.x.now c.requires.feasible).allowed

pub returns-in-Direct-clause-cost : goal.returns-in-Direct-clause-cost
returns-in-Direct-clause-cost c =
    subst (λ (q : Policy). policy_cost c.args.world.now c.args.set.0 q ≤ value_of (set_costs c.args.world.now c.args.set.0) c.args.x.now) (sym (returns-in-Direct-clause-policy c)) (decoding c.args.world.now c.args.set.0 c.requires.set c.args.x.now c.requires.feasible).cost

pub returns-in_ok-chosen_hops-in-Relay-clause-policy : goal.returns-in_ok-chosen_hops-in-Relay-clause-policy
returns-in_ok-chosen_hops-in-Relay-clause-policy c =
    let w = c.args.world.now in
    let is : (rule_of w c.args.set.0).mode ≡ mode.Relay = sym (ap (λ (r : SetRule). r.mode) c.rule-rule.ensures.rule) ∙ c.in-Relay.is in
    relay_parts w c.args.set.0 c.args.x.now c.as_slice-x.result.now c.rule-rule.result.f c.chosen_replicas-replicas.result c.in_ok-primary.primary c.in_ok-chosen_hops-in-Relay.field-0 is c.as_slice-x.ensures (ap (λ (r : SetRule). r.f) c.rule-rule.ensures.rule) c.chosen_replicas-replicas.ensures c.in_ok-primary.ensures c.in_ok-chosen_hops-in-Relay.ensures

pub returns-in_ok-chosen_hops-in-Relay-clause-allowed : goal.returns-in_ok-chosen_hops-in-Relay-clause-allowed
returns-in_ok-chosen_hops-in-Relay-clause-allowed c =
    subst (IsAllowed c.args.world.now c.args.set.0) (sym (returns-in_ok-chosen_hops-in-Relay-clause-policy c)) (decoding c.args.world.now c.args.set.0 c.requires.set c.args.x.now c.requires.feasible).allowed

pub returns-in_ok-chosen_hops-in-Relay-clause-cost : goal.returns-in_ok-chosen_hops-in-Relay-clause-cost
returns-in_ok-chosen_hops-in-Relay-clause-cost c =
    subst (λ (q : Policy). policy_cost c.args.world.now c.args.set.0 q ≤ value_of (set_costs c.args.world.now c.args.set.0) c.args.x.now) (sym (returns-in_ok-chosen_hops-in-Relay-clause-policy c)) (decoding c.args.world.now c.args.set.0 c.requires.set c.args.x.now c.requires.feasible).cost

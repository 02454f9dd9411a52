use Rattle.std.proofs.Common.{◌++◌, ◌∙◌, sym, ap, subst}
use Rattle.span_base.specs.DcSet.{centres_of}
use Rattle.workload.specs.World.{centre_count}
use Rattle.slo_rules.specs.Rules.{lies_below}
use Rattle.zero_one.specs.Program.{IsFeasible, value_of}
use Rattle.placement_rows.specs.Providers.{provider_bits}
use Rattle.placement_relay.specs.Programs.{set_program, set_costs}
use Rattle.placement_relay.specs.Placed.{placed, mode_bits}
use Rattle.placement_relay.proofs.EventualSets.{placing, allowed_lies}
use Rattle.placement_relay.proofs.placing.place.Goals as goal

pub push_provider_bits-requires-clause-below : goal.push_provider_bits-requires-clause-below
push_provider_bits-requires-clause-below c =
    let w = c.args.world.now in
    ap (lies_below (centre_count w)) c.replicas.ensures ∙ allowed_lies w c.args.set.0 c.requires.set c.args.policy.now c.requires.allowed

pub returns-clause-bits : goal.returns-clause-bits
unfolding placed
returns-clause-bits c =
    let w = c.args.world.now in
    let bits = mode_bits w c.args.set.0 c.args.policy.now in
    c.from_vec.ensures
    ∙ c.in_ok-push_provider_bits.ensures
    ∙ ap (λ xs. xs ++ provider_bits w c.args.set.0 (centres_of c.replicas.result)) (c.in_ok-push_mode_bits.ensures ∙ ap (λ xs. xs ++ bits) c.in_ok-bits.ensures.items)
    ∙ ap (λ rs. bits ++ provider_bits w c.args.set.0 (centres_of rs)) c.replicas.ensures

pub returns-clause-feasible : goal.returns-clause-feasible
returns-clause-feasible c =
    subst (IsFeasible (set_program c.args.world.now c.args.set.0)) (sym (returns-clause-bits c)) (placing c.args.world.now c.args.set.0 c.requires.set c.args.policy.now c.requires.allowed).feasible

pub returns-clause-value : goal.returns-clause-value
returns-clause-value c =
    ap (value_of (set_costs c.args.world.now c.args.set.0)) (returns-clause-bits c) ∙ (placing c.args.world.now c.args.set.0 c.requires.set c.args.policy.now c.requires.allowed).value

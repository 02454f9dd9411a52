use Rattle.std.proofs.Common.{◌≡◌, ◌*◌, length, sym, ap, ◌∙◌, arith}
use Rattle.workload.specs.World.{centre_count, rule_of}
use Rattle.workload.specs.declared.rules.SetRule.{SetRule}
use Rattle.workload.specs.declared.rules.Mode.TheVariants as mode
use Rattle.placement_relay.proofs.Members.{direct-count, relay-count}
use Rattle.placement_relay.proofs.variables.first_provider.Goals as goal

pub returns-in-Direct-clause-variable : goal.returns-in-Direct-clause-variable
returns-in-Direct-clause-variable c =
    let w = c.args.world.now in
    let is : (rule_of w c.args.set.0).mode ≡ mode.Direct = sym (ap (λ (r : SetRule). r.mode) c.rule.ensures.rule) ∙ c.in-Direct.is in
    omega (arith, c.first_read.ensures.variable, direct-count w c.args.set.0 is, ap (λ ms. length ms * centre_count w) c.members-members.ensures.members)

pub returns-in-Relay-clause-variable : goal.returns-in-Relay-clause-variable
returns-in-Relay-clause-variable c =
    let w = c.args.world.now in
    let is : (rule_of w c.args.set.0).mode ≡ mode.Relay = sym (ap (λ (r : SetRule). r.mode) c.rule.ensures.rule) ∙ c.in-Relay.is in
    omega (arith, c.first_hop.ensures.variable, relay-count w c.args.set.0 is, ap (λ ms. length ms * centre_count w * centre_count w) c.members-members.ensures.members)

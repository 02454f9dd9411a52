use Rattle.std.proofs.Common.{arith}
use Rattle.placement_relay.proofs.Limits.{set_variables_at_most}
use Rattle.placement_relay.proofs.variables.most_variables.Goals as goal

pub returns : goal.returns
returns c = omega (arith, set_variables_at_most c.args.world.now c.args.set.0 c.requires)

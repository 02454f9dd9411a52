use Rattle.std.proofs.Common.{arith}
use Rattle.placement_relay.proofs.Members.{relay-variables}
use Rattle.placement_relay.proofs.decoding.push_chosen_hops.Goals as goal

pub bounds-x-from : goal.bounds-x-from
bounds-x-from c = omega (arith, c.requires.bits, relay-variables c.args.world.now c.args.set.0)

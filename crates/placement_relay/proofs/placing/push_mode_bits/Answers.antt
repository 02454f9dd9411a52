use Rattle.std.proofs.Common.{sym, subst}
use Rattle.std.specs.List.{All}
use Rattle.placement_relay.specs.HopPlaces.{IsHopOf}
use Rattle.placement_relay.proofs.AllowedHops.{allowed-hops}
use Rattle.placement_relay.proofs.placing.push_mode_bits.Goals as goal

pub push_hops-requires-clause-hops : goal.push_hops-requires-clause-hops
push_hops-requires-clause-hops c =
    let w = c.args.world.now in
    let set = c.args.set.0 in
    subst (All (IsHopOf w set)) (sym c.as_slice-in-Relay-2.ensures)
    (allowed-hops w set c.requires.set c.args.policy.now c.requires.allowed c.in-Relay.f c.in-Relay.replicas c.in-Relay.primary c.in-Relay.parent c.in-Relay.is)

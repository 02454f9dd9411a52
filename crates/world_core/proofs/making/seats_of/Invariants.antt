use Rattle.std.proofs.Common.{◌≡◌, ◌++◌, false, map}
use Rattle.world_core.proofs.making.seats_of.Given as goal

abbrev pub invariant-loop-taker : goal.invariant-loop-taker
invariant-loop-taker g l = (l.seats.items ≡ map (λ t. record { stopped = false; taker = t }) l.yielded) × (l.yielded ++ l.taker-iterator.rest.items ≡ l.fn.replicas.items)

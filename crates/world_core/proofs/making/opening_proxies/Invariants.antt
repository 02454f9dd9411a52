use Rattle.std.proofs.Common.{◌≡◌, map, take}
use Rattle.world_core.specs.State.{opening_proxy}
use Rattle.world_core.proofs.making.opening_proxies.Given as goal

abbrev pub invariant-loop-at : goal.invariant-loop-at
invariant-loop-at l = (l.proxies.items ≡ map (opening_proxy l.header) (take l.at-index l.centres)) × (l.centres ≡ l.header.proxies)

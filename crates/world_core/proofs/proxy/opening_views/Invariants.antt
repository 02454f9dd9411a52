use Rattle.std.proofs.Common.{◌≡◌, map}
use Rattle.std.specs.List.{range_with_len}
use Rattle.world_core.specs.State.{opening_view}
use Rattle.world_core.proofs.proxy.opening_views.Given as goal

abbrev pub invariant-loop-key : goal.invariant-loop-key
invariant-loop-key l = l.views.items ≡ map (opening_view l.sets l.keys) (range_with_len 0 l.key)

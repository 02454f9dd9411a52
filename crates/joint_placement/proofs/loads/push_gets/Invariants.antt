use Rattle.std.proofs.Common.{◌≡◌, ◌+◌, ◌++◌, map, take}
use Rattle.placement_rows.specs.Centres.{numbered_members}
use Rattle.placement_relay.specs.Reading.{h}
use Rattle.joint_placement.specs.Loads.{units}
use Rattle.joint_placement.proofs.loads.push_gets.Given as goal

abbrev pub invariant-loop-a : goal.invariant-loop-a
invariant-loop-a l = l.loads.items ≡ l.initial.loads.items ++ map (λ am. (l.first + h l.world am.0 l.dc.0, units l.unit am.1.gets)) (take l.a (numbered_members l.world l.fn.set.0))

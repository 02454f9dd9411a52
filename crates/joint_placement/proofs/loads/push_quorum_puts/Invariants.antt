use Rattle.std.proofs.Common.{◌≡◌, ◌+◌, ◌*◌, ◌++◌, map, take}
use Rattle.placement_rows.specs.Centres.{numbered_members}
use Rattle.placement_strong.specs.Variables.{w_var}
use Rattle.joint_placement.specs.Loads.{units}
use Rattle.joint_placement.proofs.loads.push_quorum_puts.Given as goal

abbrev pub invariant-loop-a : goal.invariant-loop-a
invariant-loop-a l = l.loads.items ≡ l.initial.loads.items ++ map (λ am. (l.first + w_var l.world l.set.0 am.0 l.dc.0, 2 * units l.unit am.1.puts)) (take l.a (numbered_members l.world l.set.0))

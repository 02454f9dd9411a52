use Rattle.std.proofs.Common.{◌≡◌, ◌*◌, ◌^◌, ◌≤◌, take, sum_by}
use Rattle.joint_placement.proofs.capacity.sum_of.Given as goal

abbrev pub invariant-loop-load : goal.invariant-loop-load
invariant-loop-load l = (l.sum ≡ sum_by (λ load. load.1) (take l.load-index l.loads)) × (l.sum ≤ l.load-index * 2 ^ 34)

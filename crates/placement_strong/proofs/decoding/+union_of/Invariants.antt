use Rattle.std.proofs.Common.{length}
use Rattle.placement_strong.proofs.decoding.+union_of.Given as goal

abbrev pub decreases-union_of : goal.decreases-union_of
decreases-union_of l = length l.quorums.now

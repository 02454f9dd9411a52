use Rattle.std.proofs.Common.{map}
use Rattle.span_base.proofs.Distinct.{DistinctSoFar}
use Rattle.span_base.proofs.members.are_distinct.Given as goal

abbrev pub invariant-loop-member : goal.invariant-loop-member
invariant-loop-member g l = DistinctSoFar (map g.M.Member.centre l.members) l.member-index l.seen

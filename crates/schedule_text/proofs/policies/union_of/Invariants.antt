use Rattle.std.proofs.Common.{◌≡◌, drop}
use Rattle.std.specs.Prelude.{fold}
use Rattle.span_base.specs.DcSet.{no_centre}
use Rattle.schedule_text.specs.Policies.{asked}
use Rattle.schedule_text.proofs.policies.union_of.Given as goal

abbrev pub invariant-loop-quorum : goal.invariant-loop-quorum
invariant-loop-quorum l = fold asked l.set (drop l.quorum-index l.quorums) ≡ fold asked no_centre l.quorums

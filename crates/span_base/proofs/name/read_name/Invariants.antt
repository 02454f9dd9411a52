use Rattle.span_base.proofs.Spelling.{NameSoFar}
use Rattle.span_base.proofs.name.read_name.Given as goal

abbrev pub invariant-loop-at : goal.invariant-loop-at
invariant-loop-at l = NameSoFar l.text l.at

use Rattle.span_base.proofs.Spelling.{DigitsSoFar}
use Rattle.span_base.proofs.number.read_digits.Given as goal

abbrev pub invariant-loop-at : goal.invariant-loop-at
invariant-loop-at l = DigitsSoFar l.text l.at l.number

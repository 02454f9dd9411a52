use Rattle.bound_cert.proofs.Longest.{DigitsBelow}
use Rattle.bound_cert.proofs.read.digits_len.Given as goal

abbrev pub invariant-loop-at : goal.invariant-loop-at
invariant-loop-at l = DigitsBelow l.text l.at

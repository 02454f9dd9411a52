use Rattle.std.proofs.Common.{◌≤◌}
use Rattle.span_base.proofs.Spelling.{DigitsSoFar}
use Rattle.schedule_text.proofs.delivery_line.short_digits.Given as goal

abbrev pub invariant-loop-at : goal.invariant-loop-at
invariant-loop-at l = record {
  so_far : DigitsSoFar l.text l.at l.number;
  short : l.at ≤ 9;
}

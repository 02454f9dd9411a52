use Rattle.std.proofs.Common.{rules, inl, inr, arith, sym}
use Rattle.span_base.proofs.Spelling.{number_breaks, DigitsSoFar-more, DigitsSoFar-small}
use Rattle.span_base.proofs.number.read_digits.Goals.{then-at-eq-NUMBER_DIGITS-via-then-at-eq-NUMBER_DIGITS, then-at-eq-NUMBER_DIGITS-via-else-at-eq-NUMBER_DIGITS+then-not-is_ascii_digit}
use Rattle.span_base.proofs.number.read_digits.Goals as goal

pub returns-then-at-eq-NUMBER_DIGITS : goal.returns-then-at-eq-NUMBER_DIGITS
returns-then-at-eq-NUMBER_DIGITS c =
    number_breaks c.args.text.now c.loop-at.at (search rules) c.requires.no_zero c.loop-at.invariant.few c.loop-at.invariant.digits
    (elim c.then-at-eq-NUMBER_DIGITS.branch [
      | then-at-eq-NUMBER_DIGITS-via-then-at-eq-NUMBER_DIGITS w ↦ inr (search rules)
      | then-at-eq-NUMBER_DIGITS-via-else-at-eq-NUMBER_DIGITS+then-not-is_ascii_digit w ↦ inl (search rules)
    ])

pub overflow_mul-number : goal.overflow_mul-number
overflow_mul-number c =
    omega (arith, DigitsSoFar-small c.args.text.now c.loop-at.at c.loop-at.number c.loop-at.invariant c.if-at-eq-NUMBER_DIGITS.false)

pub overflow_add-number : goal.overflow_add-number
overflow_add-number c =
    omega (arith, DigitsSoFar-small c.args.text.now c.loop-at.at c.loop-at.number c.loop-at.invariant c.if-at-eq-NUMBER_DIGITS.false, c.if-not-is_ascii_digit.ensures.cases, c.from.ensures)

pub loop-at-preserved : goal.loop-at-preserved
loop-at-preserved c =
    rw c.from.ensures
    (DigitsSoFar-more c.args.text.now c.loop-at.at c.loop-at.number c.loop-at.invariant c.loop-at-test.true c.if-at-eq-NUMBER_DIGITS.false
    (sym c.if-not-is_ascii_digit.ensures.value) c.if-not-is_ascii_digit.ensures.cases.0 c.if-not-is_ascii_digit.ensures.cases.1)

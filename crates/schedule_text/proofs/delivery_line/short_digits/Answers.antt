use Rattle.std.proofs.Common.{arith, sym}
use Rattle.span_base.proofs.Spelling.{DigitsSoFar-more}
use Rattle.schedule_text.proofs.Deliveries.{number_there, nine_small}
use Rattle.schedule_text.proofs.delivery_line.short_digits.Goals as goal

pub returns-then-byte-eq10 : goal.returns-then-byte-eq10
returns-then-byte-eq10 c =
    number_there c.args.text.now c.loop-at.at c.loop-at.number c.loop-at.invariant.so_far c.if-at-gt0.true c.loop-at.invariant.short c.loop-at-test.true c.requires.no_zero c.if-byte-eq10.true

pub overflow_mul-number : goal.overflow_mul-number
overflow_mul-number c =
    omega (arith, nine_small c.args.text.now c.loop-at.at c.loop-at.number c.loop-at.invariant.so_far c.loop-at.invariant.short c.if-at-eq-DIGITS.false)

pub overflow_add-number : goal.overflow_add-number
overflow_add-number c =
    omega (arith, nine_small c.args.text.now c.loop-at.at c.loop-at.number c.loop-at.invariant.so_far c.loop-at.invariant.short c.if-at-eq-DIGITS.false, c.if-not-is_ascii_digit.ensures.cases, c.from.ensures)

pub loop-at-preserved : goal.loop-at-preserved
loop-at-preserved c =
    let short = c.loop-at.invariant.short in
    let last = c.if-at-eq-DIGITS.false in
    record {
      so_far = rw c.from.ensures
          (DigitsSoFar-more c.args.text.now c.loop-at.at c.loop-at.number c.loop-at.invariant.so_far c.loop-at-test.true (λ e. absurd (omega (arith, short, e)))
          (sym c.if-not-is_ascii_digit.ensures.value) c.if-not-is_ascii_digit.ensures.cases.0 c.if-not-is_ascii_digit.ensures.cases.1);
      short = omega (arith, short, last);
    }

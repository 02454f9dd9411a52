use Rattle.std.proofs.Common.{◌≡◌, ◌∙◌, sym, subst, inl, inr, length, rules, arith}
use Rattle.bound_cert.specs.Reading.{IsLongestNumber}
use Rattle.bound_cert.proofs.Longest.{longest_at, digits_more}
use Rattle.bound_cert.proofs.read.digits_len.Goals.{then-at-eq-NUMBER_DIGITS-via-then-at-eq-NUMBER_DIGITS, then-at-eq-NUMBER_DIGITS-via-else-at-eq-NUMBER_DIGITS+then-not-is_ascii_digit}
use Rattle.bound_cert.proofs.read.digits_len.Goals as goal

pub returns : goal.returns
returns c =
    let text = c.args.text.now in
    let end : c.loop-at.at ≡ length text = omega arith in
    subst (IsLongestNumber text) end (longest_at text c.loop-at.at c.requires (omega arith) c.loop-at.invariant (λ h. absurd (omega arith)))

pub returns-then-at-eq-NUMBER_DIGITS : goal.returns-then-at-eq-NUMBER_DIGITS
returns-then-at-eq-NUMBER_DIGITS c =
    longest_at c.args.text.now c.loop-at.at c.requires (omega arith) c.loop-at.invariant
    (λ h. elim c.then-at-eq-NUMBER_DIGITS.branch [
      | then-at-eq-NUMBER_DIGITS-via-then-at-eq-NUMBER_DIGITS w ↦ inr (search rules)
      | then-at-eq-NUMBER_DIGITS-via-else-at-eq-NUMBER_DIGITS+then-not-is_ascii_digit w ↦ inl (search rules)
    ])

pub loop-at-preserved : goal.loop-at-preserved
loop-at-preserved c =
    digits_more c.args.text.now c.loop-at.at c.loop-at.invariant c.loop-at-test.true c.if-at-eq-NUMBER_DIGITS.false
    (sym c.is_ascii_digit.ensures.value ∙ c.if-not-is_ascii_digit.false)

use Rattle.std.proofs.Common.{ℕ, ◌+◌, ap, inr}
use Rattle.span_base.specs.declared.words.Cause.TheVariants.{End}
use Rattle.plan_check.specs.declared.fault.CheckFault.TheVariants.{Bad}
use Rattle.plan_check.proofs.Counting.{line_byte, cut_byte, long_byte, past_byte}
use Rattle.plan_check.proofs.lines.PlanLines.end.Goals as goal

pub returns-in-Ok-Line-clause-ends : goal.returns-in-Ok-Line-clause-ends
returns-in-Ok-Line-clause-ends g c = (λ text read.
    let next = rw c.in-Ok-Line.field-0-is at (c.in-Ok-Line.ensures.gives text read.given) in
    inr (ap (λ (n : ℕ). Bad (n + 1) End) read.number, line_byte _ _ text c.next.new.self next))

pub returns-in-Ok-Cut-clause-ends : goal.returns-in-Ok-Cut-clause-ends
returns-in-Ok-Cut-clause-ends g c = (λ text read.
    let next = rw c.in-Ok-Cut.field-0-is at (c.in-Ok-Cut.ensures.gives text read.given) in
    inr (ap (λ (n : ℕ). Bad (n + 1) End) read.number, cut_byte _ _ text c.next.new.self next))

pub returns-in-Err-LineTooLong-clause-ends : goal.returns-in-Err-LineTooLong-clause-ends
returns-in-Err-LineTooLong-clause-ends g c = (λ text read.
    let next = rw c.in-Err-LineTooLong.field-0-is at (c.in-Err-LineTooLong.ensures.gives text read.given) in
    inr (ap (λ (n : ℕ). Bad (n + 1) End) read.number, long_byte _ _ text _ _ next))

pub returns-in-Err-FileTooLarge-clause-ends : goal.returns-in-Err-FileTooLarge-clause-ends
returns-in-Err-FileTooLarge-clause-ends g c = (λ text read.
    let next = rw c.in-Err-FileTooLarge.field-0-is at (c.in-Err-FileTooLarge.ensures.gives text read.given) in
    inr (ap (λ (n : ℕ). Bad (n + 1) End) read.number, past_byte _ _ text _ _ next))

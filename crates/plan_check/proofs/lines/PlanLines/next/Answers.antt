use Rattle.std.proofs.Common.{◌≡◌, ℕ, ◌+◌, ap, sym, ◌∙◌, refl, subst, arith}
use Rattle.shelf_lines.specs.Lines.{IsLongLine, IsPastLimit}
use Rattle.plan_check.proofs.Counting.{line_count-fed}
use Rattle.plan_check.proofs.lines.PlanLines.next.Goals as goal

pub returns-in-Ok-Line-clause-reads : goal.returns-in-Ok-Line-clause-reads
returns-in-Ok-Line-clause-reads g c = (λ text read.
    let next = rw c.in-Ok-Line.field-0-is at (c.in-Ok-Line.ensures.gives text read.given) in
    record {
      line = next.line;
      read = record {
        given = next.passed;
        number = ap (λ (n : ℕ). n + 1) read.number ∙ sym (line_count-fed text c.next.new.self.line next.line);
      };
    })

pub returns-in-Ok-Cut-clause-reads : goal.returns-in-Ok-Cut-clause-reads
returns-in-Ok-Cut-clause-reads g c = (λ text read.
    let next = rw c.in-Ok-Cut.field-0-is at (c.in-Ok-Cut.ensures.gives text read.given) in
    (ap (λ (n : ℕ). n + 1) read.number, (c.next.new.self.line, next.line, next.whole)))

pub returns-in-Err-LineTooLong-clause-reads : goal.returns-in-Err-LineTooLong-clause-reads
returns-in-Err-LineTooLong-clause-reads g c = (λ text read.
    let next = rw c.in-Err-LineTooLong.field-0-is at (c.in-Err-LineTooLong.ensures.gives text read.given) in
    let line_limit : c.next.new.self.line_limit ≡ 1048576 = omega (arith, c.next.ensures.line_limit) in
    let file_limit : c.next.new.self.file_limit ≡ 4294967295 = omega (arith, c.next.ensures.file_limit) in (
      subst (λ (n : ℕ). IsLongLine (g.S.Shelf.files c.args.shelf.now) c.args.name.now text n 4294967295) line_limit
          (subst (λ (n : ℕ). IsLongLine (g.S.Shelf.files c.args.shelf.now) c.args.name.now text c.next.new.self.line_limit n) file_limit next),
      ap (λ (n : ℕ). n + 1) read.number,
      refl,
    ))

pub returns-in-Err-FileTooLarge-clause-reads : goal.returns-in-Err-FileTooLarge-clause-reads
returns-in-Err-FileTooLarge-clause-reads g c = (λ text read.
    let next = rw c.in-Err-FileTooLarge.field-0-is at (c.in-Err-FileTooLarge.ensures.gives text read.given) in
    let line_limit : c.next.new.self.line_limit ≡ 1048576 = omega (arith, c.next.ensures.line_limit) in
    let file_limit : c.next.new.self.file_limit ≡ 4294967295 = omega (arith, c.next.ensures.file_limit) in (
      subst (λ (n : ℕ). IsPastLimit (g.S.Shelf.files c.args.shelf.now) c.args.name.now text n 4294967295) line_limit
          (subst (λ (n : ℕ). IsPastLimit (g.S.Shelf.files c.args.shelf.now) c.args.name.now text c.next.new.self.line_limit n) file_limit next),
      refl,
      refl,
    ))

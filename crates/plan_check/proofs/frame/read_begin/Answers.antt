use Rattle.std.proofs.Common.{◌≡◌, ℕ, [], sym, ap, ◌∙◌, inl, inr, codes}
use Rattle.std.proofs.lemmas.Result.{err_from_is_err_and}
use Rattle.span_base.specs.declared.words.Cause.TheVariants.{Syntax}
use Rattle.shelf_lines.specs.Lines.{fed}
use Rattle.plan_check.specs.declared.fault.CheckFault.TheVariants.{Bad}
use Rattle.plan_check.specs.Reading.{IsLineRead}
use Rattle.plan_check.proofs.Counting.{line_count-fed}
use Rattle.plan_check.proofs.Stops.{line_there, read_as}
use Rattle.plan_check.proofs.frame.read_begin.Goals as goal

pub returns-in_err-next-clause-reads : goal.returns-in_err-next-clause-reads
returns-in_err-next-clause-reads g c = (λ read.
    let p = err_from_is_err_and c.from_residual.result c.from_residual.ensures.1 in
    rw (p.1, p.2) (inl (c.in_err-next.ensures.reads [] read)))

pub returns-then-is_fed-clause-reads : goal.returns-then-is_fed-clause-reads
returns-then-is_fed-clause-reads g c = (λ read.
    let files = g.S.Shelf.files c.args.shelf.now in
    let reader = c.next.new.self in
    let line = reader.lines.line in
    let here : IsLineRead files c.args.name.now [] reader = c.in_ok-next.ensures.reads [] read in
    let said : fed line ≡ codes "span-plan 1\n" = sym (ap fed c.line.ensures) ∙ c.is_fed.ensures.0 c.if-is_fed.true in
    read_as files c.args.name.now (fed line) (codes "span-plan 1\n") reader said here.read)

pub returns-clause-reads : goal.returns-clause-reads
returns-clause-reads g c = (λ read.
    let files = g.S.Shelf.files c.args.shelf.now in
    let reader = c.next.new.self in
    let line = reader.lines.line in
    let here : IsLineRead files c.args.name.now [] reader = c.in_ok-next.ensures.reads [] read in
    let number : reader.number ≡ 1 = here.read.number ∙ line_count-fed [] line here.line in
    inr (
      line,
      here.line,
      line_there files c.args.name.now [] reader here,
      (
        ap (λ (n : ℕ). Bad n Syntax) number,
        (λ is. let same = c.is_fed.ensures.1 (ap fed c.line.ensures ∙ ap fed is) in absurd (cc (same, c.if-is_fed.false))),
      ),
    ))

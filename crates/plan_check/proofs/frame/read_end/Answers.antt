use Rattle.std.proofs.Common.{◌≡◌, ℕ, ◌+◌, List, ◌++◌, sym, ap, ◌∙◌, subst, inl, inr, codes}
use Rattle.std.proofs.lemmas.Result.{err_from_is_err_and}
use Rattle.shelf_lines.specs.Lines.{fed}
use Rattle.plan_check.specs.Reading.{IsLineRead, line_count}
use Rattle.plan_check.specs.Checks.{RefusesSet}
use Rattle.plan_check.proofs.Counting.{line_count-fed}
use Rattle.plan_check.proofs.Stops.{line_there, read_as}
use Rattle.plan_check.proofs.Lasts.{read_last}
use Rattle.plan_check.proofs.frame.read_end.Goals as goal

pub returns-in_err-next-clause-reads : goal.returns-in_err-next-clause-reads
returns-in_err-next-clause-reads g c = (λ text read.
    let p = err_from_is_err_and c.from_residual.result c.from_residual.ensures.1 in
    rw (p.1, p.2) (inl (inl (c.in_err-next.ensures.reads text read))))

pub returns-then-is_fed-clause-reads : goal.returns-then-is_fed-clause-reads
returns-then-is_fed-clause-reads g c = (λ text read.
    let files = g.S.Shelf.files c.args.shelf.now in
    let name = c.args.name.now in
    let reader = c.next.new.self in
    let line = reader.lines.line in
    let here : IsLineRead files name text reader = c.in_ok-next.ensures.reads text read in
    let said : fed line ≡ codes "end\n" = sym (ap fed c.line.ensures) ∙ c.is_fed.ensures.0 c.if-is_fed.true in
    let last = read_as files name (text ++ fed line) (text ++ codes "end\n") reader (ap (λ (t : List ℕ). text ++ t) said) here.read in
    read_last files (g.S.Shelf.files c.next.new.shelf) name text reader c.end.result c.in_ok-next.ensures.files_stay c.end.ensures.ends last reader.small)

pub returns-clause-reads : goal.returns-clause-reads
returns-clause-reads g c = (λ text read.
    let files = g.S.Shelf.files c.args.shelf.now in
    let name = c.args.name.now in
    let reader = c.next.new.self in
    let line = reader.lines.line in
    let fault = c.refuse_set.result in
    let here : IsLineRead files name text reader = c.in_ok-next.ensures.reads text read in
    let number : reader.number ≡ line_count text + 1 = here.read.number ∙ line_count-fed text line here.line in
    let refused : RefusesSet line (line_count text + 1) fault =
    subst (λ (n : ℕ). RefusesSet line n fault) number (subst (λ (t : List ℕ). RefusesSet t reader.number fault) c.line-2.ensures c.refuse_set.ensures) in
    inl (inr (
      line,
      here.line,
      line_there files name text reader here,
      record {
        other = (λ is. let same = c.is_fed.ensures.1 (ap fed c.line.ensures ∙ ap fed is) in absurd (cc (same, c.if-is_fed.false)));
        refused = refused;
      },
    )))

use Rattle.std.proofs.Common.{◌≡◌, ℕ, ◌+◌, List, ◌++◌, length, sym, ap, ◌∙◌, subst, inl, inr, ◌<◌, ◌^◌}
use Rattle.std.proofs.lemmas.Result.{err_from_is_err_and}
use Rattle.shelf_lines.specs.Lines.{fed}
use Rattle.plan_text.specs.PlanText.{set_line}
use Rattle.plan_check.specs.Reading.{IsLineRead, line_count}
use Rattle.plan_check.specs.Places.{parts_read, set_read}
use Rattle.plan_check.specs.Checks.{RefusesSet, due_at}
use Rattle.plan_check.proofs.Counting.{line_count-fed}
use Rattle.plan_check.proofs.Stops.{line_there, read_as}
use Rattle.plan_check.proofs.part.read_set.Goals as goal

pub returns-in_err-next-clause-reads : goal.returns-in_err-next-clause-reads
returns-in_err-next-clause-reads g c = (λ parts set_is variables_is first.
    let p = err_from_is_err_and c.from_residual-in_err-next.result c.from_residual-in_err-next.ensures.1 in
    rw (p.1, p.2) (inl (c.in_err-next.ensures.reads (parts_read c.args.world.now parts) first)))

pub returns-then-is_fed-clause-reads : goal.returns-then-is_fed-clause-reads
returns-then-is_fed-clause-reads g c = (λ parts set_is variables_is first.
    let w = c.args.world.now in
    let files = g.S.Shelf.files c.args.shelf.now in
    let text = parts_read w parts in
    let reader = c.next.new.self in
    let line = reader.lines.line in
    let here : IsLineRead files c.args.name.now text reader = c.in_ok-next.ensures.reads text first in
    let due_is : c.as_bytes.result.now ≡ due_at w parts =
    c.as_bytes.ensures.value ∙ c.in_ok-push_set.ensures ∙ ap (λ (t : List ℕ). t ++ set_line w c.args.set.0 c.args.variables) c.new-due.ensures.bytes
    ∙ ap (λ (n : ℕ). set_line w n c.args.variables) set_is ∙ ap (λ (n : ℕ). set_line w (length parts) n) variables_is in
    let said : fed line ≡ due_at w parts = sym (ap fed c.line.ensures) ∙ c.is_fed.ensures.0 c.if-is_fed.true ∙ due_is in
    read_as files c.args.name.now (text ++ fed line) (set_read w parts) reader (ap (λ (t : List ℕ). text ++ t) said) here.read)

pub returns-clause-reads : goal.returns-clause-reads
returns-clause-reads g c = (λ parts set_is variables_is first.
    let w = c.args.world.now in
    let files = g.S.Shelf.files c.args.shelf.now in
    let name = c.args.name.now in
    let text = parts_read w parts in
    let reader = c.next.new.self in
    let line = reader.lines.line in
    let fault = c.refuse_set.result in
    let here : IsLineRead files name text reader = c.in_ok-next.ensures.reads text first in
    let due_is : c.as_bytes.result.now ≡ due_at w parts =
    c.as_bytes.ensures.value ∙ c.in_ok-push_set.ensures ∙ ap (λ (t : List ℕ). t ++ set_line w c.args.set.0 c.args.variables) c.new-due.ensures.bytes
    ∙ ap (λ (n : ℕ). set_line w n c.args.variables) set_is ∙ ap (λ (n : ℕ). set_line w (length parts) n) variables_is in
    let number : reader.number ≡ line_count text + 1 = here.read.number ∙ line_count-fed text line here.line in
    let refused : RefusesSet line (line_count text + 1) fault =
    subst (λ (n : ℕ). RefusesSet line n fault) number (subst (λ (t : List ℕ). RefusesSet t reader.number fault) c.line-2.ensures c.refuse_set.ensures) in
    inr (
      line,
      here.line,
      line_there files name text reader here,
      record {
        few = subst (λ (n : ℕ). n < 2 ^ 64) variables_is c.ranges.variables.fits;
        other = (λ is. let same = c.is_fed.ensures.1 (ap fed c.line.ensures ∙ is ∙ sym due_is) in absurd (cc (same, c.if-is_fed.false)));
        refused = refused;
      },
    ))

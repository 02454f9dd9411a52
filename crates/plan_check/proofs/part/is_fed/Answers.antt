use Rattle.std.proofs.Common.{◌≡◌, [], ◌∷◌, ◌++◌, sym, ap, ◌∙◌}
use Rattle.std.specs.Prelude.{Some, None}
use Rattle.std.proofs.lemmas.Slice.Eq.{strip_suffix_is, slice_eq-Decides}
use Rattle.std.proofs.lemmas.Bool.Decides.{Decides-eqb}
use Rattle.shelf_lines.specs.Lines.{fed}
use Rattle.plan_check.proofs.Forms.{same_front}
use Rattle.plan_check.proofs.part.is_fed.Goals as goal

pub returns-in-Some : goal.returns-in-Some
returns-in-Some c =
    let front = c.in-Some.front.now in
    let line = c.args.line.now in
    let text_is : c.args.text.now ≡ front ++ 10 ∷ [] = strip_suffix_is Decides-eqb c.args.text.now (10 ∷ []) (Some c.in-Some.front) c.in-Some.ensures.cases in
    let same = slice_eq-Decides Decides-eqb front line c.eq.result c.eq.ensures in (
      (λ is. ap fed (sym (same.0 is)) ∙ sym text_is),
      (λ is. same.1 (same_front front line 10 10 (sym text_is ∙ sym is))),
    )

pub returns-in-None : goal.returns-in-None
returns-in-None c = (
  (λ none. absurd (cc)),
  (λ is. absurd (strip_suffix_is Decides-eqb c.args.text.now (10 ∷ []) None c.in-None.ensures.cases c.args.line.now (sym is))),
)

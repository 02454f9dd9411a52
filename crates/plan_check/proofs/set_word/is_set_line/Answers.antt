use Rattle.std.proofs.Common.{sym, subst, ◌≡◌}
use Rattle.span_base.specs.Name.{IsName}
use Rattle.span_base.specs.Number.{IsNumber}
use Rattle.plan_check.specs.Words.{IsModeWord, IsPairOf}
use Rattle.plan_check.proofs.set_word.is_set_line.Goals as goal

pub returns-in-Some : goal.returns-in-Some
returns-in-Some c = (
  (λ h. (c.in-Some.rest.now, c.in-Some.ensures, c.is_described.ensures.0 h)),
  (λ form. let same : c.in-Some.rest.now ≡ form.0 = cc (c.in-Some.ensures, form.1) in c.is_described.ensures.1 (subst (IsPairOf IsName (IsPairOf IsModeWord IsNumber)) (sym same) form.2)),
)

pub returns-in-None : goal.returns-in-None
returns-in-None c = ((λ none. absurd (cc)), (λ form. absurd (c.in-None.ensures form.0 form.1)))

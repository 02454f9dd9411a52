use Rattle.span_base.specs.Number.{IsNumber}
use Rattle.plan_check.specs.Words.{IsFoundForm}
use Rattle.plan_check.proofs.Forms.{pair_form, pair_nowhere, pair_tests, number_spaceless}
use Rattle.plan_check.proofs.word.is_cut.Goals as goal

pub returns-then-is_number : goal.returns-then-is_number
returns-then-is_number c =
    let both = pair_tests IsNumber IsFoundForm c.is_number.result c.is_found.result c.args.text.now c.in-Some.at number_spaceless c.in-Some.ensures c.is_number.ensures c.is_found.ensures in
    ((λ yes_is. both.0 c.if-is_number.true yes_is), (λ form. (both.1 form).1))

pub returns-else-is_number : goal.returns-else-is_number
returns-else-is_number c =
    ((λ none. absurd (cc)), (λ form. let one = c.is_number.ensures.1 (pair_form IsNumber IsFoundForm c.args.text.now c.in-Some.at number_spaceless c.in-Some.ensures form).0 in absurd (cc (one, c.if-is_number.false))))

pub returns-in-None : goal.returns-in-None
returns-in-None c = ((λ none. absurd (cc)), (λ form. absurd (pair_nowhere IsNumber IsFoundForm c.args.text.now c.in-None.ensures form)))

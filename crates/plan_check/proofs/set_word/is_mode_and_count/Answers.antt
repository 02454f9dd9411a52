use Rattle.span_base.specs.Number.{IsNumber}
use Rattle.plan_check.specs.Words.{IsModeWord}
use Rattle.plan_check.proofs.Forms.{pair_form, pair_nowhere, pair_tests, mode_spaceless}
use Rattle.plan_check.proofs.set_word.is_mode_and_count.Goals as goal

pub returns-then-is_mode : goal.returns-then-is_mode
returns-then-is_mode c =
    let both = pair_tests IsModeWord IsNumber c.is_mode.result c.is_number.result c.args.text.now c.in-Some.at mode_spaceless c.in-Some.ensures c.is_mode.ensures c.is_number.ensures in
    ((λ yes_is. both.0 c.if-is_mode.true yes_is), (λ form. (both.1 form).1))

pub returns-else-is_mode : goal.returns-else-is_mode
returns-else-is_mode c =
    ((λ none. absurd (cc)), (λ form. let one = c.is_mode.ensures.1 (pair_form IsModeWord IsNumber c.args.text.now c.in-Some.at mode_spaceless c.in-Some.ensures form).0 in absurd (cc (one, c.if-is_mode.false))))

pub returns-in-None : goal.returns-in-None
returns-in-None c = ((λ none. absurd (cc)), (λ form. absurd (pair_nowhere IsModeWord IsNumber c.args.text.now c.in-None.ensures form)))

use Rattle.span_base.specs.Number.{IsNumber}
use Rattle.span_base.specs.Name.{IsName}
use Rattle.plan_check.proofs.Forms.{pair_form, pair_nowhere, pair_tests, name_spaceless}
use Rattle.joint_plan.proofs.forms.is_name_and_number.Goals as goal

pub returns-then-is_name : goal.returns-then-is_name
returns-then-is_name c =
    let both = pair_tests IsName IsNumber c.is_name.result c.is_number.result c.args.text.now c.in-Some.at name_spaceless c.in-Some.ensures c.is_name.ensures c.is_number.ensures in
    ((λ yes_is. both.0 c.if-is_name.true yes_is), (λ form. (both.1 form).1))

pub returns-else-is_name : goal.returns-else-is_name
returns-else-is_name c =
    ((λ none. absurd (cc)), (λ form. let one = c.is_name.ensures.1 (pair_form IsName IsNumber c.args.text.now c.in-Some.at name_spaceless c.in-Some.ensures form).0 in absurd (cc (one, c.if-is_name.false))))

pub returns-in-None : goal.returns-in-None
returns-in-None c = ((λ none. absurd (cc)), (λ form. absurd (pair_nowhere IsName IsNumber c.args.text.now c.in-None.ensures form)))

use Rattle.plan_check.proofs.Forms.{budget_says}
use Rattle.plan_check.proofs.word.is_budget.Goals as goal

pub returns-in-Some : goal.returns-in-Some
returns-in-Some c = budget_says c.args.text.now c.in-Some.rest.now c.is_cut.result c.in-Some.ensures c.is_cut.ensures

pub returns-in-None : goal.returns-in-None
returns-in-None c = ((λ none. absurd (cc)), (λ form. absurd (c.in-None.ensures form.0 form.1)))

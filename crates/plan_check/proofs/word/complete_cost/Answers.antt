use Rattle.plan_check.proofs.Forms.{complete_says, complete_not}
use Rattle.plan_check.proofs.word.complete_cost.Goals as goal

pub returns-in-Some : goal.returns-in-Some
returns-in-Some c = complete_says c.args.text.now c.in-Some.digits.now c.number_in.result c.in-Some.ensures c.number_in.ensures

pub returns-in-None : goal.returns-in-None
returns-in-None c = complete_not c.args.text.now c.in-None.ensures

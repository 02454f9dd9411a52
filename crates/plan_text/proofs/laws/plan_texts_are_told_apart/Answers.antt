use Rattle.plan_text.proofs.PlanTexts.{plans_told}
use Rattle.plan_text.proofs.laws.plan_texts_are_told_apart.Goals as goal

pub returns : goal.returns
returns c = plans_told

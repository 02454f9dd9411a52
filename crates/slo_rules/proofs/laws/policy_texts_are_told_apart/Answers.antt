use Rattle.slo_rules.proofs.ToldApart.{told_apart}
use Rattle.slo_rules.proofs.laws.policy_texts_are_told_apart.Goals as goal

pub returns : goal.returns
returns c = told_apart

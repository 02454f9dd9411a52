use Rattle.slo_rules.proofs.FormsTold.{forms_told}
use Rattle.slo_rules.proofs.laws.forms_are_told.Goals as goal

pub returns : goal.returns
returns c = forms_told

use Rattle.span_node.proofs.Whole.{whole_in_order, whole_as_answered}
use Rattle.span_node.proofs.laws.whole_scripts_are_run.Goals as goal

pub returns-clause-faithful : goal.returns-clause-faithful
returns-clause-faithful c = whole_in_order

pub returns-clause-honest : goal.returns-clause-honest
returns-clause-honest c = whole_as_answered

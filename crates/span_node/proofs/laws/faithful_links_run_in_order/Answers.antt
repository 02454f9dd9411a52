use Rattle.span_node.proofs.Ordered.{one_order}
use Rattle.span_node.proofs.laws.faithful_links_run_in_order.Goals as goal

pub returns-clause-one : goal.returns-clause-one
returns-clause-one c = λ header script events others is are. one_order header script events others is are

use Rattle.ticket_rules.proofs.StampOrder.{stamp_cmp_total}
use Rattle.ticket_rules.proofs.order.stamps_are_ordered.Goals as goal

pub returns-clause-total : goal.returns-clause-total
returns-clause-total c = stamp_cmp_total

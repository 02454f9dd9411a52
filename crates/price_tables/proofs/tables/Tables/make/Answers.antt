use Rattle.price_tables.proofs.Keeping.{nothing_kept}
use Rattle.price_tables.proofs.tables.Tables.make.Goals as goal

pub invariant_of-result : goal.invariant_of-result
invariant_of-result c = nothing_kept _ _ c.new.ensures.empty c.in_ok-no_links.ensures

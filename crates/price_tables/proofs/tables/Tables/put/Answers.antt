use Rattle.std.proofs.Common.{rules}
use Rattle.price_tables.proofs.Keeping.{kept_more}
use Rattle.price_tables.proofs.tables.Tables.put.Goals as goal

pub invariant_of-self-2 : goal.invariant_of-self-2
invariant_of-self-2 c =
    rw c.in_ok-insert_new.ensures.ok
    (kept_more c.self.inside.centres.entries c.self.inside.links.items c.in_ok-key.key _ c.self.invariant (search rules) (search rules) (search rules) (search rules) (search rules) c.requires.price)

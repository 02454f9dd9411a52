use Rattle.std.proofs.Common.{◌∙◌}
use Rattle.indexmap.proofs.CallerLemmas.{insert_entry-new}
use Rattle.price_tables.proofs.Names.{new_name}
use Rattle.price_tables.proofs.tables.insert_new.Goals as goal

pub returns-in-Ok-clause-ok : goal.returns-in-Ok-clause-ok
returns-in-Ok-clause-ok c =
    c.in-Ok.ensures.entries
    ∙ insert_entry-new _ c.args.centres.now c.args.name c.args.centre (rw c.requires.name (new_name c.args.centre.name c.args.centres.now.entries c.requires.keys c.requires.new))

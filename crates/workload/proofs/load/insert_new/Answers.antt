use Rattle.workload.proofs.Names.{new_name}
use Rattle.workload.proofs.load.insert_new.Goals as goal

pub insert_name-requires : goal.insert_name-requires
insert_name-requires c =
    rw c.requires.name (new_name c.args.set.name c.args.names.now.keys c.args.sets.now.items c.requires.names c.requires.new)

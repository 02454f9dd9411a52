use Rattle.std.proofs.Common.{rules}
use Rattle.workload.proofs.Names.{names_more}
use Rattle.workload.proofs.Keeping.{loaded_more}
use Rattle.workload.proofs.load.Workload.put.Goals as goal

pub invariant_of-self-2 : goal.invariant_of-self-2
invariant_of-self-2 c =
    rw (c.in_ok-insert_new.ensures.names, c.in_ok-insert_new.ensures.sets, c.new.ensures) (
      names_more c.self.inside.names.keys c.self.inside.sets.items c.in_ok-key.key _ c.self.invariant.0 (search rules),
      loaded_more c.self.inside.sets.items _ c.args.rule c.self.invariant.1 (search rules) (search rules) (search rules) c.requires.rule,
    )

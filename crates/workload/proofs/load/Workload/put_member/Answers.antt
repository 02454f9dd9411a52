use Rattle.std.proofs.Common.{rules}
use Rattle.workload.proofs.Keeping.{loaded_member, names_member}
use Rattle.workload.proofs.load.Workload.put_member.Goals as goal

pub invariant_of-self-2 : goal.invariant_of-self-2
invariant_of-self-2 c =
    rw c.in_ok-push_member.ensures.ok (
      names_member c.self.inside.names.keys c.self.inside.sets.items c.args.set.0 c.args.demand c.self.invariant.0,
      loaded_member c.self.inside.sets.items c.args.set.0 c.args.demand c.self.invariant.1 (search rules) c.requires.counts (search rules) (search rules),
    )

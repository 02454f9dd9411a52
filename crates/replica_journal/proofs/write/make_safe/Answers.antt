use Rattle.std.proofs.Common.{arith}
use Rattle.std.proofs.lemmas.Grind.{common_steps}
use Rattle.replica_journal.proofs.Histories.{safe_last}
use Rattle.replica_journal.proofs.write.make_safe.Goals as goal

pub returns-in-Some : goal.returns-in-Some
returns-in-Some c = safe_last c.args.writes.now.items c.pop.new.self.items c.push.new.self.items c.in-Some.last c.in-Some.ensures.items (grind (arith, common_steps))

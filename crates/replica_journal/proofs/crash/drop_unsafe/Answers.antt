use Rattle.std.proofs.Common.{◌∙◌, arith}
use Rattle.std.proofs.lemmas.Grind.{common_steps}
use Rattle.replica_journal.proofs.Crashes.{safe_kept, loose_lost}
use Rattle.replica_journal.proofs.crash.drop_unsafe.Goals as goal

pub returns-then-last : goal.returns-then-last
returns-then-last c =
    safe_kept c.loop-last.writes.items c.pop.new.self.items c.push.new.self.items c.in-Some.last c.if-last.true c.in-Some.ensures.items (grind (arith, common_steps)) ∙ c.loop-last.invariant

pub loop-last-preserved : goal.loop-last-preserved
loop-last-preserved c = loose_lost c.loop-last.writes.items c.pop.new.self.items c.in-Some.last c.if-last.false c.in-Some.ensures.items ∙ c.loop-last.invariant

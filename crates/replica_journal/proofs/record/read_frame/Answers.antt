use Rattle.std.proofs.lemmas.Bool.{false≢true}
use Rattle.replica_journal.proofs.Reading.{holds_none}
use Rattle.replica_journal.proofs.record.read_frame.Goals as goal

pub returns-else-may_hold : goal.returns-else-may_hold
returns-else-may_hold c =
    holds_none c.args.keys c.args.frame.now c.in-Ok.message c.in-Ok.ensures.0 c.in-Ok.ensures.1 c.in-Ok.ensures.2 (λ holds. false≢true (c.if-may_hold.ensures.1 holds))

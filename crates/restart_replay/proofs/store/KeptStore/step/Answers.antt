use Rattle.std.proofs.Common.{subst}
use Rattle.wire_msg.specs.Lawful.{AreLawful}
use Rattle.restart_replay.proofs.Steadying.{stays_steady, refuses}
use Rattle.restart_replay.proofs.store.KeptStore.step.Goals as goal

pub returns-in-Ok-clause-steady : goal.returns-in-Ok-clause-steady
returns-in-Ok-clause-steady c =
    stays_steady c.args.self.now c.requires.steady c.requires.few c.step.new.self c.args.event.now c.in-Ok.marks (subst AreLawful c.wire.ensures c.are_lawful.ensures) c.in-Ok.ensures

pub returns-in-Err-clause-ends : goal.returns-in-Err-clause-ends
returns-in-Err-clause-ends c =
    refuses c.args.self.now c.requires.steady c.requires.few c.step.new.self c.args.event.now c.in-Err.fault (subst AreLawful c.wire.ensures c.are_lawful.ensures) c.in-Err.ensures

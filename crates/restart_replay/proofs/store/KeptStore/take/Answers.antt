use Rattle.restart_replay.proofs.Crashing.{ends_as, by_event}
use Rattle.restart_replay.proofs.store.KeptStore.take.Goals as goal

pub returns-in-Event-clause-ends : goal.returns-in-Event-clause-ends
returns-in-Event-clause-ends c =
    ends_as c.args.self.now.cloud.store c.step.new.self.cloud.store _ _ c.step.result (by_event c.args.self.now.cloud.store _ c.args.event.now c.in-Event.is) c.step.ensures.ends

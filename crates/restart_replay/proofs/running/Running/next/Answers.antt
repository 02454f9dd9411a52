use Rattle.std.proofs.Common.{refl, ◌∙◌}
use Rattle.restart_replay.specs.declared.running.Running.{Running}
use Rattle.restart_replay.proofs.Going.{over, took, ready_next, not_taken}
use Rattle.restart_replay.proofs.running.Running.next.Goals as goal

pub returns-in_default-clause-goes : goal.returns-in_default-clause-goes
returns-in_default-clause-goes c =
    let gives = rw c.in_default.is at c.in_ok-event.ensures in
    λ schedule marks stands. over schedule c.args.self.now _ marks gives.0 refl stands

pub returns-in-Ok-clause-goes : goal.returns-in-Ok-clause-goes
returns-in-Ok-clause-goes c =
    let gives = rw c.in-Some.is at c.in_ok-event.ensures in
    λ schedule marks stands. took schedule c.args.self.now _ marks _ c.in-Some.event gives.0 gives.1 c.in-Ok.ensures.taken c.in-Ok.ensures.ends stands

pub returns-in-Ok-clause-ready : goal.returns-in-Ok-clause-ready
returns-in-Ok-clause-ready c =
    let gives = rw c.in-Some.is at c.in_ok-event.ensures in
    ready_next c.args.self.now _ _ c.in-Some.event gives.0 c.in-Ok.ensures.taken c.in-Ok.ensures.ends c.in-Ok.ensures.steady c.requires.ready

pub returns-clause-goes : goal.returns-clause-goes
returns-clause-goes c =
    let gives = rw c.in-Some.is at c.in_ok-event.ensures in
    let now : Running = record { store = c.take.new.self; events = c.next.new.self } in
    λ schedule marks stands. rw c.refused_at.ensures (not_taken schedule c.args.self.now now marks c.in-Some.event c.next.new.self.events c.line.result c.take.new.self.cloud.store c.in-Err.fault gives.0 (c.line.ensures ∙ gives.1) c.in-Err.ensures.ends stands)

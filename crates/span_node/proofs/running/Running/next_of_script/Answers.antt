use Rattle.std.proofs.Common.{refl}
use Rattle.span_node.specs.declared.running.Running.{Running}
use Rattle.span_node.proofs.Scripting.{begins_round, over, ready_past, goes_told}
use Rattle.span_node.proofs.running.Running.next_of_script.Goals as goal

pub take-requires-clause-ready : goal.take-requires-clause-ready
take-requires-clause-ready c =
    let gives = rw c.in-Some.is at c.in_ok-event.ensures in
    let mid : Running = record { cloud = c.args.self.now.cloud; script = c.next.new.self; mail = c.args.self.now.mail; begun = c.args.self.now.begun } in
    ready_past c.args.self.now mid c.in-Some.event c.requires.ready gives.0 refl refl

pub returns-in_default-clause-goes : goal.returns-in_default-clause-goes
returns-in_default-clause-goes c =
    let gives = rw c.in_default.is at c.in_ok-event.ensures in
    let new : Running = record { cloud = c.args.self.now.cloud; script = c.next.new.self; mail = c.args.self.now.mail; begun = c.args.self.now.begun } in
    λ schedule marks from now is. over schedule marks from now c.args.self.now new c.requires.ready is gives.0 refl

pub returns-in_err-marks-clause-goes : goal.returns-in_err-marks-clause-goes
returns-in_err-marks-clause-goes c =
    let gives = rw c.in-Some.is at c.in_ok-event.ensures in
    let mid : Running = record { cloud = c.args.self.now.cloud; script = c.next.new.self; mail = c.args.self.now.mail; begun = c.args.self.now.begun } in
    λ schedule marks from now is.
    goes_told schedule marks from now c.take.new.self c.from_residual-in_err-marks.result c.in_err-marks.field-0.0 c.from_residual-in_err-marks.ensures.1
    (c.in_err-marks.ensures.takes schedule marks from now (begins_round schedule marks from now c.args.self.now mid c.in-Some.event c.requires.ready is gives.0 gives.1 refl refl))

pub returns-clause-goes : goal.returns-clause-goes
returns-clause-goes c =
    let gives = rw c.in-Some.is at c.in_ok-event.ensures in
    let mid : Running = record { cloud = c.args.self.now.cloud; script = c.next.new.self; mail = c.args.self.now.mail; begun = c.args.self.now.begun } in
    λ schedule marks from now is.
    c.in_ok-marks.ensures.takes schedule marks from now (begins_round schedule marks from now c.args.self.now mid c.in-Some.event c.requires.ready is gives.0 gives.1 refl refl)

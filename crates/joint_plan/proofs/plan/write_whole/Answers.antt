use Rattle.std.proofs.Common.{[]}
use Rattle.sink_buffer.proofs.Saying.{front_from_said, said_nothing}
use Rattle.planner.proofs.Sets.{said_start}
use Rattle.joint_plan.proofs.Said.{text_failed, front_of_nothing, front_of_whole}
use Rattle.joint_plan.proofs.plan.write_whole.Goals as goal

pub returns-in_err-pen-clause-writes : goal.returns-in_err-pen-clause-writes
returns-in_err-pen-clause-writes g c =
    text_failed _ _ _ _ _ [] _ c.from_residual.ensures.0 (front_of_nothing _ _ _) (front_from_said _ _ _ _ (said_nothing _))

pub returns-in_err-end-clause-writes : goal.returns-in_err-end-clause-writes
returns-in_err-end-clause-writes g c =
    let said = c.in_err-end.ensures.says (g.K.Sink.taken c.args.out.now) (said_start _ _ c.in_ok-pen.ensures) in
    text_failed _ _ _ _ _ said.0 _ c.from_residual-in_err-end.ensures.0 said.1 said.2

pub returns-in_err-flush-clause-writes : goal.returns-in_err-flush-clause-writes
returns-in_err-flush-clause-writes g c =
    let said = c.in_ok-end.ensures.says (g.K.Sink.taken c.args.out.now) (said_start _ _ c.in_ok-pen.ensures) in
    text_failed _ _ _ _ _ said.0 _ c.from_residual-in_err-flush.ensures.0 (front_of_whole _ _ _ _ _ said.1) (c.in_err-flush.ensures.flushes _ _ said.2)

pub returns-clause-writes : goal.returns-clause-writes
returns-clause-writes g c =
    let said = c.in_ok-end.ensures.says (g.K.Sink.taken c.args.out.now) (said_start _ _ c.in_ok-pen.ensures) in
    record { text = said.0; taken = c.in_ok-flush.ensures.flushes _ _ said.2; is = said.1 }

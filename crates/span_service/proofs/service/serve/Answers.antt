use Rattle.std.proofs.Common.{refl, Bool, Ok, subst}
use Rattle.span_service.specs.Inputs.{ahead}
use Rattle.span_service.specs.Serving.{GoesOn}
use Rattle.span_service.proofs.Ends.{ends_by, ends_unbegun}
use Rattle.span_service.proofs.service.serve.Goals as goal

pub returns-in_err-input-clause-ends : goal.returns-in_err-input-clause-ends
returns-in_err-input-clause-ends g c =
    ends_by _ _ _ _ _ _ _ c.from_residual.ensures.1 (ends_unbegun c.args.keys (g.T.Taker.size c.args.taker.now) (g.T.Taker.state c.args.taker.now) (g.S.Stream.coming c.args.stream.now) (g.S.Stream.taken c.args.stream.now) _ c.in_err-input.field-0.0 refl)

pub returns-in_err-answer-clause-ends : goal.returns-in_err-answer-clause-ends
returns-in_err-answer-clause-ends g c =
    ends_by _ _ _ _ _ _ _ c.from_residual-in_err-answer.ensures.1 (ends_unbegun c.args.keys (g.T.Taker.size c.args.taker.now) (g.T.Taker.state c.args.taker.now) (g.S.Stream.coming c.args.stream.now) (g.S.Stream.taken c.args.stream.now) _ c.in_err-answer.field-0.0 refl)

pub returns-clause-ends : goal.returns-clause-ends
returns-clause-ends g c =
    subst (λ (more : Bool). GoesOn c.args.keys (g.T.Taker.size c.answer_next.new.taker)
    (record { state = g.T.Taker.state c.args.taker.now; coming = g.S.Stream.coming c.args.stream.now; taken = g.S.Stream.taken c.args.stream.now })
    (record { state = g.T.Taker.state c.answer_next.new.taker; coming = ahead c.answer_next.new.input (g.S.Stream.coming c.answer_next.new.stream); taken = g.S.Stream.taken c.answer_next.new.stream })
    c.loop-answer.answered (Ok more)) c.if-branch.false
    (c.in_ok-answer_next.ensures.goes_on (record { state = g.T.Taker.state c.args.taker.now; coming = g.S.Stream.coming c.args.stream.now; taken = g.S.Stream.taken c.args.stream.now }) c.loop-answer.invariant.served)

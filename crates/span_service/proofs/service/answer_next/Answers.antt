use Rattle.std.proofs.Common.{refl, sym, ◌∙◌, ap, ◌++◌}
use Rattle.std.specs.Prelude.{option_map}
use Rattle.replica_journal.specs.Records.{body_of}
use Rattle.span_service.specs.Inputs.{ahead}
use Rattle.span_service.proofs.Ends.{ends_asked, ends_refused, goes_by}
use Rattle.span_service.proofs.Rounds.{served_as, served_more}
use Rattle.span_service.proofs.service.answer_next.Goals as goal

pub returns-in_err-request-clause-goes_on : goal.returns-in_err-request-clause-goes_on
returns-in_err-request-clause-goes_on g c start served =
    let size = g.T.Taker.size c.args.taker.now in
    let state = g.T.Taker.state c.args.taker.now in
    goes_by c.args.keys size c.args.answered start
    (record { state = state; coming = ahead c.ask.new.input (g.S.Stream.coming c.ask.new.stream); taken = g.S.Stream.taken c.ask.new.stream })
    _ _ c.from_residual-in_err-request.ensures.1
    (ends_asked c.args.keys size c.args.answered start state (ahead c.args.input.now (g.S.Stream.coming c.args.stream.now)) (g.S.Stream.taken c.args.stream.now) served
    (ahead c.is_more.new.input (g.S.Stream.coming c.is_more.new.stream)) (ahead c.ask.new.input (g.S.Stream.coming c.ask.new.stream))
    (g.S.Stream.taken c.ask.new.stream) _ (c.in_err-request.ensures.taken_stays ∙ c.is_more.ensures.taken_stays)
    c.in_ok-is_more.ensures.more.same c.in_err-request.ensures.asks)

pub returns-in_err-reply-clause-goes_on : goal.returns-in_err-reply-clause-goes_on
returns-in_err-reply-clause-goes_on g c start served =
    let size = g.T.Taker.size c.reply.new.taker in
    goes_by c.args.keys size c.args.answered start
    (record { state = g.T.Taker.state c.reply.new.taker; coming = ahead c.ask.new.input (g.S.Stream.coming c.reply.new.stream); taken = g.S.Stream.taken c.reply.new.stream })
    _ _ c.from_residual-in_err-reply.ensures.1
    (ends_refused c.args.keys size c.args.answered start (g.T.Taker.state c.args.taker.now) (ahead c.args.input.now (g.S.Stream.coming c.args.stream.now)) (g.S.Stream.taken c.ask.new.stream)
    (served_as c.args.keys c.args.answered start (g.T.Taker.state c.args.taker.now) (ahead c.args.input.now (g.S.Stream.coming c.args.stream.now)) (ahead c.args.input.now (g.S.Stream.coming c.args.stream.now))
    (g.S.Stream.taken c.args.stream.now) (g.S.Stream.taken c.ask.new.stream) refl (c.in_ok-request.ensures.taken_stays ∙ c.is_more.ensures.taken_stays) served)
    c.in_ok-request.request c.in_ok-request.ensures.asks.0 (ahead c.ask.new.input (g.S.Stream.coming c.ask.new.stream)) (sym c.in_ok-is_more.ensures.more.same ∙ c.in_ok-request.ensures.asks.1)
    (g.T.Taker.state c.reply.new.taker) (g.S.Stream.taken c.reply.new.stream) _ c.in_err-reply.ensures.replies)

pub returns-clause-goes_on : goal.returns-clause-goes_on
returns-clause-goes_on g c start served =
    served_more c.args.keys c.args.answered start (g.T.Taker.state c.args.taker.now) (g.T.Taker.state c.reply.new.taker)
    (ahead c.args.input.now (g.S.Stream.coming c.args.stream.now)) (ahead c.ask.new.input (g.S.Stream.coming c.reply.new.stream))
    (g.S.Stream.taken c.ask.new.stream) (g.S.Stream.taken c.reply.new.stream) c.in_ok-request.request
    (served_as c.args.keys c.args.answered start (g.T.Taker.state c.args.taker.now) (ahead c.args.input.now (g.S.Stream.coming c.args.stream.now)) (ahead c.args.input.now (g.S.Stream.coming c.args.stream.now))
    (g.S.Stream.taken c.args.stream.now) (g.S.Stream.taken c.ask.new.stream) refl (c.in_ok-request.ensures.taken_stays ∙ c.is_more.ensures.taken_stays) served)
    c.in_ok-request.ensures.asks.0
    (sym c.in_ok-is_more.ensures.more.same ∙ c.in_ok-request.ensures.asks.1 ∙ ap (λ o. option_map (λ rest. body_of c.in_ok-request.request ++ rest) (ahead c.ask.new.input o)) (sym c.in_ok-reply.ensures.coming_stays))
    c.in_ok-reply.ensures.replies.0 c.in_ok-reply.ensures.replies.1

use Rattle.span_service.proofs.Connections.{outcome_served}
use Rattle.span_service.proofs.visiting.serve_present.Goals as goal

pub returns-clause-served : goal.returns-clause-served
returns-clause-served g c =
    outcome_served c.args.keys (g.T.Taker.size c.serve-answer.new.taker) (g.T.Taker.state c.args.taker.now) (g.T.Taker.state c.serve-answer.new.taker) (g.S.Stream.coming c.args.stream.now)
    (g.S.Stream.taken c.args.stream.now) (g.S.Stream.taken c.serve-answer.new.stream) (g.S.Stream.faults c.args.stream.now) (g.S.Stream.faults c.serve-answer.new.stream) c.serve-answer.result _
    c.serve-answer.ensures.ends c.serve-answer.ensures.read_fault c.serve-answer.ensures.write_fault c.outcome_of.ensures

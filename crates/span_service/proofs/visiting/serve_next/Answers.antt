use Rattle.std.proofs.Common.{ap}
use Rattle.span_service.specs.Doors.{Around}
use Rattle.span_service.specs.Endings.{line_told}
use Rattle.span_service.proofs.Connections.{on_ok, visited_one}
use Rattle.span_service.proofs.visiting.serve_next.Goals as goal

pub returns-clause-visits : goal.returns-clause-visits
returns-clause-visits g c =
    on_ok c.write_served.result
    (visited_one c.args.keys (g.T.Taker.state c.args.taker.now) (g.T.Taker.state c.serve_present.new.taker)
    (g.G.Stream.around c.args.door.now).told (g.G.Stream.coming c.args.door.now) (g.G.Stream.taken c.args.door.now) (g.G.Stream.faults c.args.door.now)
    (g.G.Stream.coming c.accept.new.self) (g.G.Stream.taken c.accept.new.self) (g.G.Stream.faults c.accept.new.self) (g.G.Stream.around c.accept.new.self).told
    (g.G.Stream.taken c.serve_present.new.stream) (g.G.Stream.faults c.serve_present.new.stream) (g.G.Stream.around c.serve_present.new.stream).told
    (g.K.Sink.taken c.args.out.now) (g.K.Sink.taken c.write_served.new.out) (line_told c.in_ok-answered.field-0)
    c.in-Ok.ensures.accepts c.in-Ok.ensures.faults_same (ap (λ (a : Around). a.told) c.in_ok-answered.ensures.around_stays) c.in_ok-answered.ensures.served)
    c.write_served.ensures.line

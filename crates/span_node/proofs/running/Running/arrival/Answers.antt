use Rattle.std.proofs.Common.{◌≡◌, ◌∙◌, true, length, refl, ap, arith}
use Rattle.span_node.specs.declared.running.Running.{Running}
use Rattle.span_node.specs.Traffic.{Traffic, seen}
use Rattle.span_node.proofs.Arriving.{begun_by, stops_sending, arrives, arrives_told}
use Rattle.span_node.proofs.running.Running.arrival.Goals as goal

pub returns-in_err-send_all-clause-arrives : goal.returns-in_err-send_all-clause-arrives
returns-in_err-send_all-clause-arrives g c =
    let link : Traffic = seen (g.L.Link.sent c.args.link.now) (g.L.Link.answers c.args.link.now) (g.L.Link.honest c.args.link.now) (g.L.Link.faithful c.args.link.now) in
    let now : Traffic = seen (g.L.Link.sent c.send_all.new.link) (g.L.Link.answers c.send_all.new.link) (g.L.Link.honest c.send_all.new.link) (g.L.Link.faithful c.send_all.new.link) in
    let new : Running = record { cloud = c.args.self.now.cloud; script = c.args.self.now.script; mail = c.send_all.new.self; begun = c.args.self.now.begun } in
    let begun : c.args.self.now.begun ≡ true = grind arith in
    let goes = rw c.wire.ensures at c.in_err-send_all.ensures.goes in
    λ schedule marks from stands.
    arrives_told schedule marks from now new c.from_residual.result c.in_err-send_all.field-0.0 c.from_residual.ensures.1
    (stops_sending schedule marks from link now c.args.self.now c.send_all.new.self.sent c.in_err-send_all.field-0.0 c.requires.ready.few c.in_err-send_all.ensures.of_link
    (begun_by schedule marks from link c.args.self.now begun stands) goes)

pub returns-clause-arrives : goal.returns-clause-arrives
returns-clause-arrives g c =
    let link : Traffic = seen (g.L.Link.sent c.args.link.now) (g.L.Link.answers c.args.link.now) (g.L.Link.honest c.args.link.now) (g.L.Link.faithful c.args.link.now) in
    let mid : Traffic = seen (g.L.Link.sent c.send_all.new.link) (g.L.Link.answers c.send_all.new.link) (g.L.Link.honest c.send_all.new.link) (g.L.Link.faithful c.send_all.new.link) in
    let now : Traffic = seen (g.L.Link.sent c.next.new.link) (g.L.Link.answers c.next.new.link) (g.L.Link.honest c.next.new.link) (g.L.Link.faithful c.next.new.link) in
    let new : Running = record { cloud = c.args.self.now.cloud; script = c.args.self.now.script; mail = c.next.new.self; begun = c.args.self.now.begun } in
    let begun : c.args.self.now.begun ≡ true = grind arith in
    let goes = rw c.wire.ensures at c.in_ok-send_all.ensures.goes in
    let all : c.send_all.new.self.sent ≡ length c.args.self.now.cloud.store.sent = c.in_ok-send_all.ensures.all ∙ ap length c.wire.ensures in
    let comes = rw c.wire-2.ensures at c.next.ensures.comes in
    λ schedule marks from stands.
    arrives schedule marks from link mid now c.args.self.now new c.send_all.new.self.sent c.next.result c.requires.ready.few (begun_by schedule marks from link c.args.self.now begun stands) goes all comes refl refl c.next.ensures.sent

use Rattle.std.proofs.Common.{List, [], ◌∷◌, ◌++◌, sym, ◌∙◌, ap, append_assoc}
use Rattle.std.proofs.lemmas.List.{append-nil}
use Rattle.std.proofs.lemmas.Result.{err_from_is_err_and}
use Rattle.span_base.specs.declared.policy.Hop.{Hop}
use Rattle.span_base.specs.declared.policy.Near.{Near}
use Rattle.wire_msg.specs.Faults.{many_at, lane_at, hops_of}
use Rattle.wire_msg.proofs.Loops.{behind-none, behind-more, behind-stops}
use Rattle.wire_msg.proofs.Lanes.{nears_none, hops_none, nears_push, hops_push, lane_is, lane_stops_first, lane_stops_later}
use Rattle.wire_msg.proofs.reader.Reader.lanes.Goals as goal

pub loop-init : goal.loop-init
loop-init c =
    ([], c.new-nears.ensures ∙ sym nears_none, sym (append-nil c.args.hops.now) ∙ ap (λ (hs : List Hop). c.args.hops.now ++ hs) (sym hops_none), behind-none (lane_at c.args.replicas) c.args.count c.args.self.now.rest.now)

pub returns-in_err-near : goal.returns-in_err-near
returns-in_err-near c =
    let p = err_from_is_err_and c.from_residual.result c.from_residual.ensures.1 in
    rw (p.1, p.2) (behind-stops (lane_at c.args.replicas) c.in_err-near.field-0.0 c.loop.invariant.0 c.args.count c.loop.counter c.loop.self.rest.now (many_at (lane_at c.args.replicas) c.args.count c.args.self.now.rest.now) c.loop-test.true (lane_stops_first c.args.replicas c.in_err-near.field-0.0 c.loop.self.rest.now c.in_err-near.ensures) c.loop.invariant.3)

pub returns-in_err-hops : goal.returns-in_err-hops
returns-in_err-hops c =
    let p = err_from_is_err_and c.from_residual-in_err-hops.result c.from_residual-in_err-hops.ensures.1 in
    rw (p.1, p.2) (behind-stops (lane_at c.args.replicas) c.in_err-hops.field-0.0 c.loop.invariant.0 c.args.count c.loop.counter c.loop.self.rest.now (many_at (lane_at c.args.replicas) c.args.count c.args.self.now.rest.now) c.loop-test.true (lane_stops_later c.args.replicas c.in_err-hops.field-0.0 c.loop.self.rest.now c.in_ok-near.near c.near.new.self.rest.now c.in_ok-near.ensures c.in_err-hops.ensures) c.loop.invariant.3)

pub loop-preserved : goal.loop-preserved
loop-preserved c =
    let more = c.in_ok-hops.ensures in
    let near = c.in_ok-near.near in
    let lanes = c.loop.invariant.0 in
    let lane : Near × List Hop = (near, more.0) in (
      lanes ++ lane ∷ [],
      c.in_ok-push.ensures.ok ∙ ap (λ (ns : List Near). ns ++ near ∷ []) c.loop.invariant.1 ∙ sym (nears_push lanes lane),
      more.2 ∙ ap (λ (hs : List Hop). hs ++ more.0) c.loop.invariant.2 ∙ append_assoc c.args.hops.now (hops_of lanes) more.0 ∙ ap (λ (hs : List Hop). c.args.hops.now ++ hs) (sym (hops_push lanes lane)),
      behind-more (lane_at c.args.replicas) lanes c.args.count c.loop.counter c.loop.self.rest.now lane c.hops.new.self.rest.now (many_at (lane_at c.args.replicas) c.args.count c.args.self.now.rest.now) c.loop-test.true (lane_is c.args.replicas c.loop.self.rest.now near c.near.new.self.rest.now more.0 c.hops.new.self.rest.now c.in_ok-near.ensures more.1) c.loop.invariant.3,
    )

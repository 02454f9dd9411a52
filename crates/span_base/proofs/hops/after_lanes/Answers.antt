use Rattle.std.proofs.Common.{◌≡◌, ◌+◌, ◌++◌, map, sym, subst}
use Rattle.span_base.specs.Policy.{lane_of}
use Rattle.span_base.proofs.Lanes.{lanes_below, next_lane, no_lane, first_lane, same_not_different, not_different_same, lane_taken, lane_skipped, lanes_start, lanes_end}
use Rattle.span_base.proofs.hops.after_lanes.Goals.{then-ne-via-then-ne, then-ne-via-else-ne+then-ne-2, then-has+in_ok-hop+else-ne+else-ne-2, else-has}
use Rattle.span_base.proofs.hops.after_lanes.Goals as goal

pub loop-centre-init : goal.loop-centre-init
loop-centre-init c = lanes_start c.args.replicas c.args.member.0 (map lane_of c.args.hops.now)

pub returns-in_err-hop : goal.returns-in_err-hop
returns-in_err-hop c =
    rw c.from_residual.ensures
    (λ more whole.
    let next = next_lane c.args.replicas c.args.member.0 c.loop-centre.centre (map lane_of c.args.hops.now) (map lane_of c.loop-centre.rest.now) more
    c.loop-centre-test.true (sym c.if-has.ensures.member) c.loop-centre.invariant whole in
    no_lane c.loop-centre.rest.now (c.args.member.0, c.loop-centre.centre) next.0 c.in_err-hop.ensures.cases next.1)

pub returns-then-ne : goal.returns-then-ne
returns-then-ne c = λ more whole.
    let next = next_lane c.args.replicas c.args.member.0 c.loop-centre.centre (map lane_of c.args.hops.now) (map lane_of c.loop-centre.rest.now) more
    c.loop-centre-test.true (sym c.if-has.ensures.member) c.loop-centre.invariant whole in
    let same = first_lane c.loop-centre.rest.now c.in_ok-hop.more.now c.in_ok-hop.hop.now c.args.member.0 c.loop-centre.centre next.0 c.in_ok-hop.ensures.cases.0 next.1 in
    elim c.then-ne.branch [
      | then-ne-via-then-ne w ↦ same_not_different _ _ _ c.ne.ensures w.if-ne.true same.0
      | then-ne-via-else-ne+then-ne-2 w ↦ same_not_different _ _ _ w.ne-else-ne.ensures w.if-ne-2.true same.1
    ]

pub loop-centre-preserved : goal.loop-centre-preserved
loop-centre-preserved c =
    elim c.if-has.branch [
      | then-has+in_ok-hop+else-ne+else-ne-2 w ↦
          subst (λ r. map lane_of c.args.hops.now ≡ lanes_below c.args.replicas c.args.member.0 (c.loop-centre.centre + 1) ++ map lane_of r.now) (sym w.rest-is)
          (lane_taken c.args.replicas c.args.member.0 c.loop-centre.centre (map lane_of c.args.hops.now) c.loop-centre.rest.now w.in_ok-hop.more.now w.in_ok-hop.hop.now
          (sym w.if-has.ensures.member) c.loop-centre.invariant w.in_ok-hop.ensures.cases.0
          (not_different_same _ _ _ w.ne.ensures w.if-ne.false) (not_different_same _ _ _ w.ne-else-ne.ensures w.if-ne-2.false))
      | else-has w ↦
          subst (λ r. map lane_of c.args.hops.now ≡ lanes_below c.args.replicas c.args.member.0 (c.loop-centre.centre + 1) ++ map lane_of r.now) (sym w.rest-is)
          (lane_skipped c.args.replicas c.args.member.0 c.loop-centre.centre (map lane_of c.args.hops.now) (map lane_of c.loop-centre.rest.now)
          (sym w.if-has.ensures.member) c.loop-centre.invariant)
    ]

pub returns : goal.returns
returns c =
    lanes_end c.args.replicas c.args.member.0 c.loop-centre.centre (map lane_of c.args.hops.now) (map lane_of c.loop-centre.rest.now)
    c.loop-centre.auto.centre-end c.loop-centre-test.false c.loop-centre.invariant

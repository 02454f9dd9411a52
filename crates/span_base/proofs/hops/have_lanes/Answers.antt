use Rattle.std.proofs.Common.{map, drop, take, suc, sym, ◌∙◌}
use Rattle.std.specs.List.{flat_map}
use Rattle.std.proofs.lemmas.Bool.{true≢false}
use Rattle.std.proofs.lemmas.List.{append_cancel_left}
use Rattle.span_base.specs.declared.policy.Near.{Near}
use Rattle.span_base.specs.Policy.{lane_of, lanes_of}
use Rattle.span_base.proofs.Lanes.{flat_map-split}
use Rattle.span_base.proofs.hops.have_lanes.Goals as goal

pub returns-in-None : goal.returns-in-None
returns-in-None c =
    let f = λ (n : Near). lanes_of c.args.replicas n.member.0 in
    let xs = c.args.primary.now in
    let i = c.loop-near.near-index in (
      λ h. absurd (true≢false (sym h)),
      λ whole. absurd (c.in-None.ensures (flat_map f (drop (suc i) xs))
          (append_cancel_left (flat_map f (take i xs)) (map lane_of c.loop-near.rest.now) _
          (sym c.loop-near.invariant ∙ whole ∙ flat_map-split f xs i _ c.loop-near-test.true))),
    )

use Rattle.std.proofs.Common.{slice_index_or, below_more, subst}
use Rattle.std.proofs.lemmas.List.{get_or_default}
use Rattle.span_base.specs.Policy.{IsDirect}
use Rattle.span_base.proofs.hops.all_direct.Goals as goal

pub loop-hop-preserved : goal.loop-hop-preserved
loop-hop-preserved c = λ k d within.
    below_more (λ j. IsDirect c.args.hops.now (slice_index_or c.args.hops.now j d).member (slice_index_or c.args.hops.now j d).parent)
    c.loop-hop.hop-index (λ j low. c.loop-hop.invariant j d low)
    (subst (λ h. IsDirect c.args.hops.now h.member h.parent) (get_or_default c.args.hops.now c.loop-hop.hop-index _ d c.loop-hop-test.true) (c.is_direct.ensures.0 c.if-not-is_direct.false)) k within

use Rattle.std.proofs.Common.{ℕ, ◌<◌, slice_index_or}
use Rattle.span_base.specs.declared.policy.Hop.{Hop}
use Rattle.span_base.specs.Policy.{IsDirect}
use Rattle.span_base.proofs.hops.all_direct.Given as goal

abbrev pub invariant-loop-hop : goal.invariant-loop-hop
invariant-loop-hop l = (k : ℕ) (d : Hop) → k < l.hop-index → IsDirect l.hops (slice_index_or l.hops k d).member (slice_index_or l.hops k d).parent

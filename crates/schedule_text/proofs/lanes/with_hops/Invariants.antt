use Rattle.std.proofs.Common.{◌≡◌}
use Rattle.schedule_text.specs.Words.{split_at}
use Rattle.schedule_text.specs.Pieces.{pieces, bytes}
use Rattle.schedule_text.specs.Policies.{hops_from}
use Rattle.schedule_text.proofs.lanes.with_hops.Given as goal

abbrev pub invariant-loop-to : goal.invariant-loop-to
invariant-loop-to l =
    hops_from l.replicas l.near l.lanes (pieces 44 l.to) (pieces 44 l.from) ≡ hops_from l.replicas l.near l.fn.lanes (split_at 44 l.fn.children) (split_at 44 l.fn.parents)

abbrev pub decreases-loop-to : goal.decreases-loop-to
decreases-loop-to l = bytes l.to

use Rattle.std.proofs.Common.{◌≡◌, ℕ, take, ◌||◌}
use Rattle.std.specs.List.{list_any}
use Rattle.span_base.specs.DcSet.{has}
use Rattle.span_base.proofs.quorum.asked_by.Given as goal

abbrev pub invariant-loop-member : goal.invariant-loop-member
invariant-loop-member l = (d : ℕ) → has l.asked d ≡ list_any (λ q. has q.read d || has q.write d) (take l.member-index l.members)

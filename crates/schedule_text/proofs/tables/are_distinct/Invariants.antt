use Rattle.std.proofs.Common.{◌≡◌, drop}
use Rattle.std.specs.Prelude.{map}
use Rattle.span_base.specs.declared.policy.Quorum.{Quorum}
use Rattle.wire_msg.specs.Sound.{are_distinct}
use Rattle.schedule_text.proofs.tables.are_distinct.Given as goal

abbrev pub invariant-loop-at : goal.invariant-loop-at
invariant-loop-at l = are_distinct (map (λ (q : Quorum). q.dc.0) (drop l.at l.members)) ≡ are_distinct (map (λ (q : Quorum). q.dc.0) l.members)

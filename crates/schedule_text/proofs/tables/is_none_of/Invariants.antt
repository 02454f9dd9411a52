use Rattle.std.proofs.Common.{◌≡◌, ◌==◌, drop}
use Rattle.std.specs.Prelude.{map, not}
use Rattle.std.specs.List.{list_all}
use Rattle.span_base.specs.declared.policy.Quorum.{Quorum}
use Rattle.schedule_text.proofs.tables.is_none_of.Given as goal

abbrev pub invariant-loop-member : goal.invariant-loop-member
invariant-loop-member l =
    list_all (λ d. not (l.centre == d)) (map (λ (q : Quorum). q.dc.0) (drop l.member-index l.members)) ≡ list_all (λ d. not (l.centre == d)) (map (λ (q : Quorum). q.dc.0) l.members)

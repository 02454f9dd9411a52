use Rattle.std.proofs.Common.{◌≡◌, ◌+◌, ◌≤◌, ℕ, Bool, ◌&&◌}
use Rattle.std.specs.List.{count_by}
use Rattle.span_base.specs.DcSet.{centres_of}
use Rattle.slo_rules.specs.Rules.{is_write_near, is_direct_for}
use Rattle.slo_rules.specs.Centres.{centres_from}
use Rattle.slo_rules.proofs.relay.direct_near_count.Given as goal

abbrev pub invariant-loop-d : goal.invariant-loop-d
invariant-loop-d l =
    let p : ℕ → Bool = λ dc. is_direct_for l.hops l.member.0 dc && is_write_near l.world l.rule l.member.0 dc in
    (l.count + count_by p (centres_from l.replicas l.d) ≡ count_by p (centres_of l.replicas))
    × (l.count ≤ l.d)

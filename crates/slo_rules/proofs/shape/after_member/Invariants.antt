use Rattle.std.proofs.Common.{◌≡◌, ℕ, List}
use Rattle.span_base.specs.DcSet.{centres_of}
use Rattle.slo_rules.specs.Centres.{centres_from}
use Rattle.slo_rules.specs.Rules.{has_hops, due_from}
use Rattle.slo_rules.proofs.shape.after_member.Given as goal

abbrev pub invariant-loop-d : goal.invariant-loop-d
invariant-loop-d l =
    (more : List (ℕ × ℕ)) → has_hops l.hops (due_from l.member.0 (centres_of l.replicas) more) ≡ has_hops l.rest (due_from l.member.0 (centres_from l.replicas l.d) more)

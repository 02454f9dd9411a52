use Rattle.std.proofs.Common.{◌≡◌, ◌==◌, find, drop}
use Rattle.span_base.specs.declared.policy.Near.{Near}
use Rattle.span_base.proofs.policy_parts.find_primary.Given as goal

abbrev pub invariant-loop-near : goal.invariant-loop-near
invariant-loop-near l =
    find (λ (n : Near). n.member.0 == l.member.0) l.primary ≡ find (λ (n : Near). n.member.0 == l.member.0) (drop l.near-index l.primary)

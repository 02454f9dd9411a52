use Rattle.std.proofs.Common.{◌≡◌, ◌++◌, take, string_bytes}
use Rattle.std.specs.List.{flat_map}
use Rattle.slo_rules.specs.PolicyText.{quorum_line, ended}
use Rattle.slo_rules.proofs.policy_text.push_quorums.Given as goal

abbrev pub invariant-loop-quorum : goal.invariant-loop-quorum
invariant-loop-quorum l = string_bytes l.text ≡ string_bytes l.fn.text ++ flat_map (λ x. ended (quorum_line l.world x)) (take l.quorum-index l.quorums)

use Rattle.std.proofs.Common.{◌≡◌, ◌++◌, take, string_bytes}
use Rattle.std.specs.List.{flat_map}
use Rattle.slo_rules.specs.PolicyText.{hop_line, ended}
use Rattle.slo_rules.proofs.policy_text.push_hops.Given as goal

abbrev pub invariant-loop-hop : goal.invariant-loop-hop
invariant-loop-hop l = string_bytes l.text ≡ string_bytes l.fn.text ++ flat_map (λ x. ended (hop_line l.world x)) (take l.hop-index l.hops)

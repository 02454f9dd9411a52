use Rattle.std.proofs.Common.{◌≡◌, ◌++◌, take, string_bytes}
use Rattle.std.specs.List.{flat_map}
use Rattle.slo_rules.specs.PolicyText.{primary_line, ended}
use Rattle.slo_rules.proofs.policy_text.push_primaries.Given as goal

abbrev pub invariant-loop-near : goal.invariant-loop-near
invariant-loop-near l = string_bytes l.text ≡ string_bytes l.fn.text ++ flat_map (λ x. ended (primary_line l.world x)) (take l.near-index l.primary)

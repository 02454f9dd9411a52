use Rattle.std.proofs.Common.{◌≡◌, ◌++◌, string_bytes}
use Rattle.std.specs.Prelude.{codes}
use Rattle.std.specs.List.{flat_map}
use Rattle.slo_rules.specs.Centres.{centres_from}
use Rattle.workload.specs.World.{name_of}
use Rattle.slo_rules.specs.PolicyText.{names_text}
use Rattle.slo_rules.proofs.policy_text.push_names.Given as goal

abbrev pub invariant-loop-d : goal.invariant-loop-d
invariant-loop-d l =
    string_bytes l.text ++ flat_map (λ dc. codes " " ++ name_of l.world dc) (centres_from l.set l.d) ≡ string_bytes l.fn.text ++ names_text l.world l.set

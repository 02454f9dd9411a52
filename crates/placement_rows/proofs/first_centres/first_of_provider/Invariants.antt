use Rattle.std.proofs.Common.{◌≡◌, false}
use Rattle.std.specs.List.{list_any, range_with_len}
use Rattle.slo_rules.specs.Rules.{same_provider}
use Rattle.placement_rows.proofs.first_centres.first_of_provider.Given as goal

abbrev pub invariant-loop-d : goal.invariant-loop-d
invariant-loop-d l = list_any (same_provider l.world l.dc) (range_with_len 0 l.d) ≡ false

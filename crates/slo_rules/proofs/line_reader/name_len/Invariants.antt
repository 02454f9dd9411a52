use Rattle.std.proofs.Common.{◌≡◌, ◌+◌, ◌≤◌}
use Rattle.slo_rules.specs.PolicyLines.{name_len}
use Rattle.slo_rules.proofs.NameLens.{left_at}
use Rattle.slo_rules.proofs.line_reader.name_len.Given as goal

abbrev pub invariant-loop-at : goal.invariant-loop-at
invariant-loop-at l = record {
  few : l.at ≤ 32;
  so_far : name_len l.text ≡ l.at + left_at l.text l.at;
}

use Rattle.std.proofs.Common.{refl}
use Rattle.span_base.specs.DcSet.{centres_of, centres_below}
use Rattle.slo_rules.specs.PolicyLines.{behind, name_at, centre_at, centres_at, replicas_at, primary_at, parent_at, quorum_at, form_at, line_says}
use Rattle.slo_rules.specs.PolicyReading.{step}
use Rattle.slo_rules.proofs.worked_lines.worked_forms.Goals as goal

pub returns : goal.returns
unfolding centres_of centres_below behind name_at centre_at centres_at replicas_at primary_at parent_at quorum_at form_at line_says step
returns c = record {
  empty = refl;
  other_word = refl;
  other_word_of_r = refl;
  no_name = refl;
  two_spaces = refl;
  space_behind = refl;
  semicolon = refl;
  long_name = refl;
  no_primary = refl;
  third_name = refl;
  no_parent = refl;
  none_read = refl;
  no_semicolon = refl;
  none_written = refl;
}

use Rattle.std.proofs.Common.{refl}
use Rattle.span_base.specs.DcSet.{centres_of, centres_below}
use Rattle.slo_rules.specs.PolicyLines.{behind, name_at, centre_at, centres_at, replicas_at, primary_at, parent_at, quorum_at, form_at, line_says}
use Rattle.slo_rules.specs.PolicyReading.{step}
use Rattle.slo_rules.proofs.worked_lines.worked_readings.Goals as goal

pub returns : goal.returns
unfolding centres_of centres_below behind name_at centre_at centres_at replicas_at primary_at parent_at quorum_at form_at line_says step
returns c = record {
  direct = refl;
  relay = refl;
  strong = refl;
  lacking = refl;
}

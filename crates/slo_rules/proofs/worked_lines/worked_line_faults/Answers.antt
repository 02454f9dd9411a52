use Rattle.std.proofs.Common.{refl}
use Rattle.span_base.specs.DcSet.{centres_of, centres_below}
use Rattle.slo_rules.specs.PolicyLines.{behind, name_at, centre_at, centres_at, replicas_at, primary_at, parent_at, quorum_at, form_at, line_says}
use Rattle.slo_rules.specs.PolicyReading.{step}
use Rattle.slo_rules.proofs.worked_lines.worked_line_faults.Goals as goal

pub returns : goal.returns
unfolding centres_of centres_below behind name_at centre_at centres_at replicas_at primary_at parent_at quorum_at form_at line_says step
returns c = record {
  unknown_replica = refl;
  falling = refl;
  twice = refl;
  too_early = refl;
  second_replicas = refl;
  other_mode = refl;
  other_member = refl;
  unknown_member = refl;
  unknown_primary = refl;
  passed_over = refl;
  hop_out_of_order = refl;
  unknown_parent = refl;
  read_falling = refl;
  unknown_written = refl;
}

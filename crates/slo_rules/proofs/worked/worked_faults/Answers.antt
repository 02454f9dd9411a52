use Rattle.std.proofs.Common.{refl}
use Rattle.span_base.specs.DcSet.{centres_of, centres_below}
use Rattle.slo_rules.specs.Rules.{first_broken_rule}
use Rattle.slo_rules.proofs.worked.worked_faults.Goals as goal

pub returns : goal.returns
unfolding first_broken_rule centres_of centres_below
returns c = record {
  other_mode = refl;
  other_failures = refl;
  unknown_centre = refl;
  members_out_of_order = refl;
  hops_out_of_order = refl;
  primary_elsewhere = refl;
  far_primary = refl;
  goals_of_zero = refl;
  few_to_read = refl;
  few_to_write = refl;
  indirect_parent = refl;
  parent_elsewhere = refl;
  replica_unused = refl;
  far_to_read = refl;
  far_to_write = refl;
  meet_in_two = refl;
  writes_apart = refl;
  one_provider = refl;
  one_of_three = refl;
}

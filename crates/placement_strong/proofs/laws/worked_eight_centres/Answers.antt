use Rattle.std.proofs.Common.{refl}
use Rattle.span_base.specs.DcSet.{centres_of, centres_below}
use Rattle.slo_rules.specs.Rules.{first_broken_rule}
use Rattle.placement_strong.specs.Placed.{placed, decoded}
use Rattle.placement_strong.proofs.laws.worked_eight_centres.Goals as goal

pub returns : goal.returns
unfolding first_broken_rule placed decoded centres_of centres_below
returns c = record {
  allowed = refl;
  variables = refl;
  rows = refl;
  value = refl;
  back = refl;
}

use Rattle.std.proofs.Common.{refl}
use Rattle.span_base.specs.DcSet.{centres_of, centres_below}
use Rattle.slo_rules.specs.Rules.{first_broken_rule}
use Rattle.slo_rules.proofs.worked.worked_policies.Goals as goal

pub returns : goal.returns
unfolding first_broken_rule centres_of centres_below
returns c = record {
  at_x = refl;
  at_y = refl;
  relay = refl;
  straight = refl;
  strong = refl;
  two_providers = refl;
  at_the_goals = refl;
  largest = refl;
}

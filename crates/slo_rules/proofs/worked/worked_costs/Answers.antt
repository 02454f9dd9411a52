use Rattle.std.proofs.Common.{refl}
use Rattle.span_base.specs.DcSet.{centres_of, centres_below}
use Rattle.slo_rules.specs.Cost.{policy_cost}
use Rattle.slo_rules.proofs.worked.worked_costs.Goals as goal

pub returns : goal.returns
unfolding policy_cost centres_of centres_below
returns c = record {
  at_x = refl;
  at_y = refl;
  at_both = refl;
  relay = refl;
  straight = refl;
  strong = refl;
  largest = refl;
}

use Rattle.std.proofs.Common.{refl}
use Rattle.span_base.specs.DcSet.{centres_of, centres_below}
use Rattle.slo_rules.proofs.worked.worked_texts.Goals as goal

pub returns : goal.returns
unfolding centres_of centres_below
returns c = record { direct = refl; relay = refl; strong = refl }

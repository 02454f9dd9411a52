use Rattle.std.proofs.Common.{◌≡◌, nat_lt}
use Rattle.std.specs.List.{list_all}
use Rattle.span_base.specs.DcSet.{centres_of}
use Rattle.slo_rules.specs.Centres.{centres_from}
use Rattle.slo_rules.proofs.shape.lies_below.Given as goal

abbrev pub invariant-loop-d : goal.invariant-loop-d
invariant-loop-d l = list_all (λ dc. nat_lt dc l.n) (centres_of l.set) ≡ list_all (λ dc. nat_lt dc l.n) (centres_from l.set l.d)

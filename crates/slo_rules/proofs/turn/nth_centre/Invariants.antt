use Rattle.std.proofs.Common.{◌≡◌}
use Rattle.std.specs.Prelude.{slice_get}
use Rattle.span_base.specs.DcSet.{centres_of}
use Rattle.slo_rules.specs.Centres.{centres_from}
use Rattle.slo_rules.proofs.turn.nth_centre.Given as goal

abbrev pub invariant-loop-d : goal.invariant-loop-d
invariant-loop-d l = slice_get (centres_of l.set) l.count ≡ slice_get (centres_from l.set l.d) l.left

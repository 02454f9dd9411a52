use Rattle.std.proofs.Common.{◌≡◌, length, drop}
use Rattle.slo_rules.specs.Rules.{same_list, primary_members, centres_asking}
use Rattle.slo_rules.proofs.shape.has_primaries.Given as goal

abbrev pub invariant-loop-near : goal.invariant-loop-near
invariant-loop-near l =
    same_list (primary_members l.primary) (centres_asking l.members)
    ≡ same_list (primary_members (drop (length l.yielded) l.primary)) (centres_asking (drop (length l.yielded) l.members))

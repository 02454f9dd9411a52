use Rattle.std.proofs.Common.{◌≡◌, length, drop}
use Rattle.slo_rules.specs.Rules.{same_list, quorum_members, centres_asking}
use Rattle.slo_rules.proofs.shape.has_quorums.Given as goal

abbrev pub invariant-loop-q : goal.invariant-loop-q
invariant-loop-q l =
    same_list (quorum_members l.quorums) (centres_asking l.members)
    ≡ same_list (quorum_members (drop (length l.yielded) l.quorums)) (centres_asking (drop (length l.yielded) l.members))

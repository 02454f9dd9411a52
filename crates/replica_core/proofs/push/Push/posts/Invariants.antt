use Rattle.std.proofs.Common.{◌≡◌, ◌≤◌}
use Rattle.replica_core.proofs.Onward.{so_far}
use Rattle.replica_core.proofs.push.Push.posts.Given as goal

abbrev pub invariant-loop-d : goal.invariant-loop-d
invariant-loop-d l =
    (l.posts ≡ so_far l.number l.self.tag l.self.key l.self.stamp l.self.value.now l.onward l.d) × (l.d ≤ 16)

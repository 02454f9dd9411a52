use Rattle.std.proofs.Common.{◌≡◌, ◌≤◌}
use Rattle.relay_proxy.specs.Rule.{pushes_below}
use Rattle.relay_proxy.proofs.requests.push_to_each.Given as goal

abbrev pub invariant-loop-p : goal.invariant-loop-p
invariant-loop-p l =
    (l.posts.items ≡ pushes_below l.tag l.at.0 l.view l.stamp l.value l.p) × (l.p ≤ 16)

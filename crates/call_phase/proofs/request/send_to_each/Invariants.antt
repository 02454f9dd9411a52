use Rattle.std.proofs.Common.{◌≡◌, ◌≤◌}
use Rattle.call_phase.specs.Requests.{message_of, posts_from}
use Rattle.call_phase.proofs.request.send_to_each.Given as goal

abbrev pub invariant-loop-d : goal.invariant-loop-d
invariant-loop-d l =
    (l.posts.items ≡ posts_from l.set (message_of l.tag l.request) l.d) × (l.d ≤ 16)

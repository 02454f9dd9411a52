use Rattle.std.proofs.Common.{◌≡◌, ◌≤◌}
use Rattle.relay_proxy.specs.Routes.{set_below, is_onward}
use Rattle.relay_proxy.proofs.routes.onward.Given as goal

abbrev pub invariant-loop-d : goal.invariant-loop-d
invariant-loop-d l =
    (l.set ≡ set_below (is_onward l.policy l.member.0 l.p) l.d) × (l.d ≤ 16)

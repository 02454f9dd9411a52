use Rattle.std.proofs.Common.{◌≡◌, ◌==◌, ◌&&◌, find, drop}
use Rattle.span_base.specs.declared.policy.Hop.{Hop}
use Rattle.relay_proxy.proofs.routes.parent_in.Given as goal

abbrev pub invariant-loop-hop : goal.invariant-loop-hop
invariant-loop-hop l =
    find (λ (h : Hop). (h.member.0 == l.member.0) && (h.child.0 == l.child)) l.hops
    ≡ find (λ (h : Hop). (h.member.0 == l.member.0) && (h.child.0 == l.child)) (drop l.hop-index l.hops)

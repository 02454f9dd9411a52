use Rattle.std.proofs.Common.{◌≡◌, ◌≤◌, length, sym, ap, ◌∙◌, subst}
use Rattle.world_core.specs.State.{Proxy}
use Rattle.world_core.specs.Proxies.{keys_entered}
use Rattle.world_core.proofs.Pools.{entered_kept, length-calls_entered}
use Rattle.world_core.proofs.proxy.Proxy.enter.Goals as goal

pub invariant_of-self : goal.invariant_of-self
invariant_of-self c =
    let views_are : c.self.inside.views.items ≡ c.args.self.now.views = ap (λ (p : Proxy). p.views) c.self.view_is in
    let key : keys_entered c.args.beginning.call ≤ length c.self.inside.views.items = subst (λ n. keys_entered c.args.beginning.call ≤ n) (ap length (sym views_are)) c.requires.call in
    rw c.enter.ensures (record {
      views = c.self.invariant.views;
      slots = length-calls_entered c.self.inside.calls c.args.beginning.call ∙ c.self.invariant.slots;
      calls = entered_kept (length c.self.inside.views.items) c.self.inside.calls c.args.beginning.call key c.self.invariant.calls;
    })

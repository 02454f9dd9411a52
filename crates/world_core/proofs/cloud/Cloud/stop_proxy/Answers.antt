use Rattle.std.proofs.Common.{◌≡◌, ℕ, ◌+◌, ◌<◌, true, List, [], length, get_or, refl, sym, ap, ◌∙◌, arith}
use Rattle.world_core.specs.declared.event.Event.TheVariants.{StopProxy}
use Rattle.world_core.specs.State.{Proxy, Store, no_proxy, proxy_at}
use Rattle.world_core.specs.Step.{step, with_proxy}
use Rattle.world_core.specs.Stores.{FitsProxy}
use Rattle.world_core.specs.Ends.{Seen}
use Rattle.world_core.proofs.Outcomes.{quiet}
use Rattle.world_core.proofs.Started.{proxy_there, stop_absent, stop_goes}
use Rattle.world_core.proofs.StoresKept.{fits_at, store_proxy}
use Rattle.world_core.proofs.cloud.Cloud.stop_proxy.Goals as goal

pub returns-then-place-len : goal.returns-then-place-len
returns-then-place-len g c =
    let count : length c.self.inside.proxies.items ≡ length c.args.self.now.store.proxies = ap (λ (x : Seen). length x.store.proxies) c.self.view_is in
    (stop_absent c.args.self.now.store c.args.number (omega (arith, count, c.if-place-len.true, c.len.ensures)), refl)

pub invariant_of-self : goal.invariant_of-self
invariant_of-self g c =
    let was : Proxy = c.index_mut.result.now in
    let keys : ℕ = length c.self.inside.directory.sets in
    let within : c.args.number < length c.self.inside.proxies.items = omega (arith, c.if-place-len.false, c.len.ensures) in
    let old : FitsProxy keys c.self.inside.events was = fits_at keys c.self.inside.events c.self.inside.proxies.items c.args.number was c.self.invariant.proxies within c.index_mut.ensures.value in
    store_proxy _ c.self.inside.events (c.self.inside.events + 1) c.self.invariant (omega arith) (omega (arith, ap (λ (x : Seen). x.events) c.self.view_is, c.requires)) c.args.number c.stop.new.self (g.W.Wire.pushed c.self.inside.wire)
    (record { views = ap (λ (p : Proxy). length p.views) c.stop.ensures ∙ old.views; begun = omega (arith, ap (λ (p : Proxy). p.begun) c.stop.ensures, old.begun) })
    c.self.invariant.sent

pub returns : goal.returns
returns g c =
    let s : Store = c.args.self.now.store in
    let n : ℕ = c.args.number in
    let was : Proxy = c.index_mut.result.now in
    let proxies_are : c.self.inside.proxies.items ≡ s.proxies = ap (λ (x : Seen). x.store.proxies) c.self.view_is in
    let within : n < length c.self.inside.proxies.items = omega (arith, c.if-place-len.false, c.len.ensures) in
    let there : n < length s.proxies = omega (arith, within, ap length proxies_are) in
    let lent : get_or c.self.inside.proxies.items n no_proxy ≡ was = proxy_there c.self.inside.proxies.items n was within c.index_mut.ensures.value in
    let here : proxy_at s n ≡ was = ap (λ (xs : List Proxy). get_or xs n no_proxy) (sym proxies_are) ∙ lent in
    quiet c.args.self.now _ (step s (StopProxy n)) (record { store = with_proxy s n (record (proxy_at s n) { stopped = true }); marks = []; posts = [] }) c.none.result (stop_goes s n there) c.none.ensures
    (ap (λ (x : Seen). with_proxy x.store n c.stop.new.self) c.self.view_is ∙ ap (with_proxy s n) (c.stop.ensures ∙ ap (λ (p : Proxy). let q : Proxy = record p { stopped = true } in q) (sym here)))
    (ap (λ (x : Seen). x.journals) c.self.view_is) (ap (λ (x : Seen). x.events + 1) c.self.view_is)

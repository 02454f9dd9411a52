use Rattle.std.proofs.Common.{◌≡◌, ℕ, ◌+◌, ◌<◌, true, false, List, [], length, get_or, refl, sym, ap, ◌∙◌, arith}
use Rattle.world_core.specs.declared.event.Event.TheVariants.{GiveUp}
use Rattle.world_core.specs.State.{Proxy, Store, no_proxy, proxy_at}
use Rattle.world_core.specs.Starting.{Done}
use Rattle.world_core.specs.Step.{step, with_proxy}
use Rattle.world_core.specs.Proxies.{gave_up}
use Rattle.world_core.specs.Stores.{FitsProxy}
use Rattle.world_core.specs.Ends.{Seen}
use Rattle.world_core.proofs.Outcomes.{ignored, quiet, seen_same}
use Rattle.world_core.proofs.Started.{proxy_there, put_back, give_up_absent, give_up_stopped, gives_up_as, give_up_goes, gives_none, gives_some}
use Rattle.world_core.proofs.StoresKept.{fits_at, store_proxy}
use Rattle.world_core.proofs.cloud.Cloud.give_up.Goals as goal

pub returns-then-place-len : goal.returns-then-place-len
returns-then-place-len g c =
    let count : length c.self.inside.proxies.items ≡ length c.args.self.now.store.proxies = ap (λ (x : Seen). length x.store.proxies) c.self.view_is in
    (give_up_absent c.args.self.now.store c.args.number c.args.seq (omega (arith, count, c.if-place-len.true, c.len.ensures)), refl)

pub returns-then-is_stopped : goal.returns-then-is_stopped
returns-then-is_stopped g c =
    let s : Store = c.args.self.now.store in
    let proxies_are : c.self.inside.proxies.items ≡ s.proxies = ap (λ (x : Seen). x.store.proxies) c.self.view_is in
    let within : c.args.number < length c.self.inside.proxies.items = omega (arith, c.if-place-len.false, c.len.ensures) in
    let here : proxy_at s c.args.number ≡ c.index.result.now = ap (λ (xs : List Proxy). get_or xs c.args.number no_proxy) (sym proxies_are) ∙ proxy_there c.self.inside.proxies.items c.args.number c.index.result.now within c.index.ensures in
    let stopped : (proxy_at s c.args.number).stopped ≡ true = ap (λ (x : Proxy). x.stopped) here ∙ sym c.is_stopped.ensures ∙ c.if-is_stopped.true in
    ignored c.args.self.now _ (step s (GiveUp c.args.number c.args.seq)) c.none.result
    (give_up_stopped s c.args.number c.args.seq (omega (arith, within, ap length proxies_are)) stopped) c.none.ensures
    (ap (λ (x : Seen). x.store) c.self.view_is) (ap (λ (x : Seen). x.journals) c.self.view_is) (ap (λ (x : Seen). x.events + 1) c.self.view_is)

pub invariant_of-self-in_default : goal.invariant_of-self-in_default
invariant_of-self-in_default g c =
    let was : Proxy = c.index_mut.result.now in
    let keys : ℕ = length c.self.inside.directory.sets in
    let within : c.args.number < length c.self.inside.proxies.items = omega (arith, c.if-place-len.false, c.len.ensures) in
    let old : FitsProxy keys c.self.inside.events was = fits_at keys c.self.inside.events c.self.inside.proxies.items c.args.number was c.self.invariant.proxies within c.index_mut.ensures.value in
    store_proxy _ c.self.inside.events c.self.inside.events c.self.invariant (omega arith) c.self.invariant.few_events c.args.number c.give_up.new.self (g.W.Wire.pushed c.self.inside.wire)
    (record { views = ap length c.give_up.ensures.views ∙ old.views; begun = omega (arith, c.give_up.ensures.begun, old.begun) })
    c.self.invariant.sent

pub returns-in_default : goal.returns-in_default
returns-in_default g c =
    let s : Store = c.args.self.now.store in
    let n : ℕ = c.args.number in
    let was : Proxy = c.index_mut.result.now in
    let proxies_are : c.self.inside.proxies.items ≡ s.proxies = ap (λ (x : Seen). x.store.proxies) c.self.view_is in
    let within : n < length c.self.inside.proxies.items = omega (arith, c.if-place-len.false, c.len.ensures) in
    let there : n < length s.proxies = omega (arith, within, ap length proxies_are) in
    let lent : get_or c.self.inside.proxies.items n no_proxy ≡ was = proxy_there c.self.inside.proxies.items n was within c.index_mut.ensures.value in
    let here : proxy_at s n ≡ was = ap (λ (xs : List Proxy). get_or xs n no_proxy) (sym proxies_are) ∙ lent in
    let read : get_or c.self.inside.proxies.items n no_proxy ≡ c.index.result.now = proxy_there c.self.inside.proxies.items n c.index.result.now within c.index.ensures in
    let runs : was.stopped ≡ false = ap (λ (x : Proxy). x.stopped) (sym lent ∙ read) ∙ sym c.is_stopped.ensures ∙ c.if-is_stopped.false in
    let none = gives_none (gave_up was c.args.seq) was c.give_up.new.self c.give_up.result c.give_up.ensures.ends c.in_default.is in (
      give_up_goes s n c.args.seq was there here runs ∙ ap (gives_up_as s n) none.0,
      seen_same c.args.self.now _
          (ap (λ (x : Seen). with_proxy x.store n c.give_up.new.self) c.self.view_is ∙ ap (with_proxy s n) none.1 ∙ put_back s n was there here)
          (ap (λ (x : Seen). x.journals) c.self.view_is) (ap (λ (x : Seen). x.events) c.self.view_is),
    )

pub invariant_of-self-2 : goal.invariant_of-self-2
invariant_of-self-2 g c =
    let was : Proxy = c.index_mut.result.now in
    let keys : ℕ = length c.self.inside.directory.sets in
    let within : c.args.number < length c.self.inside.proxies.items = omega (arith, c.if-place-len.false, c.len.ensures) in
    let old : FitsProxy keys c.self.inside.events was = fits_at keys c.self.inside.events c.self.inside.proxies.items c.args.number was c.self.invariant.proxies within c.index_mut.ensures.value in
    store_proxy _ c.self.inside.events (c.self.inside.events + 1) c.self.invariant (omega arith) (omega (arith, ap (λ (x : Seen). x.events) c.self.view_is, c.requires)) c.args.number c.give_up.new.self (g.W.Wire.pushed c.self.inside.wire)
    (record { views = ap length c.give_up.ensures.views ∙ old.views; begun = omega (arith, c.give_up.ensures.begun, old.begun) })
    c.self.invariant.sent

pub returns : goal.returns
returns g c =
    let s : Store = c.args.self.now.store in
    let n : ℕ = c.args.number in
    let was : Proxy = c.index_mut.result.now in
    let proxies_are : c.self.inside.proxies.items ≡ s.proxies = ap (λ (x : Seen). x.store.proxies) c.self.view_is in
    let within : n < length c.self.inside.proxies.items = omega (arith, c.if-place-len.false, c.len.ensures) in
    let there : n < length s.proxies = omega (arith, within, ap length proxies_are) in
    let lent : get_or c.self.inside.proxies.items n no_proxy ≡ was = proxy_there c.self.inside.proxies.items n was within c.index_mut.ensures.value in
    let here : proxy_at s n ≡ was = ap (λ (xs : List Proxy). get_or xs n no_proxy) (sym proxies_are) ∙ lent in
    let read : get_or c.self.inside.proxies.items n no_proxy ≡ c.index.result.now = proxy_there c.self.inside.proxies.items n c.index.result.now within c.index.ensures in
    let runs : was.stopped ≡ false = ap (λ (x : Proxy). x.stopped) (sym lent ∙ read) ∙ sym c.is_stopped.ensures ∙ c.if-is_stopped.false in
    let some = gives_some (gave_up was c.args.seq) was c.give_up.new.self c.give_up.result c.in-Some.marks c.give_up.ensures.ends c.in-Some.is in
    let done : Done Proxy = some.0 in
    quiet c.args.self.now _ (step s (GiveUp n c.args.seq)) (record { store = with_proxy s n done.actor; marks = done.marks; posts = [] }) c.in-Some.marks
    (give_up_goes s n c.args.seq was there here runs ∙ ap (gives_up_as s n) some.1) some.3
    (ap (λ (x : Seen). with_proxy x.store n c.give_up.new.self) c.self.view_is ∙ ap (with_proxy s n) some.2)
    (ap (λ (x : Seen). x.journals) c.self.view_is) (ap (λ (x : Seen). x.events + 1) c.self.view_is)

use Rattle.std.proofs.Common.{◌≡◌, ℕ, ◌+◌, ◌<◌, Bool, true, false, List, length, get_or, refl, sym, ap, ◌∙◌, subst, arith}
use Rattle.std.specs.Prelude.{None, Ok, Err}
use Rattle.span_base.specs.declared.ids.KeyId.{KeyId}
use Rattle.wire_msg.specs.declared.outputs.Post.{Post}
use Rattle.epoch_directory.specs.State as directory
use Rattle.world_core.specs.declared.event.Event.TheVariants.{Start}
use Rattle.world_core.specs.State.{Proxy, Store, no_proxy, proxy_at}
use Rattle.world_core.specs.Starting.{Done, starts}
use Rattle.world_core.specs.Step.{step, fits_mode, proxy_did, with_proxy}
use Rattle.world_core.specs.Stores.{FitsProxy, AreSent, ActorEnds}
use Rattle.world_core.specs.Ends.{Seen}
use Rattle.world_core.proofs.Outcomes.{ignored, took, refused, unmoved}
use Rattle.world_core.proofs.Started.{proxy_there, put_back, start_absent, start_stopped, start_no_key, start_wrong_mode, start_goes}
use Rattle.world_core.proofs.StoresKept.{fits_at, store_proxy}
use Rattle.world_core.proofs.cloud.Cloud.start.Goals as goal

pub returns-then-place-len : goal.returns-then-place-len
returns-then-place-len g c =
    let count : length c.self.inside.proxies.items ≡ length c.args.self.now.store.proxies = ap (λ (x : Seen). length x.store.proxies) c.self.view_is in
    (start_absent c.args.self.now.store c.args.number c.args.key c.args.work.now (omega (arith, count, c.if-place-len.true, c.len.ensures)), refl)

pub returns-then-is_stopped : goal.returns-then-is_stopped
returns-then-is_stopped g c =
    let s : Store = c.args.self.now.store in
    let proxies_are : c.self.inside.proxies.items ≡ s.proxies = ap (λ (x : Seen). x.store.proxies) c.self.view_is in
    let within : c.args.number < length c.self.inside.proxies.items = omega (arith, c.if-place-len.false, c.len.ensures) in
    let here : proxy_at s c.args.number ≡ c.index.result.now = ap (λ (xs : List Proxy). get_or xs c.args.number no_proxy) (sym proxies_are) ∙ proxy_there c.self.inside.proxies.items c.args.number c.index.result.now within c.index.ensures in
    let stopped : (proxy_at s c.args.number).stopped ≡ true = ap (λ (x : Proxy). x.stopped) here ∙ sym c.is_stopped.ensures ∙ c.if-is_stopped.true in
    ignored c.args.self.now _ (step s (Start c.args.number c.args.key c.args.work.now)) c.none.result
    (start_stopped s c.args.number c.args.key c.args.work.now (omega (arith, within, ap length proxies_are)) stopped) c.none.ensures
    (ap (λ (x : Seen). x.store) c.self.view_is) (ap (λ (x : Seen). x.journals) c.self.view_is) (ap (λ (x : Seen). x.events + 1) c.self.view_is)

pub returns-then-key-from : goal.returns-then-key-from
returns-then-key-from g c =
    let s : Store = c.args.self.now.store in
    let proxies_are : c.self.inside.proxies.items ≡ s.proxies = ap (λ (x : Seen). x.store.proxies) c.self.view_is in
    let keys_are : length c.self.inside.directory.sets ≡ length s.directory.sets = ap (λ (x : Seen). length x.store.directory.sets) c.self.view_is in
    let within : c.args.number < length c.self.inside.proxies.items = omega (arith, c.if-place-len.false, c.len.ensures) in
    let here : proxy_at s c.args.number ≡ c.index.result.now = ap (λ (xs : List Proxy). get_or xs c.args.number no_proxy) (sym proxies_are) ∙ proxy_there c.self.inside.proxies.items c.args.number c.index.result.now within c.index.ensures in
    let runs : (proxy_at s c.args.number).stopped ≡ false = ap (λ (x : Proxy). x.stopped) here ∙ sym c.is_stopped.ensures ∙ c.if-is_stopped.false in
    (start_no_key s c.args.number c.args.key c.args.work.now (omega (arith, within, ap length proxies_are)) runs (omega (arith, keys_are, c.keys.ensures.value, c.from.ensures, c.if-key-from.true)), refl)

pub returns-then-not-fits_mode : goal.returns-then-not-fits_mode
returns-then-not-fits_mode g c =
    let s : Store = c.args.self.now.store in
    let proxies_are : c.self.inside.proxies.items ≡ s.proxies = ap (λ (x : Seen). x.store.proxies) c.self.view_is in
    let directory_is : c.self.inside.directory ≡ s.directory = ap (λ (x : Seen). x.store.directory) c.self.view_is in
    let keys_are : length c.self.inside.directory.sets ≡ length s.directory.sets = ap (λ (d : directory.State). length d.sets) directory_is in
    let within : c.args.number < length c.self.inside.proxies.items = omega (arith, c.if-place-len.false, c.len.ensures) in
    let here : proxy_at s c.args.number ≡ c.index.result.now = ap (λ (xs : List Proxy). get_or xs c.args.number no_proxy) (sym proxies_are) ∙ proxy_there c.self.inside.proxies.items c.args.number c.index.result.now within c.index.ensures in
    let runs : (proxy_at s c.args.number).stopped ≡ false = ap (λ (x : Proxy). x.stopped) here ∙ sym c.is_stopped.ensures ∙ c.if-is_stopped.false in
    let known : c.args.key < length s.directory.sets = omega (arith, keys_are, c.keys.ensures.value, c.from.ensures, c.if-key-from.false) in
    let mode : c.is_strong_key-strong.result ≡ directory.is_strong_key s.directory (record { 0 = c.args.key }) = c.is_strong_key-strong.ensures ∙ ap (λ (d : directory.State). directory.is_strong_key d (record { 0 = c.args.key })) directory_is in
    let wrong : fits_mode c.is_strong_key-strong.result c.args.work.now ≡ false = sym c.fits_mode.ensures ∙ c.if-not-fits_mode.true in
    (start_wrong_mode s c.args.number c.args.key c.args.work.now c.is_strong_key-strong.result (omega (arith, within, ap length proxies_are)) runs known mode wrong, refl)

pub returns-in-Ok : goal.returns-in-Ok
returns-in-Ok g c =
    let s : Store = c.args.self.now.store in
    let n : ℕ = c.args.number in
    let was : Proxy = c.index_mut-proxy.result.now in
    let strong : Bool = c.is_strong_key-strong.result in
    let key : KeyId = record { 0 = c.args.key } in
    let done : Done Proxy = starts strong n was key c.args.work.now in
    let now : List Post = g.W.Wire.pushed c.start_call.new.wire in
    let proxies_are : c.self.inside.proxies.items ≡ s.proxies = ap (λ (x : Seen). x.store.proxies) c.self.view_is in
    let directory_is : c.self.inside.directory ≡ s.directory = ap (λ (x : Seen). x.store.directory) c.self.view_is in
    let sent_is : g.W.Wire.pushed c.self.inside.wire ≡ s.sent = ap (λ (x : Seen). x.store.sent) c.self.view_is in
    let keys_are : length c.self.inside.directory.sets ≡ length s.directory.sets = ap (λ (d : directory.State). length d.sets) directory_is in
    let within : n < length c.self.inside.proxies.items = omega (arith, c.if-place-len.false, c.len.ensures) in
    let read : get_or c.self.inside.proxies.items n no_proxy ≡ c.index.result.now = proxy_there c.self.inside.proxies.items n c.index.result.now within c.index.ensures in
    let lent : get_or c.self.inside.proxies.items n no_proxy ≡ was = proxy_there c.self.inside.proxies.items n was within c.index_mut-proxy.ensures.value in
    let here : proxy_at s n ≡ was = ap (λ (xs : List Proxy). get_or xs n no_proxy) (sym proxies_are) ∙ lent in
    let runs : was.stopped ≡ false = ap (λ (x : Proxy). x.stopped) (sym lent ∙ read) ∙ sym c.is_stopped.ensures ∙ c.if-is_stopped.false in
    let known : c.args.key < length s.directory.sets = omega (arith, keys_are, c.keys.ensures.value, c.from.ensures, c.if-key-from.false) in
    let mode : strong ≡ directory.is_strong_key s.directory key = c.is_strong_key-strong.ensures ∙ ap (λ (d : directory.State). directory.is_strong_key d key) directory_is in
    let fits : fits_mode strong c.args.work.now ≡ true = sym c.fits_mode.ensures ∙ c.if-not-fits_mode.false in
    let goes : step s (Start n c.args.key c.args.work.now) ≡ proxy_did s n done = start_goes s n c.args.key c.args.work.now strong was (omega (arith, within, ap length proxies_are)) here runs known mode fits in
    took c.args.self.now _ None done (with_proxy s n) (step s (Start n c.args.key c.args.work.now)) was c.start_call.new.proxy now c.in-Ok.marks goes refl
    (subst (λ (sent : List Post). ActorEnds done was c.start_call.new.proxy sent now (Ok c.in-Ok.marks)) sent_is c.in-Ok.ensures.ends)
    (ap (λ (x : Seen). let z : Store = record (with_proxy x.store n c.start_call.new.proxy) { sent = now } in z) c.self.view_is)
    (ap (λ (x : Seen). x.events + 1) c.self.view_is) (ap (λ (x : Seen). x.journals) c.self.view_is)

pub returns-in-Err : goal.returns-in-Err
returns-in-Err g c =
    let s : Store = c.args.self.now.store in
    let n : ℕ = c.args.number in
    let was : Proxy = c.index_mut-proxy.result.now in
    let strong : Bool = c.is_strong_key-strong.result in
    let key : KeyId = record { 0 = c.args.key } in
    let done : Done Proxy = starts strong n was key c.args.work.now in
    let now : List Post = g.W.Wire.pushed c.start_call.new.wire in
    let proxies_are : c.self.inside.proxies.items ≡ s.proxies = ap (λ (x : Seen). x.store.proxies) c.self.view_is in
    let directory_is : c.self.inside.directory ≡ s.directory = ap (λ (x : Seen). x.store.directory) c.self.view_is in
    let sent_is : g.W.Wire.pushed c.self.inside.wire ≡ s.sent = ap (λ (x : Seen). x.store.sent) c.self.view_is in
    let keys_are : length c.self.inside.directory.sets ≡ length s.directory.sets = ap (λ (d : directory.State). length d.sets) directory_is in
    let within : n < length c.self.inside.proxies.items = omega (arith, c.if-place-len.false, c.len.ensures) in
    let read : get_or c.self.inside.proxies.items n no_proxy ≡ c.index.result.now = proxy_there c.self.inside.proxies.items n c.index.result.now within c.index.ensures in
    let lent : get_or c.self.inside.proxies.items n no_proxy ≡ was = proxy_there c.self.inside.proxies.items n was within c.index_mut-proxy.ensures.value in
    let here : proxy_at s n ≡ was = ap (λ (xs : List Proxy). get_or xs n no_proxy) (sym proxies_are) ∙ lent in
    let runs : was.stopped ≡ false = ap (λ (x : Proxy). x.stopped) (sym lent ∙ read) ∙ sym c.is_stopped.ensures ∙ c.if-is_stopped.false in
    let known : c.args.key < length s.directory.sets = omega (arith, keys_are, c.keys.ensures.value, c.from.ensures, c.if-key-from.false) in
    let mode : strong ≡ directory.is_strong_key s.directory key = c.is_strong_key-strong.ensures ∙ ap (λ (d : directory.State). directory.is_strong_key d key) directory_is in
    let fits : fits_mode strong c.args.work.now ≡ true = sym c.fits_mode.ensures ∙ c.if-not-fits_mode.false in
    let goes : step s (Start n c.args.key c.args.work.now) ≡ proxy_did s n done = start_goes s n c.args.key c.args.work.now strong was (omega (arith, within, ap length proxies_are)) here runs known mode fits in
    refused c.args.self.now _ None done (with_proxy s n) (step s (Start n c.args.key c.args.work.now)) was c.start_call.new.proxy now c.in-Err.fault goes refl
    (subst (λ (sent : List Post). ActorEnds done was c.start_call.new.proxy sent now (Err c.in-Err.fault)) sent_is c.in-Err.ensures.ends)
    (ap (λ (x : Seen). let z : Store = record (with_proxy x.store n c.start_call.new.proxy) { sent = now } in z) c.self.view_is)
    (put_back s n was (omega (arith, within, ap length proxies_are)) here)
    (ap (λ (x : Seen). x.events) c.self.view_is) (ap (λ (x : Seen). x.journals) c.self.view_is)

pub invariant_of-self-in-Ok : goal.invariant_of-self-in-Ok
invariant_of-self-in-Ok g c =
    let was : Proxy = c.index_mut-proxy.result.now in
    let keys : ℕ = length c.self.inside.directory.sets in
    let within : c.args.number < length c.self.inside.proxies.items = omega (arith, c.if-place-len.false, c.len.ensures) in
    let old : FitsProxy keys c.self.inside.events was = fits_at keys c.self.inside.events c.self.inside.proxies.items c.args.number was c.self.invariant.proxies within c.index_mut-proxy.ensures.value in
    let events : c.self.inside.events ≡ c.args.self.now.events = ap (λ (x : Seen). x.events) c.self.view_is in
    store_proxy _ c.self.inside.events (c.self.inside.events + 1) c.self.invariant (omega arith) (omega (arith, events, c.requires)) c.args.number c.start_call.new.proxy (g.W.Wire.pushed c.start_call.new.wire)
    (record { views = c.start_call.ensures.views ∙ old.views; begun = omega (arith, c.start_call.ensures.begun, old.begun) })
    (subst (λ n. AreSent n (g.W.Wire.pushed c.start_call.new.wire)) old.views c.start_call.ensures.sent)

pub invariant_of-self-in-Err : goal.invariant_of-self-in-Err
invariant_of-self-in-Err g c =
    let was : Proxy = c.index_mut-proxy.result.now in
    let keys : ℕ = length c.self.inside.directory.sets in
    let within : c.args.number < length c.self.inside.proxies.items = omega (arith, c.if-place-len.false, c.len.ensures) in
    let old : FitsProxy keys c.self.inside.events was = fits_at keys c.self.inside.events c.self.inside.proxies.items c.args.number was c.self.invariant.proxies within c.index_mut-proxy.ensures.value in
    let same : c.start_call.new.proxy ≡ was = (unmoved (starts c.is_strong_key-strong.result c.args.number was (record { 0 = c.args.key }) c.args.work.now) was c.start_call.new.proxy (g.W.Wire.pushed c.self.inside.wire) (g.W.Wire.pushed c.start_call.new.wire) c.in-Err.fault c.in-Err.ensures.ends).0 in
    store_proxy _ c.self.inside.events c.self.inside.events c.self.invariant (omega arith) c.self.invariant.few_events c.args.number c.start_call.new.proxy (g.W.Wire.pushed c.start_call.new.wire)
    (subst (FitsProxy keys c.self.inside.events) (sym same) old)
    (subst (λ n. AreSent n (g.W.Wire.pushed c.start_call.new.wire)) old.views c.start_call.ensures.sent)

-- The proxy that is read is the one that is chosen.
use Rattle.std.proofs.Common.{◌≡◌, ℕ, Bool, true, false, ltb, length, refl, sym, ap}
use Rattle.std.specs.Prelude.{slice_get, Some, None}
use Rattle.std.proofs.Math.ListN.{get_or-eq_default}
use Rattle.std.proofs.lemmas.Bool.{ltb-false, ltb-true}
use Rattle.std.proofs.lemmas.Option.{get_or_from_slice_get, slice_get-get_or}
use Rattle.world_core.specs.State.{Store, Proxy, no_proxy, proxy_at}
use Rattle.run_generator.specs.Chosen.{late_call}

pub proxy_there : (store : Store) (p : ℕ) (proxy : Proxy) → slice_get store.proxies p ≡ Some proxy → proxy_at store p ≡ proxy
proxy_there store p proxy is = get_or_from_slice_get store.proxies p proxy no_proxy is

-- where there is no proxy, no call is late
pub none_late : (store : Store) (p : ℕ) → slice_get store.proxies p ≡ None → None ≡ late_call (proxy_at store p)
none_late store p is = by (ltb p (length store.proxies)) refl is
  where
    by : (b : Bool) → ltb p (length store.proxies) ≡ b → slice_get store.proxies p ≡ None → None ≡ late_call (proxy_at store p)
    by true e none = absurd (let there : slice_get store.proxies p ≡ Some (proxy_at store p) = slice_get-get_or store.proxies p no_proxy (ltb-true p (length store.proxies) e) in cc)
    by false e none = ap late_call (sym (get_or-eq_default store.proxies no_proxy (ltb-false p (length store.proxies) e)))

-- An actor that is stopped stays so, and what was sent keeps its number.
use Rattle.std.proofs.Common.{◌≡◌, ◌⊎◌, inl, inr, ℕ, true, false, List, [], ◌∷◌, ◌++◌, zero, suc, refl, sym, ap, ◌∙◌, subst}
use Rattle.std.specs.Prelude.{slice_get, Some}
use Rattle.wire_msg.specs.declared.outputs.Post.{Post}
use Rattle.replica_core.specs.Rule as replica
use Rattle.slot_pool.specs.Slots.{after_take}
use Rattle.world_core.specs.State.{Store, Replica, Proxy, no_replica, no_proxy, replica_at, proxy_at}
use Rattle.world_core.specs.Step.{Happening, with_proxy, with_replica}
use Rattle.register_law.specs.Cases.{Happened, ignored, replica_stopped, proxy_stopped, refused_at_once, started, replica_took, directory_took, proxy_learned, call_took, gave_up, published, not_published}
use Rattle.register_law.proofs.Kept.{set_cases}
use Rattle.register_law.proofs.Basics.{sent_behind}

-- of a replica's place that was changed
place : (s : Store) (at d : ℕ) (new : Replica) → (replica_at s d).stopped ≡ true → (d ≡ at → new.stopped ≡ true) → (replica_at (with_replica s at new) d).stopped ≡ true
place s at d new was f = elim (set_cases s.replicas at d new no_replica) as (λ _. (replica_at (with_replica s at new) d).stopped ≡ true) [
  | inl same ↦ ap (λ (x : Replica). x.stopped) same ∙ was
  | inr here ↦ ap (λ (x : Replica). x.stopped) here.1 ∙ f here.0
]

pub replica_stays_stopped : (s : Store) (h : Happening) → Happened s h → (d : ℕ) → (replica_at s d).stopped ≡ true → (replica_at h.store d).stopped ≡ true
replica_stays_stopped s h (ignored is) d was = ap (λ (x : Happening). (replica_at x.store d).stopped) is ∙ was
replica_stays_stopped s h (replica_stopped at is) d was = ap (λ (x : Happening). (replica_at x.store d).stopped) is ∙ place s at d (record { stopped = true; state = (replica_at s at).state }) was (λ _. refl)
replica_stays_stopped s h (proxy_stopped p is) d was = ap (λ (x : Happening). (replica_at x.store d).stopped) is ∙ was
replica_stays_stopped s h (refused_at_once p key work reply lt dead is) d was = ap (λ (x : Happening). (replica_at x.store d).stopped) is ∙ was
replica_stays_stopped s h (started p key work st) d was = ap (λ (x : Happening). (replica_at x.store d).stopped) st.is ∙ was
replica_stays_stopped s h (replica_took at message taken is) d was =
    ap (λ (x : Happening). (replica_at x.store d).stopped) is
    ∙ place s at d (record { stopped = false; state = (replica.step (replica_at s at).state message).state }) was (λ same. absurd (let runs = taken.runs in let z = subst (λ n. (replica_at s n).stopped ≡ true) same was in cc))
replica_stays_stopped s h (directory_took message sent is) d was = ap (λ (x : Happening). (replica_at x.store d).stopped) is ∙ was
replica_stays_stopped s h (proxy_learned p message sent is) d was = ap (λ (x : Happening). (replica_at x.store d).stopped) is ∙ was
replica_stays_stopped s h (call_took p message call took) d was = ap (λ (x : Happening). (replica_at x.store d).stopped) took.is ∙ was
replica_stays_stopped s h (gave_up p handle call live is) d was = ap (λ (x : Happening). (replica_at x.store d).stopped) is ∙ was
replica_stays_stopped s h (published table right is) d was = ap (λ (x : Happening). (replica_at x.store d).stopped) is ∙ was
replica_stays_stopped s h (not_published cause is) d was = ap (λ (x : Happening). (replica_at x.store d).stopped) is ∙ was

-- of a proxy's place that was changed
at_place : (s : Store) (at p : ℕ) (new : Proxy) → (proxy_at s p).stopped ≡ true → (new.stopped ≡ (proxy_at s at).stopped) ⊎ (new.stopped ≡ true) → (proxy_at (with_proxy s at new) p).stopped ≡ true
at_place s at p new was keeps = elim (set_cases s.proxies at p new no_proxy) as (λ _. (proxy_at (with_proxy s at new) p).stopped ≡ true) [
  | inl same ↦ ap (λ (x : Proxy). x.stopped) same ∙ was
  | inr here ↦ ap (λ (x : Proxy). x.stopped) here.1 ∙ elim keeps as (λ _. new.stopped ≡ true) [ inl same ↦ same ∙ subst (λ n. (proxy_at s n).stopped ≡ true) here.0 was | inr now ↦ now ]
]

pub proxy_stays_stopped : (s : Store) (h : Happening) → Happened s h → (p : ℕ) → (proxy_at s p).stopped ≡ true → (proxy_at h.store p).stopped ≡ true
proxy_stays_stopped s h (ignored is) p was = ap (λ (x : Happening). (proxy_at x.store p).stopped) is ∙ was
proxy_stays_stopped s h (replica_stopped at is) p was = ap (λ (x : Happening). (proxy_at x.store p).stopped) is ∙ was
proxy_stays_stopped s h (proxy_stopped at is) p was = ap (λ (x : Happening). (proxy_at x.store p).stopped) is ∙ at_place s at p (record (proxy_at s at) { stopped = true }) was (inr refl)
proxy_stays_stopped s h (refused_at_once at key work reply lt dead is) p was = ap (λ (x : Happening). (proxy_at x.store p).stopped) is ∙ at_place s at p _ was (inl refl)
proxy_stays_stopped s h (started at key work st) p was = ap (λ (x : Happening). (proxy_at x.store p).stopped) st.is ∙ at_place s at p _ was (inl refl)
proxy_stays_stopped s h (replica_took at message taken is) p was = ap (λ (x : Happening). (proxy_at x.store p).stopped) is ∙ was
proxy_stays_stopped s h (directory_took message sent is) p was = ap (λ (x : Happening). (proxy_at x.store p).stopped) is ∙ was
proxy_stays_stopped s h (proxy_learned at message sent is) p was = ap (λ (x : Happening). (proxy_at x.store p).stopped) is ∙ at_place s at p _ was (inl refl)
proxy_stays_stopped s h (call_took at message call took) p was = ap (λ (x : Happening). (proxy_at x.store p).stopped) took.is ∙ at_place s at p _ was (inl refl)
proxy_stays_stopped s h (gave_up at handle call live is) p was = ap (λ (x : Happening). (proxy_at x.store p).stopped) is ∙ at_place s at p (record (proxy_at s at) { calls = after_take (proxy_at s at).calls handle }) was (inl refl)
proxy_stays_stopped s h (published table right is) p was = ap (λ (x : Happening). (proxy_at x.store p).stopped) is ∙ was
proxy_stays_stopped s h (not_published cause is) p was = ap (λ (x : Happening). (proxy_at x.store p).stopped) is ∙ was

front_gets : (xs ys : List Post) (n : ℕ) (post : Post) → slice_get xs n ≡ Some post → slice_get (xs ++ ys) n ≡ Some post
front_gets [] ys n post e = absurd (cc)
front_gets (x ∷ xs) ys zero post e = e
front_gets (x ∷ xs) ys (suc n) post e = front_gets xs ys n post e

-- what was sent keeps its number
pub sent_gets : (s : Store) (h : Happening) → Happened s h → (n : ℕ) (post : Post) → slice_get s.sent n ≡ Some post → slice_get h.store.sent n ≡ Some post
sent_gets s h is n post e = subst (λ (x : List Post). slice_get x n ≡ Some post) (sym (sent_behind s h is)) (front_gets s.sent h.posts n post e)

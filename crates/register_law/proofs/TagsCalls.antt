-- Which calls live after an event, and what each was before it.
use Rattle.std.proofs.Common.{◌≡◌, inl, inr, ℕ, ◌<◌, Bool, true, false, refl, sym, ap, ◌∙◌, subst, ◌+◌, ◌≤◌, arith, if◌then◌else◌, length, Option, Some, None, option_map}
use Rattle.register_law.proofs.Words.{KeyId, Message, Reply, same_handle, after_take, item_at, with_item, Handle, Work, Taken, key_of_call, take, learned, Proxy, Store, no_proxy, proxy_at, view_at, Happening, calls_with, handle_in, with_proxy, LiveCall, CallTook, Happened, Started, call_took, gave_up, next_call, proxy_learned, proxy_stopped, refused_at_once, started, IsLiveAt, Call, TagsTellApart, tag_of_call, tag_of, Outputs, Tag, next_tag, next_handle, first_tag, ticket_of, is_strong_key, WasSent, IsNumbered, IsSamePoint, get_or-set_same, length-set}
use Rattle.slot_pool.proofs.HistoryLemmas.{put_map, take_map, write_map}
use Rattle.register_law.proofs.Kept.{set_cases}
use Rattle.register_law.proofs.Basics.{both_equal, is_itself, is_made}
use Rattle.register_law.proofs.Growth.{calls_grow}
use Rattle.register_law.proofs.TagsSends.{GoesOn, stays, turns, ends}
use Rattle.register_law.proofs.TagsSteps.{may_ask, take_goes_on, Opens, call_opens}
use Rattle.register_law.proofs.CallsRows.{OpensAs, opens}
use Rattle.std.proofs.lemmas.Option.{same_Some, none-some}
use Rattle.std.proofs.lemmas.Bool.{cond-true}

-- what a live call makes of a message
abbrev pub taken_of : Store → ℕ → Message → LiveCall → Taken
taken_of s p message call = take call message (view_at (learned (proxy_at s p) message).views (key_of_call call)) (learned (proxy_at s p) message).seen

pub data LiveIs (s : Store) (h : Happening) (p : ℕ) (handle : Handle) (call : LiveCall) : Type 0 where
  was_live : IsLiveAt s p handle call → LiveIs s h p handle call
  begins : (key : KeyId) (work : Work) (st : Started s p key work h) → handle ≡ st.handle → call ≡ st.taken.state → LiveIs s h p handle call
  went_on : (message : Message) (old : LiveCall) → CallTook s p message old h → handle ≡ handle_in message → call ≡ (taken_of s p message old).state → (taken_of s p message old).out.end ≡ None → LiveIs s h p handle call

-- of a proxy's place that was changed
pub proxy_cases : (s : Store) (at p : ℕ) (new : Proxy) (P : Proxy → Type 0) → P (proxy_at s p) → (p ≡ at → P new) → P (proxy_at (with_proxy s at new) p)
proxy_cases s at p new P same changed =
    elim (set_cases s.proxies at p new no_proxy) as (λ _. P (proxy_at (with_proxy s at new) p)) [
      | inl e ↦ subst P (sym e) same
      | inr e ↦ subst P (sym e.1) (changed e.0)
    ]

pub proxy_is : (s : Store) (p : ℕ) (new : Proxy) → p < length s.proxies → proxy_at (with_proxy s p new) p ≡ new
proxy_is s p new lt = get_or-set_same s.proxies p new no_proxy lt

pub same_handle_is : (one other : Handle) → same_handle one other ≡ true → other ≡ one
same_handle_is one other h =
    let two = both_equal one.slot other.slot one.generation other.generation h in
    ap (λ n. let x : Handle = record { slot = n; generation = other.generation } in x) (sym two.0) ∙ ap (λ n. let x : Handle = record { slot = one.slot; generation = n } in x) (sym two.1)

-- of what stands at a place after a change, told by a test
pub by_test : {T : Type 0} → (X : Type 0) (b : Bool) (one other new : Option T) → new ≡ (if b then one else other) → (b ≡ true → new ≡ one → X) → (new ≡ other → X) → X
by_test {T} X true one other new is f g = f refl is
by_test {T} X false one other new is f g = g is

mapped_is : {T : Type 0} → (item call : T) (was : Option T) → option_map (λ _. item) was ≡ Some call → call ≡ item
mapped_is {T} item call (Some old) e = cc
mapped_is {T} item call None e = absurd (cc)

started_live : (s : Store) (h : Happening) (p : ℕ) (key : KeyId) (work : Work) (st : Started s p key work h) (handle : Handle) (call : LiveCall)
    → item_at (with_item (proxy_at s p).calls st.handle st.taken.state) handle ≡ Some call → LiveIs s h p handle call
started_live s h p key work st handle call e =
    by_test (LiveIs s h p handle call) (same_handle st.handle handle) (Some st.taken.state) (item_at (proxy_at s p).calls handle) (item_at (with_item (proxy_at s p).calls st.handle st.taken.state) handle) (put_map (proxy_at s p).calls st.handle st.taken.state st.free handle)
    (λ same is. begins key work st (same_handle_is st.handle handle same) (same_Some call st.taken.state (sym e ∙ is))) (λ was. was_live (sym was ∙ e))

took_live : (s : Store) (h : Happening) (p : ℕ) (message : Message) (old : LiveCall) → CallTook s p message old h → (o : Option Reply) → (taken_of s p message old).out.end ≡ o → (handle : Handle) (call : LiveCall)
    → item_at (calls_with (proxy_at s p).calls (handle_in message) (taken_of s p message old).state o) handle ≡ Some call → LiveIs s h p handle call
took_live s h p message old took None on handle call e =
    by_test (LiveIs s h p handle call) (same_handle (handle_in message) handle) _ (item_at (proxy_at s p).calls handle) _ (write_map (proxy_at s p).calls (handle_in message) (taken_of s p message old).state handle)
    (λ same is. went_on message old took (same_handle_is (handle_in message) handle same) (mapped_is (taken_of s p message old).state call (item_at (proxy_at s p).calls handle) (sym is ∙ e)) on) (λ was. was_live (sym was ∙ e))
took_live s h p message old took (Some reply) on handle call e =
    by_test (LiveIs s h p handle call) (same_handle (handle_in message) handle) None (item_at (proxy_at s p).calls handle) _ (take_map (proxy_at s p).calls (handle_in message) handle)
    (λ same is. absurd (none-some call (sym is ∙ e))) (λ was. was_live (sym was ∙ e))

-- what lives at a proxy
abbrev Lives : Store → Happening → ℕ → Handle → LiveCall → Proxy → Type 0
Lives s h p handle call x = item_at x.calls handle ≡ Some call → LiveIs s h p handle call

pub live_after : (s : Store) (h : Happening) → Happened s h → (p : ℕ) (handle : Handle) (call : LiveCall) → IsLiveAt h.store p handle call → LiveIs s h p handle call
live_after s h (proxy_stopped at is) p handle call e =
    proxy_cases s at p (record (proxy_at s at) { stopped = true }) (Lives s h p handle call) (λ z. was_live z) (λ same z. was_live (subst (λ (n : ℕ). item_at (proxy_at s n).calls handle ≡ Some call) (sym same) z))
    (subst (λ (x : Happening). IsLiveAt x.store p handle call) is e)
live_after s h (refused_at_once at key work reply lt dead is) p handle call e =
    proxy_cases s at p (record (proxy_at s at) { begun = (next_call s at).seq }) (Lives s h p handle call) (λ z. was_live z) (λ same z. was_live (subst (λ (n : ℕ). item_at (proxy_at s n).calls handle ≡ Some call) (sym same) z))
    (subst (λ (x : Happening). IsLiveAt x.store p handle call) is e)
live_after s h (started at key work st) p handle call e =
    proxy_cases s at p _ (Lives s h p handle call) (λ z. was_live z)
    (λ same z. subst (λ (n : ℕ). LiveIs s h n handle call) (sym same) (started_live s h at key work st handle call z))
    (subst (λ (x : Happening). IsLiveAt x.store p handle call) st.is e)
live_after s h (proxy_learned at message sent is) p handle call e =
    proxy_cases s at p _ (Lives s h p handle call) (λ z. was_live z) (λ same z. was_live (subst (λ (n : ℕ). item_at (proxy_at s n).calls handle ≡ Some call) (sym same) z))
    (subst (λ (x : Happening). IsLiveAt x.store p handle call) is e)
live_after s h (call_took at message old took) p handle call e =
    proxy_cases s at p _ (Lives s h p handle call) (λ z. was_live z)
    (λ same z. subst (λ (n : ℕ). LiveIs s h n handle call) (sym same) (took_live s h at message old took (taken_of s at message old).out.end refl handle call z))
    (subst (λ (x : Happening). IsLiveAt x.store p handle call) took.is e)
live_after s h (gave_up at given old live is) p handle call e =
    proxy_cases s at p (record (proxy_at s at) { calls = after_take (proxy_at s at).calls given }) (Lives s h p handle call) (λ z. was_live z)
    (λ same z. was_live (subst (λ (n : ℕ). item_at (proxy_at s n).calls handle ≡ Some call) (sym same)
    (by_test (item_at (proxy_at s at).calls handle ≡ Some call) (same_handle given handle) None (item_at (proxy_at s at).calls handle) _ (take_map (proxy_at s at).calls given handle) (λ _ gone. absurd (none-some call (sym gone ∙ z))) (λ was. sym was ∙ z))))
    (subst (λ (x : Happening). IsLiveAt x.store p handle call) is e)
live_after s h o p handle call e = was_live (subst (λ (x : Happening). IsLiveAt x.store p handle call) (is_made s h o) e)

-- a call that took a message and lives on
pub record LivesOn (s : Store) (p : ℕ) (message : Message) (old call : LiveCall) : Type 0 where
  pub is : call ≡ (taken_of s p message old).state
  pub no_end : (taken_of s p message old).out.end ≡ None

on_at : (s : Store) (p : ℕ) (message : Message) (old call : LiveCall) (o : Option Reply) → (taken_of s p message old).out.end ≡ o
    → item_at (calls_with (proxy_at s p).calls (handle_in message) (taken_of s p message old).state o) (handle_in message) ≡ Some call → LivesOn s p message old call
on_at s p message old call None is e = record {
  is = mapped_is (taken_of s p message old).state call (item_at (proxy_at s p).calls (handle_in message))
      (sym (write_map (proxy_at s p).calls (handle_in message) (taken_of s p message old).state (handle_in message) ∙ cond-true _ _ _ (is_itself (handle_in message).slot (handle_in message).generation)) ∙ e);
  no_end = is;
}
on_at s p message old call (Some reply) is e =
    absurd (none-some call (sym (take_map (proxy_at s p).calls (handle_in message) (handle_in message) ∙ cond-true _ _ _ (is_itself (handle_in message).slot (handle_in message).generation)) ∙ e))

-- what lives after the event under the handle of the message that a call took
pub lives_on : (s : Store) (h : Happening) (p : ℕ) (message : Message) (old call : LiveCall) → CallTook s p message old h → p < length s.proxies → IsLiveAt h.store p (handle_in message) call → LivesOn s p message old call
lives_on s h p message old call took lt e =
    let here : IsLiveAt (with_proxy s p _) p (handle_in message) call = subst (λ (x : Happening). IsLiveAt x.store p (handle_in message) call) took.is e in
    on_at s p message old call (taken_of s p message old).out.end refl (subst (λ (x : Proxy). item_at x.calls (handle_in message) ≡ Some call) (proxy_is s p _ lt) here)

-- where a call lives there is a proxy
pub lives_within : (s : Store) → TagsTellApart s → (p : ℕ) (handle : Handle) (call : LiveCall) → IsLiveAt s p handle call → p < length s.proxies
lives_within s tags p handle call live = let n = tags.live_numbered p handle call live in subst (λ (x : ℕ). x < length s.proxies) n.1 n.0.proxy

-- one call lives in one place
pub same_place : (s : Store) → TagsTellApart s → (p q : ℕ) (a b : Handle) (first second : LiveCall) → IsLiveAt s p a first → IsLiveAt s q b second → (tag_of_call first).call ≡ (tag_of_call second).call → (p ≡ q) × (a ≡ b)
same_place s tags p q a b first second one other same =
    let pq : p ≡ q = sym (tags.live_numbered p a first one).1 ∙ ap (λ (c : Call). c.proxy) same ∙ (tags.live_numbered q b second other).1 in
    (pq, tags.live_once p a b first second one (subst (λ (n : ℕ). IsLiveAt s n b second) (sym pq) other) same)

-- ---- a call that lives after an event lived before it, in the same phase or an earlier one, or is the next one of its proxy; and what a call sends has a phase in which nothing was sent

-- what a call begins with
pub started_as : (s : Store) (p : ℕ) (key : KeyId) (work : Work) (h : Happening) (st : Started s p key work h)
    → OpensAs (first_tag (next_call s p) st.handle) (proxy_at s p).at (view_at (proxy_at s p).views key) (ticket_of (proxy_at s p) (view_at (proxy_at s p).views key) (next_call s p)) (is_strong_key s key) work st.taken
started_as s p key work h st =
    opens (is_strong_key s key) (first_tag (next_call s p) st.handle) (proxy_at s p).at (view_at (proxy_at s p).views key) (ticket_of (proxy_at s p) (view_at (proxy_at s p).views key) (next_call s p)) work st.taken st.first

pub started_opens : (s : Store) (p : ℕ) (key : KeyId) (work : Work) (h : Happening) (st : Started s p key work h)
    → Opens (is_strong_key s key) (ticket_of (proxy_at s p) (view_at (proxy_at s p).views key) (next_call s p)) (first_tag (next_call s p) st.handle) (view_at (proxy_at s p).views key).key st.taken
started_opens s p key work h st =
    call_opens (is_strong_key s key) (first_tag (next_call s p) st.handle) (proxy_at s p).at (view_at (proxy_at s p).views key) (ticket_of (proxy_at s p) (view_at (proxy_at s p).views key) (next_call s p)) work st.taken st.first

-- a call after an event, and what it was before it
pub data LiveFrom (s : Store) (h : Happening) (p : ℕ) (handle : Handle) (call : LiveCall) : Type 0 where
  older : (old : LiveCall) → IsLiveAt s p handle old → (tag_of_call call).call ≡ (tag_of_call old).call → key_of_call call ≡ key_of_call old → (tag_of_call old).phase ≤ (tag_of_call call).phase → LiveFrom s h p handle call
  newer : (key : KeyId) (work : Work) → Started s p key work h → next_handle (proxy_at s p).calls ≡ Some handle → tag_of_call call ≡ first_tag (next_call s p) handle → key_of_call call ≡ (view_at (proxy_at s p).views key).key → LiveFrom s h p handle call

-- from what a call becomes
took_from : (s : Store) (h : Happening) (p : ℕ) (handle : Handle) (old call : LiveCall) (out : Outputs) → IsLiveAt s p handle old → GoesOn (may_ask old) (tag_of_call old) (key_of_call old) call out → LiveFrom s h p handle call
took_from s h p handle old call out live (stays key tag none) = older old live (ap (λ (t : Tag). t.call) tag) key (let e = ap (λ (t : Tag). t.phase) tag in omega arith)
took_from s h p handle old call out live (turns key tag sends) = older old live (ap (λ (t : Tag). t.call) tag) key (let e : (tag_of_call call).phase ≡ (tag_of_call old).phase + 1 = ap (λ (t : Tag). t.phase) tag in omega arith)
took_from s h p handle old call out live (ends key tag some sends) = older old live (ap (λ (t : Tag). t.call) tag) key (let e = ap (λ (t : Tag). t.phase) tag in omega arith)

from_live : (s : Store) (h : Happening) (p : ℕ) (handle : Handle) (call : LiveCall) → LiveIs s h p handle call → LiveFrom s h p handle call
from_live s h p handle call (was_live live) = older call live refl refl (omega arith)
from_live s h p handle call (begins key work st at is) =
    subst (λ (x : LiveCall). LiveFrom s h p handle x) (sym is) (subst (λ (x : Handle). LiveFrom s h p x st.taken.state) (sym at) (newer key work st st.free (started_opens s p key work h st).tag_is (started_opens s p key work h st).key_is))
from_live s h p handle call (went_on message old took at is _) =
    subst (λ (x : LiveCall). LiveFrom s h p handle x) (sym is)
    (subst (λ (x : Handle). LiveFrom s h p x (taken_of s p message old).state) (sym at)
    (took_from s h p (handle_in message) old (taken_of s p message old).state (taken_of s p message old).out took.live
    (take_goes_on old message (view_at (learned (proxy_at s p) message).views (key_of_call old)) (learned (proxy_at s p) message).seen)))

pub live_from : (s : Store) (h : Happening) → Happened s h → (p : ℕ) (handle : Handle) (call : LiveCall) → IsLiveAt h.store p handle call → LiveFrom s h p handle call
live_from s h is p handle call live = from_live s h p handle call (live_after s h is p handle call live)

-- there are as many proxies as there were
pub proxies_stay : (s : Store) (h : Happening) → Happened s h → length h.store.proxies ≡ length s.proxies
proxies_stay s h (proxy_stopped p is) = ap (λ (x : Happening). length x.store.proxies) is ∙ length-set s.proxies p _
proxies_stay s h (refused_at_once p key work reply lt dead is) = ap (λ (x : Happening). length x.store.proxies) is ∙ length-set s.proxies p _
proxies_stay s h (started p key work st) = ap (λ (x : Happening). length x.store.proxies) st.is ∙ length-set s.proxies p _
proxies_stay s h (proxy_learned p message sent is) = ap (λ (x : Happening). length x.store.proxies) is ∙ length-set s.proxies p _
proxies_stay s h (call_took p message call took) = ap (λ (x : Happening). length x.store.proxies) took.is ∙ length-set s.proxies p _
proxies_stay s h (gave_up p handle call live is) = ap (λ (x : Happening). length x.store.proxies) is ∙ length-set s.proxies p _
proxies_stay s h o = ap (λ (x : Happening). length x.store.proxies) (is_made s h o)

-- a call that was begun stays one
pub numbered_stays : (s : Store) (h : Happening) → Happened s h → (tag : Tag) → IsNumbered s tag → IsNumbered h.store tag
numbered_stays s h is tag n =
    let many = proxies_stay s h is in
    let more = calls_grow s h is tag.call.proxy in
    let lt = n.proxy in
    let le = n.begun in
    record { proxy = omega arith; some = n.some; begun = omega arith; phase = n.phase }

-- a later phase of such a call
pub next_numbered : (s : Store) (tag : Tag) → IsNumbered s tag → IsNumbered s (next_tag tag)
next_numbered s tag n = record { proxy = n.proxy; some = n.some; begun = n.begun; phase = let k = n.phase in omega arith }

-- the next call is one
pub next_is_numbered : (s : Store) (p : ℕ) (key : KeyId) (work : Work) (h : Happening) (st : Started s p key work h) → IsNumbered h.store (first_tag (next_call s p) st.handle)
next_is_numbered s p key work h st =
    let many : length h.store.proxies ≡ length s.proxies = proxies_stay s h (started p key work st) in
    let lt = st.exists in
    let at : (proxy_at (with_proxy s p _) p).begun ≡ (proxy_at s p).begun + 1 = ap (λ (x : Proxy). x.begun) (proxy_is s p _ lt) in
    let there : (proxy_at h.store p).begun ≡ (proxy_at s p).begun + 1 = ap (λ (x : Happening). (proxy_at x.store p).begun) st.is ∙ at in
    record { proxy = omega arith; some = omega arith; begun = omega arith; phase = omega arith }

-- no call that was begun is the next one
pub next_is_none : (s : Store) (p : ℕ) (tag : Tag) (call : Call) → IsNumbered s tag → tag.call ≡ call → call ≡ next_call s p → ⊥
next_is_none s p tag call n is same =
    let all : tag.call ≡ next_call s p = is ∙ same in
    let le : (next_call s p).seq ≤ (proxy_at s (next_call s p).proxy).begun = subst (λ (c : Call). c.seq ≤ (proxy_at s c.proxy).begun) all n.begun in
    omega arith

-- nothing was sent under this call and phase
abbrev pub IsFresh : Store → Tag → Type 0
IsFresh s tag = (old : Message) → WasSent s old → IsSamePoint (tag_of old) tag → ⊥

pub start_is_fresh : (s : Store) (p : ℕ) (handle : Handle) → TagsTellApart s → IsFresh s (first_tag (next_call s p) handle)
start_is_fresh s p handle tags old sent same = next_is_none s p (tag_of old) (next_call s p) (tags.sent_numbered old sent) same.call refl

pub phase_is_fresh : (s : Store) (p : ℕ) (handle : Handle) (call : LiveCall) → TagsTellApart s → IsLiveAt s p handle call → IsFresh s (next_tag (tag_of_call call))
phase_is_fresh s p handle call tags live old sent same =
    let le = tags.phase_bound p handle call old live sent same.call in
    let e : (tag_of old).phase ≡ (tag_of_call call).phase + 1 = same.phase in
    omega arith

-- Every event keeps it that tags tell calls and phases apart.
use Rattle.std.proofs.Common.{◌≡◌, ◌⊎◌, inl, inr, ℕ, ◌<◌, ◌≤◌, List, refl, sym, ap, ◌∙◌, subst, arith, length, None, IsSome, Contains, Option, Some}
use Rattle.register_law.proofs.Words.{Call, KeyId, Stamp, tag_of, Message, Post, Tag, next_tag, Handle, key_of_call, tag_of_call, first_tag, Store, Happening, handle_in, LiveCall, CallTook, Happened, next_call, WasSent, IsLiveAt, IsNumbered, TagsTellApart, request_key, View, proxy_at, view_at, views_after, views_with}
use Rattle.register_law.proofs.Growth.{directory_grows}
use Rattle.register_law.proofs.TagsCalls.{LiveIs, was_live, begins, went_on, taken_of, live_after, lives_on, LiveFrom, older, newer, live_from, numbered_stays, next_numbered, next_is_numbered, next_is_none, started_opens, proxies_stay}
use Rattle.register_law.proofs.TagsSends.{GoesOn, stays, turns, ends}
use Rattle.register_law.proofs.TagsSteps.{may_ask}
use Rattle.register_law.proofs.TagsSent.{Posted, replies, opens, asks, sent_after, was_sent_stays, goes_on_at, sender_turns}
use Rattle.register_law.proofs.ReplicasKept.{view_set, view_learned, ViewsAfter, same_views, learned_views, shown_views, views_after_event}

posted_numbered : (s : Store) (h : Happening) → Happened s h → TagsTellApart s → (message : Message) → Posted s h message → IsNumbered h.store (tag_of message)
posted_numbered s h is tags message (replies from sent answer) = numbered_stays s h is (tag_of message) (subst (IsNumbered s) (sym answer.tag) (tags.sent_numbered from sent))
posted_numbered s h is tags message (opens p key work st tag at free) = subst (IsNumbered h.store) (sym tag) (next_is_numbered s p key work h st)
posted_numbered s h is tags message (asks p taken call post took tag at free c) =
    subst (IsNumbered h.store) (sym tag) (numbered_stays s h is (next_tag (tag_of_call call)) (next_numbered s (tag_of_call call) (tags.live_numbered p (handle_in taken) call took.live).0))

sent_numbered_after : (s : Store) (h : Happening) → Happened s h → TagsTellApart s → (message : Message) → WasSent h.store message → IsNumbered h.store (tag_of message)
sent_numbered_after s h is tags message sent =
    elim (sent_after s h is message sent) as (λ _. IsNumbered h.store (tag_of message)) [
      | inl old ↦ numbered_stays s h is (tag_of message) (tags.sent_numbered message old)
      | inr new ↦ posted_numbered s h is tags message new
    ]

-- a call of this proxy, of its numbers
abbrev IsOwn : Store → ℕ → Tag → Type 0
IsOwn s p tag = IsNumbered s tag × (tag.call.proxy ≡ p)

turned_own : (s : Store) (p : ℕ) (tag : Tag) (new : Tag) → IsOwn s p tag → (new ≡ tag) ⊎ (new ≡ next_tag tag) → IsOwn s p new
turned_own s p tag new own (inl is) = subst (IsOwn s p) (sym is) own
turned_own s p tag new own (inr is) = subst (IsOwn s p) (sym is) (next_numbered s tag own.0, own.1)

goes_tag : (May : Stamp → Type 0) (tag : Tag) (key : KeyId) (call : LiveCall) (out : _) → GoesOn May tag key call out → (tag_of_call call ≡ tag) ⊎ (tag_of_call call ≡ next_tag tag)
goes_tag May tag key call out (stays k t none) = inl t
goes_tag May tag key call out (turns k t sends) = inr t
goes_tag May tag key call out (ends k t some sends) = inl t

live_own : (s : Store) (h : Happening) → Happened s h → TagsTellApart s → (p : ℕ) (handle : Handle) (call : LiveCall) → LiveIs s h p handle call → IsOwn h.store p (tag_of_call call)
live_own s h is tags p handle call (was_live live) = let own = tags.live_numbered p handle call live in (numbered_stays s h is (tag_of_call call) own.0, own.1)
live_own s h is tags p handle call (begins key work st at same) =
    subst (λ (x : LiveCall). IsOwn h.store p (tag_of_call x)) (sym same) (subst (IsOwn h.store p) (sym (started_opens s p key work h st).tag_is) (next_is_numbered s p key work h st, refl))
live_own s h is tags p handle call (went_on message old took at same _) =
    let own = turned_own s p (tag_of_call old) (tag_of_call (taken_of s p message old).state) (tags.live_numbered p (handle_in message) old took.live)
    (goes_tag (may_ask old) (tag_of_call old) (key_of_call old) (taken_of s p message old).state (taken_of s p message old).out (goes_on_at s p message old)) in
    subst (λ (x : LiveCall). IsOwn h.store p (tag_of_call x)) (sym same) (numbered_stays s h is (tag_of_call (taken_of s p message old).state) own.0, own.1)

-- two calls of one number are under one handle
once_by : (s : Store) (h : Happening) (p : ℕ) (a b : Handle) (first second : LiveCall) → TagsTellApart s → LiveFrom s h p a first → LiveFrom s h p b second → (tag_of_call first).call ≡ (tag_of_call second).call → a ≡ b
once_by s h p a b first second tags (older one live call key phase) (older other live2 call2 key2 phase2) same = tags.live_once p a b one other live live2 (sym call ∙ same ∙ call2)
once_by s h p a b first second tags (newer k work st free tag keyed) (newer k2 work2 st2 free2 tag2 keyed2) same = cc
once_by s h p a b first second tags (older one live call key phase) (newer k2 work2 st2 free2 tag2 keyed2) same =
    absurd (next_is_none s p (tag_of_call one) (next_call s p) (tags.live_numbered p a one live).0 (sym call ∙ same ∙ ap (λ (t : Tag). t.call) tag2) refl)
once_by s h p a b first second tags (newer k work st free tag keyed) (older other live2 call2 key2 phase2) same =
    absurd (next_is_none s p (tag_of_call other) (next_call s p) (tags.live_numbered p b other live2).0 (sym call2 ∙ sym same ∙ ap (λ (t : Tag). t.call) tag) refl)

-- of a message that was sent before
bound_old : (s : Store) (h : Happening) (p : ℕ) (handle : Handle) (call : LiveCall) (message : Message) → TagsTellApart s → LiveFrom s h p handle call → WasSent s message → (tag_of message).call ≡ (tag_of_call call).call → (tag_of message).phase ≤ (tag_of_call call).phase
bound_old s h p handle call message tags (older old live is key phase) sent same = let le = tags.phase_bound p handle old message live sent (same ∙ is) in omega arith
bound_old s h p handle call message tags (newer k work st free tag keyed) sent same = absurd (next_is_none s p (tag_of message) (next_call s p) (tags.sent_numbered message sent) (same ∙ ap (λ (t : Tag). t.call) tag) refl)

-- of the first request of the next call
bound_first : (s : Store) (h : Happening) (p q : ℕ) (handle other : Handle) (call : LiveCall) (tag : Tag) → TagsTellApart s → LiveFrom s h p handle call → tag ≡ first_tag (next_call s q) other → tag.call ≡ (tag_of_call call).call → tag.phase ≤ (tag_of_call call).phase
bound_first s h p q handle other call tag tags (older old live is key phase) first same =
    absurd (next_is_none s q (tag_of_call old) (next_call s q) (tags.live_numbered p handle old live).0 (sym (same ∙ is) ∙ ap (λ (t : Tag). t.call) first) refl)
bound_first s h p q handle other call tag tags (newer k work st free is keyed) first same =
    let one : tag.phase ≡ 1 = ap (λ (t : Tag). t.phase) first in
    let too : (tag_of_call call).phase ≡ 1 = ap (λ (t : Tag). t.phase) is in
    omega arith

-- of what a live call asks next
bound_asked : (s : Store) (h : Happening) (p q : ℕ) (handle : Handle) (call old : LiveCall) (taken : Message) (post : Post) (tag : Tag) → TagsTellApart s → CallTook s q taken old h → IsLiveAt h.store p handle call
    → Contains (taken_of s q taken old).out.posts post → tag ≡ next_tag (tag_of_call old) → tag.call ≡ (tag_of_call call).call → LiveFrom s h p handle call → tag.phase ≤ (tag_of_call call).phase
bound_asked s h p q handle call old taken post tag tags took live c next same (newer k work st free is keyed) =
    absurd (next_is_none s p (tag_of_call old) (next_call s p) (tags.live_numbered q (handle_in taken) old took.live).0 (sym (ap (λ (t : Tag). t.call) next) ∙ same ∙ ap (λ (t : Tag). t.call) is) refl)
bound_asked s h p q handle call old taken post tag tags took live c next same (older was lived is key phase) =
    let one = tags.live_numbered p handle was lived in
    let two = tags.live_numbered q (handle_in taken) old took.live in
    let calls : (tag_of_call was).call ≡ (tag_of_call old).call = sym is ∙ sym same ∙ ap (λ (t : Tag). t.call) next in
    let proxies : p ≡ q = sym one.1 ∙ ap (λ (x : Call). x.proxy) calls ∙ two.1 in
    let there : IsLiveAt s q handle was = subst (λ n. IsLiveAt s n handle was) proxies lived in
    let handles : handle ≡ handle_in taken = tags.live_once q handle (handle_in taken) was old there took.live calls in
    let here : IsLiveAt h.store q (handle_in taken) call = subst (λ (x : Handle). IsLiveAt h.store q x call) handles (subst (λ n. IsLiveAt h.store n handle call) proxies live) in
    let exists : q < length s.proxies = subst (λ n. n < length s.proxies) two.1 two.0.proxy in
    let on = lives_on s h q taken old call took exists here in
    let turned = sender_turns s q taken old call post on c in
    let phases : (tag_of_call call).phase ≡ tag.phase = ap (λ (t : Tag). t.phase) turned ∙ sym (ap (λ (t : Tag). t.phase) next) in
    omega arith

bound_posted : (s : Store) (h : Happening) (p : ℕ) (handle : Handle) (call : LiveCall) (message : Message) → TagsTellApart s → IsLiveAt h.store p handle call → LiveFrom s h p handle call → Posted s h message → (tag_of message).call ≡ (tag_of_call call).call
    → (tag_of message).phase ≤ (tag_of_call call).phase
bound_posted s h p handle call message tags live from (replies asked sent answer) same =
    subst (λ (t : Tag). t.phase ≤ (tag_of_call call).phase) (sym answer.tag) (bound_old s h p handle call asked tags from sent (ap (λ (t : Tag). t.call) (sym answer.tag) ∙ same))
bound_posted s h p handle call message tags live from (opens q key work st tag at free) same = bound_first s h p q handle st.handle call (tag_of message) tags from tag same
bound_posted s h p handle call message tags live from (asks q taken old post took tag at free c) same = bound_asked s h p q handle call old taken post (tag_of message) tags took live c tag same from

-- an answer that an event sends answers what was sent before
asked_before : (s : Store) (h : Happening) → Happened s h → (message : Message) → Posted s h message → request_key message ≡ None → (request : Message) × WasSent h.store request × IsSome (request_key request) × (tag_of request ≡ tag_of message)
asked_before s h is message (replies from sent answer) no_key = (from, was_sent_stays s h is from sent, answer.asked, sym answer.tag)
asked_before s h is message (opens p key work st tag at free) no_key = absurd (cc)
asked_before s h is message (asks p taken call post took tag at free c) no_key = absurd (cc)

-- the view of a key stays of the key
learned_keyed : (key : KeyId) (views : List View) (message : Message) → (view_at views key).key ≡ key → (view_at (views_after views message) key).key ≡ key
learned_keyed key views message was = view_learned (λ view. view.key ≡ key) key views message (λ tag epoch policy newest newest_policy is. refl) was

shown_keyed : (key : KeyId) (views : List View) (o : Option View) → (view_at views key).key ≡ key → (view_at (views_with views o) key).key ≡ key
shown_keyed key views None was = was
shown_keyed key views (Some view) was = view_set (λ x. x.key ≡ key) key views view.key view (λ e. e) was

views_stay_keyed : (s : Store) (h : Happening) (p : ℕ) (key : KeyId) → ViewsAfter s h p → (view_at (proxy_at s p).views key).key ≡ key → (view_at (proxy_at h.store p).views key).key ≡ key
views_stay_keyed s h p key (same_views is) was = ap (λ (x : List View). (view_at x key).key) is ∙ was
views_stay_keyed s h p key (learned_views message sent is) was = ap (λ (x : List View). (view_at x key).key) is ∙ learned_keyed key (proxy_at s p).views message was
views_stay_keyed s h p key (shown_views message old took is) was =
    ap (λ (x : List View). (view_at x key).key) is ∙ shown_keyed key (views_after (proxy_at s p).views message) (taken_of s p message old).out.view (learned_keyed key (proxy_at s p).views message was)

pub tags_kept : (s : Store) (h : Happening) → Happened s h → TagsTellApart s → TagsTellApart h.store
tags_kept s h is tags = record {
  sent_numbered = sent_numbered_after s h is tags;
  live_numbered = λ p handle call live. live_own s h is tags p handle call (live_after s h is p handle call live);
  live_once = λ p a b first second one other same. once_by s h p a b first second tags (live_from s h is p a first one) (live_from s h is p b second other) same;
  view_keys = λ p key exists known.
      let many = proxies_stay s h is in
      let sets = (directory_grows s h is).sets in
      views_stay_keyed s h p key (views_after_event s h is p) (tags.view_keys p key (omega arith) (subst (λ (x : List ℕ). key.0 < length x) sets known));
  phase_bound = λ p handle call message live sent same.
      elim (sent_after s h is message sent) as (λ _. (tag_of message).phase ≤ (tag_of_call call).phase) [
        | inl old ↦ bound_old s h p handle call message tags (live_from s h is p handle call live) old same
        | inr new ↦ bound_posted s h p handle call message tags live (live_from s h is p handle call live) new same
      ];
  answers_asked = λ message sent no_key.
      elim (sent_after s h is message sent) as (λ _. (request : Message) × WasSent h.store request × IsSome (request_key request) × (tag_of request ≡ tag_of message)) [
        | inl old ↦ (let asked = tags.answers_asked message old no_key in (asked.0, was_sent_stays s h is asked.0 asked.1, asked.2, asked.3))
        | inr new ↦ asked_before s h is message new no_key
      ];
}

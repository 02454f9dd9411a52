-- Every event keeps what the replicas rest on.
use Rattle.std.proofs.Common.{◌≡◌, inl, inr, ℕ, Bool, true, false, List, refl, sym, ap, ◌∙◌, subst, nat_lt, if◌then◌else◌, slice_set, slice_index_or, ◌<◌, arith, ◌⊎◌, length, Option, Some, None, nat_le, not, ◌&&◌, Contains}
use Rattle.std.proofs.lemmas.Bool.{ltb-true, ltb-false, le-leb}
use Rattle.register_law.proofs.Words.{KeyId, Policy, Message, View, Tag, views_after, Proxy, Store, no_proxy, no_view, proxy_at, view_at, Happening, views_with, LiveCall, CallTook, Happened, call_took, gave_up, proxy_learned, proxy_stopped, refused_at_once, started, WasSent, kept_after, kept_at, key_of, step_at, Replica, kept_of, no_replica, replica_at, with_replica, TakenBy, replica_stopped, replica_took, IsSeat, IsAtMost, grants, stamp_cmp, stamp_zero, stores, Stamp, is_over, merge, Rises, Kept, Ghost, noted_of, Inv, ReplicasAreBacked, WasAsked, IsKept, length-set, get_or-set_same, get_or_past, is_gt, IsAtMost-trans, same_key}
use Rattle.wire_msg.specs.declared.actor.Actor.TheVariants as to
use Rattle.wire_msg.specs.declared.message.Message.TheVariants as m
use Rattle.replica_core.specs.Keeping.{opening}
use Rattle.replica_core.specs.Rule.{State, step}
use Rattle.register_law.proofs.Basics.{either, is_made}
use Rattle.register_law.proofs.Kept.{set_cases, KeptIs, kept_cases, rises, versions_known}
use Rattle.register_law.proofs.TagsCalls.{taken_of}
use Rattle.register_law.proofs.TagsSent.{was_sent_stays}
use Rattle.register_law.proofs.MovesStable.{kept_stays}
use Rattle.register_law.proofs.Growth.{grows_by}

-- a view that is put in
pub view_set : (P : View → Type 0) (key : KeyId) (views : List View) (at : KeyId) (view : View) → (at ≡ key → P view) → P (view_at views key) → P (view_at (slice_set views at.0 view) key)
view_set P key views at view new was =
    elim (set_cases views at.0 key.0 view no_view) as (λ _. P (view_at (slice_set views at.0 view) key)) [
      | inl e ↦ subst P (sym e) was
      | inr e ↦ subst P (sym e.1) (new (same_key at key (sym e.0)))
    ]

-- a message shows the view of its key where it is a Here
pub view_learned : (P : View → Type 0) (key : KeyId) (views : List View) (message : Message)
    → ((tag : Tag) (epoch : ℕ) (policy : Policy) (newest : ℕ) (newest_policy : Policy) → message ≡ m.Here tag key epoch policy newest newest_policy → P (record { key = key; epoch = epoch; policy = policy })) → P (view_at views key) → P (view_at (views_after views message) key)
view_learned P key views (m.Here tag at epoch policy newest newest_policy) shows was = by (nat_lt (view_at views at).epoch epoch)
  where
    shown : (x : KeyId) → at ≡ x → P (record { key = x; epoch = epoch; policy = policy }) → P (record { key = at; epoch = epoch; policy = policy })
    shown x e p = subst (λ (y : KeyId). P (record { key = y; epoch = epoch; policy = policy })) (sym e) p

    by : (t : Bool) → P (view_at (if t then slice_set views at.0 (record { key = at; epoch = epoch; policy = policy }) else views) key)
    by true = view_set P key views at (record { key = at; epoch = epoch; policy = policy }) (λ e. shown key e (shows tag epoch policy newest newest_policy (ap (λ (x : KeyId). m.Here tag x epoch policy newest newest_policy) e))) was
    by false = was
view_learned P key views message shows was = was

-- the views of a proxy after an event
pub data ViewsAfter (s : Store) (h : Happening) (p : ℕ) : Type 0 where
  same_views : (proxy_at h.store p).views ≡ (proxy_at s p).views → ViewsAfter s h p
  learned_views : (message : Message) → WasSent s message → (proxy_at h.store p).views ≡ views_after (proxy_at s p).views message → ViewsAfter s h p
  shown_views : (message : Message) (old : LiveCall) → CallTook s p message old h → (proxy_at h.store p).views ≡ views_with (views_after (proxy_at s p).views message) (taken_of s p message old).out.view → ViewsAfter s h p

at_place : (s : Store) (h : Happening) (at p : ℕ) (new : Proxy) (X : Type 0) → h.store.proxies ≡ slice_set s.proxies at new → ((proxy_at h.store p).views ≡ (proxy_at s p).views → X) → (p ≡ at → (proxy_at h.store p).views ≡ new.views → X) → X
at_place s h at p new X is same changed =
    elim (set_cases s.proxies at p new no_proxy) as (λ _. X) [
      | inl e ↦ same (ap (λ (x : List Proxy). (slice_index_or x p no_proxy).views) is ∙ ap (λ (x : Proxy). x.views) e)
      | inr e ↦ changed e.0 (ap (λ (x : List Proxy). (slice_index_or x p no_proxy).views) is ∙ ap (λ (x : Proxy). x.views) e.1)
    ]

kept_views : (s : Store) (h : Happening) (at p : ℕ) (new : Proxy) → h.store.proxies ≡ slice_set s.proxies at new → new.views ≡ (proxy_at s at).views → ViewsAfter s h p
kept_views s h at p new is same = at_place s h at p new (ViewsAfter s h p) is (λ e. same_views e) (λ e k. same_views (k ∙ same ∙ ap (λ (n : ℕ). (proxy_at s n).views) (sym e)))

pub views_after_event : (s : Store) (h : Happening) → Happened s h → (p : ℕ) → ViewsAfter s h p
views_after_event s h (proxy_stopped at is) p = kept_views s h at p _ (ap (λ (x : Happening). x.store.proxies) is) refl
views_after_event s h (refused_at_once at key work reply lt dead is) p = kept_views s h at p _ (ap (λ (x : Happening). x.store.proxies) is) refl
views_after_event s h (started at key work st) p = kept_views s h at p _ (ap (λ (x : Happening). x.store.proxies) st.is) refl
views_after_event s h (proxy_learned at message sent is) p =
    at_place s h at p _ (ViewsAfter s h p) (ap (λ (x : Happening). x.store.proxies) is) (λ e. same_views e)
    (λ e k. learned_views message (to.Proxy at, sent) (k ∙ ap (λ (n : ℕ). views_after (proxy_at s n).views message) (sym e)))
views_after_event s h (call_took at message old st) p =
    at_place s h at p _ (ViewsAfter s h p) (ap (λ (x : Happening). x.store.proxies) st.is) (λ e. same_views e)
    (λ e k. subst (λ (n : ℕ). (proxy_at h.store n).views ≡ views_with (views_after (proxy_at s at).views message) (taken_of s at message old).out.view → ViewsAfter s h n) (sym e) (λ j. shown_views message old st j) k)
views_after_event s h (gave_up at handle old was is) p = kept_views s h at p _ (ap (λ (x : Happening). x.store.proxies) is) refl
views_after_event s h o p = same_views (ap (λ (x : Happening). (proxy_at x.store p).views) (is_made s h o))

-- ---- every event keeps what the replicas rest on

step_seat : (key : KeyId) (d : ℕ) (state : State) (message : Message) (o : Option KeyId) → IsSeat key d state → IsSeat key d (step_at state message o).state
step_seat key d state message None seat = seat
step_seat key d state message (Some at) seat =
    let long = length-set state.kept at.0 (kept_after (kept_at state at) message) in
    let holds = seat.holds in
    record { number = seat.number; holds = omega arith }

-- of a replica's place that was changed
replica_cases : (s : Store) (at d : ℕ) (new : Replica) (P : Replica → Type 0) → P (replica_at s d) → (d ≡ at → P new) → P (replica_at (with_replica s at new) d)
replica_cases s at d new P same changed =
    elim (set_cases s.replicas at d new no_replica) as (λ _. P (replica_at (with_replica s at new) d)) [
      | inl e ↦ subst P (sym e) same
      | inr e ↦ subst P (sym e.1) (changed e.0)
    ]

-- there are as many replicas as there were
pub replicas_stay : (s : Store) (h : Happening) → Happened s h → length h.store.replicas ≡ length s.replicas
replicas_stay s h (replica_stopped d is) = ap (λ (x : Happening). length x.store.replicas) is ∙ length-set s.replicas d _
replicas_stay s h (replica_took d message taken is) = ap (λ (x : Happening). length x.store.replicas) is ∙ length-set s.replicas d _
replicas_stay s h o = ap (λ (x : Happening). length x.store.replicas) (is_made s h o)

-- of a replica
abbrev Seated : KeyId → ℕ → Replica → Type 0
Seated key d x = IsSeat key d x.state

pub seat_stays : (key : KeyId) (s : Store) (h : Happening) → Happened s h → (d : ℕ) → IsSeat key d (replica_at s d).state → IsSeat key d (replica_at h.store d).state
seat_stays key s h (replica_stopped at is) d seat =
    subst (λ (x : Happening). Seated key d (replica_at x.store d)) (sym is)
    (replica_cases s at d (record { stopped = true; state = (replica_at s at).state }) (Seated key d) seat (λ same. subst (λ n. Seated key d (replica_at s n)) same seat))
seat_stays key s h (replica_took at message taken is) d seat =
    subst (λ (x : Happening). Seated key d (replica_at x.store d)) (sym is)
    (replica_cases s at d (record { stopped = false; state = (step (replica_at s at).state message).state }) (Seated key d) seat
    (λ same. step_seat key d (replica_at s at).state message (key_of message) (subst (λ n. Seated key d (replica_at s n)) same seat)))
seat_stays key s h o d seat = subst (λ (x : Happening). Seated key d (replica_at x.store d)) (sym (is_made s h o)) seat

-- a replica that runs is there
pub runs_there : (s : Store) (d : ℕ) (message : Message) → TakenBy s d message → d < length s.replicas
runs_there s d message taken = by (nat_lt d (length s.replicas)) refl
  where
    by : (b : Bool) → nat_lt d (length s.replicas) ≡ b → d < length s.replicas
    by true is = ltb-true d (length s.replicas) is
    by false is =
        let none = get_or_past s.replicas d no_replica (ltb-false d (length s.replicas) is) in
        let stopped : (replica_at s d).stopped ≡ true = ap (λ (x : Replica). x.stopped) none in
        let runs = taken.runs in
        absurd (cc)

-- what a replica keeps of the key after a message of it
pub became_by : (key : KeyId) (s : Store) (d : ℕ) (message : Message) → d < length s.replicas → IsSeat key d (replica_at s d).state → key_of message ≡ Some key
    → kept_of (with_replica s d (record { stopped = false; state = (step (replica_at s d).state message).state })) d key ≡ kept_after (kept_of s d key) message
became_by key s d message lt seat at =
    let new : Replica = record { stopped = false; state = (step (replica_at s d).state message).state } in
    let there : replica_at (with_replica s d new) d ≡ new = get_or-set_same s.replicas d new no_replica lt in
    ap (λ (x : Replica). kept_at x.state key) there
    ∙ ap (λ (o : Option KeyId). kept_at (step_at (replica_at s d).state message o).state key) at
    ∙ get_or-set_same (replica_at s d).state.kept key.0 (kept_after (kept_of s d key) message) opening seat.holds

-- ---- every event keeps what the replicas' versions, marks and fences rest on

-- a mark and a fence that are what they were
abbrev SameMark : Kept → Kept → Type 0
SameMark old new = new.mark ≡ old.mark

abbrev SameFence : Kept → Kept → Type 0
SameFence old new = new.fence ≡ old.fence

merge_marks : (kept : Kept) (stamp : Stamp) (value : List ℕ) → SameMark kept (merge kept stamp value)
merge_marks kept stamp value = either (SameMark kept) (is_gt (stamp_cmp stamp kept.version)) (record kept { version = stamp; value = value }) kept refl refl

merge_fences : (kept : Kept) (stamp : Stamp) (value : List ℕ) → SameFence kept (merge kept stamp value)
merge_fences kept stamp value = either (SameFence kept) (is_gt (stamp_cmp stamp kept.version)) (record kept { version = stamp; value = value }) kept refl refl

-- the mark after a message is what it was, or what a Confirm confirms
pub mark_after : (P : Stamp → Type 0) (kept : Kept) (message : Message) → P kept.mark → ((tag : Tag) (at : KeyId) (stamp : Stamp) → message ≡ m.Confirm tag at stamp → P stamp) → P (kept_after kept message).mark
mark_after P kept (m.Ask tag at stamp) p f = either (λ (x : Kept). P x.mark) (not (is_over kept stamp.epoch) && grants stamp kept.fence kept.version) (record kept { fence = stamp }) kept p p
mark_after P kept (m.Store tag at stamp value) p f = either (λ (x : Kept). P x.mark) (not (is_over kept stamp.epoch) && stores stamp kept.fence) (merge kept stamp value) kept (subst P (sym (merge_marks kept stamp value)) p) p
mark_after P kept (m.Repair tag at epoch stamp value) p f = either (λ (x : Kept). P x.mark) (is_over kept epoch) kept (merge kept stamp value) p (subst P (sym (merge_marks kept stamp value)) p)
mark_after P kept (m.Confirm tag at stamp) p f = either P (is_gt (stamp_cmp stamp kept.mark)) stamp kept.mark (f tag at stamp refl) p
mark_after P kept (m.Seed tag at epoch stamp value) p f = either (λ (x : Kept). P x.mark) (is_over kept epoch) kept (merge kept stamp value) p (subst P (sym (merge_marks kept stamp value)) p)
mark_after P kept (m.Push tag at stamp onward value) p f = either (λ (x : Kept). P x.mark) (is_over kept stamp.epoch) kept (merge kept stamp value) p (subst P (sym (merge_marks kept stamp value)) p)
mark_after P kept message p f = p

if_granted : (P : Stamp → Type 0) (over grant : Bool) (kept : Kept) (stamp : Stamp) → P kept.fence → (grant ≡ true → P stamp) → P (if not over && grant then record kept { fence = stamp } else kept).fence
if_granted P true grant kept stamp p f = p
if_granted P false true kept stamp p f = f refl
if_granted P false false kept stamp p f = p

-- the fence after a message is what it was, or the ticket that an Ask was granted
pub fence_after : (P : Stamp → Type 0) (kept : Kept) (message : Message) → P kept.fence → ((tag : Tag) (at : KeyId) (stamp : Stamp) → message ≡ m.Ask tag at stamp → grants stamp kept.fence kept.version ≡ true → P stamp) → P (kept_after kept message).fence
fence_after P kept (m.Ask tag at stamp) p f = if_granted P (is_over kept stamp.epoch) (grants stamp kept.fence kept.version) kept stamp p (f tag at stamp refl)
fence_after P kept (m.Store tag at stamp value) p f = either (λ (x : Kept). P x.fence) (not (is_over kept stamp.epoch) && stores stamp kept.fence) (merge kept stamp value) kept (subst P (sym (merge_fences kept stamp value)) p) p
fence_after P kept (m.Repair tag at epoch stamp value) p f = either (λ (x : Kept). P x.fence) (is_over kept epoch) kept (merge kept stamp value) p (subst P (sym (merge_fences kept stamp value)) p)
fence_after P kept (m.Seed tag at epoch stamp value) p f = either (λ (x : Kept). P x.fence) (is_over kept epoch) kept (merge kept stamp value) p (subst P (sym (merge_fences kept stamp value)) p)
fence_after P kept (m.Push tag at stamp onward value) p f = either (λ (x : Kept). P x.fence) (is_over kept stamp.epoch) kept (merge kept stamp value) p (subst P (sym (merge_fences kept stamp value)) p)
fence_after P kept message p f = p

-- a message of the key, by what it is
pub at_key : (key at : KeyId) (message other : Message) → key_of message ≡ Some key → message ≡ other → key_of other ≡ Some at → at ≡ key
at_key key at message other is same there = let e : key_of message ≡ Some at = ap key_of same ∙ there in cc

mark_from : (key : KeyId) (s : Store) (g : Ghost) (h : Happening) (d : ℕ) (new : Kept) → Inv key s g → KeptIs key s d new → IsKept key s g new.mark
mark_from key s g h d new inv (inl same) = subst (λ (x : Kept). IsKept key s g x.mark) (sym same) (inv.replicas.mark_kept d)
mark_from key s g h d new inv (inr took) =
    subst (λ (x : Kept). IsKept key s g x.mark) (sym took.is)
    (mark_after (IsKept key s g) (kept_of s d key) took.message (inv.replicas.mark_kept d)
    (λ tag at stamp is. (let same : at ≡ key = at_key key at took.message (m.Confirm tag at stamp) took.at is refl in
    let sent : WasSent s (m.Confirm tag key stamp) = (to.Replica d, subst (λ (x : Message). Contains s.sent (record { to = to.Replica d; message = x })) (is ∙ ap (λ (x : KeyId). m.Confirm tag x stamp) same) took.sent) in
    inv.messages.confirm_kept tag stamp sent)))

-- the fence is the one that was, or asked for by what was sent
pub fence_from : (key : KeyId) (s : Store) (g : Ghost) (d : ℕ) (new : Kept) → Inv key s g → KeptIs key s d new → (new.fence ≡ stamp_zero) ⊎ WasAsked key s new.fence
fence_from key s g d new inv (inl same) = subst (λ (x : Kept). (x.fence ≡ stamp_zero) ⊎ WasAsked key s x.fence) (sym same) (inv.replicas.fence_asked d)
fence_from key s g d new inv (inr took) =
    subst (λ (x : Kept). (x.fence ≡ stamp_zero) ⊎ WasAsked key s x.fence) (sym took.is)
    (fence_after (λ (x : Stamp). (x ≡ stamp_zero) ⊎ WasAsked key s x) (kept_of s d key) took.message (inv.replicas.fence_asked d)
    (λ tag at stamp is granted. (let same : at ≡ key = at_key key at took.message (m.Ask tag at stamp) took.at is refl in
    let sent : WasSent s (m.Ask tag key stamp) = (to.Replica d, subst (λ (x : Message). Contains s.sent (record { to = to.Replica d; message = x })) (is ∙ ap (λ (x : KeyId). m.Ask tag x stamp) same) took.sent) in
    inr (record { tag = tag; sent = sent }))))

asked_stays : (key : KeyId) (s : Store) (h : Happening) → Happened s h → (x : Stamp) → (x ≡ stamp_zero) ⊎ WasAsked key s x → (x ≡ stamp_zero) ⊎ WasAsked key h.store x
asked_stays key s h is x (inl zero) = inl zero
asked_stays key s h is x (inr asked) = inr (record { tag = asked.tag; sent = was_sent_stays s h is (m.Ask asked.tag key x) asked.sent })

pub fixed_by : (b c : Bool) (version new fixed : Stamp) → c ≡ true → IsAtMost version new → (b ≡ false → IsAtMost fixed new) → IsAtMost (if b && c then version else fixed) new
fixed_by true true version new fixed is h f = h
fixed_by true false version new fixed is h f = absurd (cc)
fixed_by false c version new fixed is h f = f refl

pub replicas_kept : (key : KeyId) (s : Store) (g : Ghost) (h : Happening) → Happened s h → Inv key s g → ReplicasAreBacked key h.store (noted_of key s h g)
replicas_kept key s g h is inv = record {
  seats = λ d lt. (let many = replicas_stay s h is in seat_stays key s h is d (inv.replicas.seats d (omega arith)));
  version_known = versions_known key s h is (record { repairs = inv.messages.repair_known; seeds = inv.messages.seed_known }) inv.requests.no_push inv.replicas.version_known;
  mark_kept = λ d. kept_stays key s g h.store (noted_of key s h g) (kept_of h.store d key).mark (grows_by key s g h is inv) inv.openings.published (mark_from key s g h d (kept_of h.store d key) inv (kept_cases key s h is d));
  fence_asked = λ d. asked_stays key s h is (kept_of h.store d key).fence (fence_from key s g d (kept_of h.store d key) inv (kept_cases key s h is d));
  fixed_below = λ d e le.
      (let up : Rises (kept_of s d key) (kept_of h.store d key) = rises key s h is d in
      fixed_by (nat_lt (kept_of s d key).frozen e) (nat_le e (kept_of h.store d key).frozen) (kept_of s d key).version (kept_of h.store d key).version (g.fixed d e) (le-leb e (kept_of h.store d key).frozen le) up.version
      (λ b. IsAtMost-trans (g.fixed d e) (kept_of s d key).version (kept_of h.store d key).version (inv.replicas.fixed_below d e (ltb-false (kept_of s d key).frozen e b)) up.version));
}

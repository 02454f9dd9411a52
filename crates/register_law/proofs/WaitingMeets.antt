-- A live call stands under the handle of its tag, so its answers meet it.
use Rattle.std.proofs.Common.{◌≡◌, ℕ, zero, suc, ◌<◌, Bool, false, List, [], ◌∷◌, refl, sym, ap, ◌∙◌, subst, arith, if◌then◌else◌, length, slice_index_or, Option, Some, None, option_map, option_and_then, Contains, slice_get, Ok, Err, eq-eqb}
use Rattle.std.specs.Option.{option_map_or}
use Rattle.register_law.proofs.Words.{Message, Reply, same_handle, after_take, item_at, item_for, next_handle, with_item, Handle, tag_of_call, Proxy, Store, no_proxy, proxy_at, Happening, calls_with, handle_in, with_proxy, LiveCall, CallTook, Happened, call_took, gave_up, proxy_learned, proxy_stopped, refused_at_once, started, IsLiveAt, Slot, KeyId, Stamp, Outputs, Post, Tag, next_tag, key_of_call, learned, MayRun, run_of, Done, opening, view_at, call_takes, deliver_to, nothing, only_learns, proxy_did, proxy_takes, proxy_takes_as, step, Event, Deliver, Header, NoMessage, did, first_ghost}
use Rattle.wire_msg.specs.declared.outputs.Reply.TheVariants as r
use Rattle.slot_pool.proofs.PoolLemmas.{next_is}
use Rattle.slot_pool.proofs.HistoryLemmas.{put_map, take_map, write_map}
use Rattle.run_marks.specs.declared.mark.Mark.TheVariants as k
use Rattle.wire_msg.specs.declared.actor.Actor.TheVariants as to
use Rattle.register_law.proofs.Basics.{is_itself, is_made}
use Rattle.register_law.proofs.TagsCalls.{taken_of, proxy_cases, proxy_is, same_handle_is, LiveIs, was_live, begins, went_on, live_after, started_opens, by_test}
use Rattle.register_law.specs.WaitingPhases.{IsDelivered}
use Rattle.register_law.proofs.Induction.{all_along}
use Rattle.register_law.proofs.Happened.{happened, sends_is, found_among}
use Rattle.register_law.proofs.Opening.{none_live}
use Rattle.register_law.proofs.TagsSends.{GoesOn, stays, turns, ends}
use Rattle.register_law.proofs.TagsSteps.{may_ask, take_goes_on}
use Rattle.std.proofs.lemmas.Bool.{cond-true}

pub data Meets (s : Store) (h : Happening) (p : ℕ) (handle : Handle) (live : LiveCall) : Type 0 where
  untouched : IsLiveAt h.store p handle live → Meets s h p handle live
  takes : (message : Message) → CallTook s p message live h → handle ≡ handle_in message → Meets s h p handle live
  given_up : Contains h.marks (k.End (tag_of_call live).call r.GivenUp) → Meets s h p handle live

-- a call lives at a proxy that is there
pub lives_somewhere : (proxies : List Proxy) (p : ℕ) (handle : Handle) (live : LiveCall) → item_at (slice_index_or proxies p no_proxy).calls handle ≡ Some live → p < length proxies
lives_somewhere [] p handle live there = absurd (cc)
lives_somewhere (x ∷ xs) zero handle live there = omega arith
lives_somewhere (x ∷ xs) (suc p) handle live there = (let lt = lives_somewhere xs p handle live there in omega arith)

-- nothing lives under the handle that the next call gets
pub next_is_free : (slots : List (Slot LiveCall)) (handle : Handle) → next_handle slots ≡ Some handle → item_at slots handle ≡ None
next_is_free slots handle free =
    ap (option_and_then (item_for {T = LiveCall} handle.generation)) (next_is slots handle free) ∙ cond-true _ _ _ (eq-eqb handle.generation handle.generation refl)

pub same_item : (slots : List (Slot LiveCall)) (a b : Handle) (one other : LiveCall) → a ≡ b → item_at slots a ≡ Some one → item_at slots b ≡ Some other → one ≡ other
same_item slots a b one other e x y = (let z : item_at slots b ≡ Some one = subst (λ (t : Handle). item_at slots t ≡ Some one) e x in cc)

-- a proxy's pool after a call of it took a message: under another handle all is as it was
pool_apart : (X : Type 0) (slots : List (Slot LiveCall)) (at handle : Handle) (item : LiveCall) (o : Option Reply) → (handle ≡ at → X) → (item_at (calls_with slots at item o) handle ≡ item_at slots handle → X) → X
pool_apart X slots at handle item None f g = by_test X (same_handle at handle) _ (item_at slots handle) _ (write_map slots at item handle) (λ same _. f (same_handle_is at handle same)) g
pool_apart X slots at handle item (Some reply) f g = by_test X (same_handle at handle) None (item_at slots handle) _ (take_map slots at handle) (λ same _. f (same_handle_is at handle same)) g

-- what lives at a proxy that changed
abbrev Stands : Store → Happening → ℕ → Handle → LiveCall → Proxy → Type 0
Stands s h p handle live x = (item_at x.calls handle ≡ Some live → Meets s h p handle live) → Meets s h p handle live

-- the event is one of this proxy, which becomes so
changes : (s : Store) (h : Happening) (at p : ℕ) (new : Proxy) (handle : Handle) (live : LiveCall) → h.store.proxies ≡ (with_proxy s at new).proxies → IsLiveAt s p handle live
    → (at ≡ p → item_at (proxy_at s at).calls handle ≡ Some live → (item_at new.calls handle ≡ Some live → Meets s h p handle live) → Meets s h p handle live) → Meets s h p handle live
changes s h at p new handle live is there here =
    proxy_cases s at p new (Stands s h p handle live) (λ f. f there) (λ e f. here (sym e) (subst (λ (n : ℕ). IsLiveAt s n handle live) e there) f)
    (λ now. untouched (subst (λ (zs : List Proxy). item_at (slice_index_or zs p no_proxy).calls handle ≡ Some live) (sym is) now))

pub meets : (s : Store) (h : Happening) → Happened s h → (p : ℕ) (handle : Handle) (live : LiveCall) → IsLiveAt s p handle live → Meets s h p handle live
meets s h (proxy_stopped at is) p handle live there = changes s h at p _ handle live (ap (λ (x : Happening). x.store.proxies) is) there (λ e old f. f old)
meets s h (refused_at_once at key work reply lt dead is) p handle live there = changes s h at p _ handle live (ap (λ (x : Happening). x.store.proxies) is) there (λ e old f. f old)
meets s h (started at key work st) p handle live there =
    changes s h at p _ handle live (ap (λ (x : Happening). x.store.proxies) st.is) there
    (λ e old f. by_test (Meets s h p handle live) (same_handle st.handle handle) (Some st.taken.state) (item_at (proxy_at s at).calls handle) (item_at (with_item (proxy_at s at).calls st.handle st.taken.state) handle)
    (put_map (proxy_at s at).calls st.handle st.taken.state st.free handle) (λ same _. taken_twice (same_handle_is st.handle handle same) old) (λ is. f (is ∙ old)))
  where
    taken_twice : handle ≡ st.handle → item_at (proxy_at s at).calls handle ≡ Some live → Meets s h p handle live
    taken_twice same old = absurd (let none = next_is_free (proxy_at s at).calls st.handle st.free in let some = subst (λ (x : Handle). item_at (proxy_at s at).calls x ≡ Some live) same old in cc)
meets s h (proxy_learned at message sent is) p handle live there = changes s h at p _ handle live (ap (λ (x : Happening). x.store.proxies) is) there (λ e old f. f old)
meets s h (call_took at message was took) p handle live there =
    changes s h at p _ handle live (ap (λ (x : Happening). x.store.proxies) took.is) there
    (λ e old f. pool_apart (Meets s h p handle live) (proxy_at s at).calls (handle_in message) handle (taken_of s at message was).state (taken_of s at message was).out.end (λ same. own e same old) (λ is. f (is ∙ old)))
  where
    own : at ≡ p → handle ≡ handle_in message → item_at (proxy_at s at).calls handle ≡ Some live → Meets s h p handle live
    own e same old =
        takes message
        (subst (λ (n : ℕ). CallTook s n message live h) e (subst (λ (x : LiveCall). CallTook s at message x h) (same_item (proxy_at s at).calls (handle_in message) handle was live (sym same) took.live old) took))
        same
meets s h (gave_up at given was lives is) p handle live there =
    changes s h at p _ handle live (ap (λ (x : Happening). x.store.proxies) is) there
    (λ e old f. by_test (Meets s h p handle live) (same_handle given handle) None (item_at (proxy_at s at).calls handle) (item_at (after_take (proxy_at s at).calls given) handle) (take_map (proxy_at s at).calls given handle)
    (λ same _. own (same_handle_is given handle same) old) (λ is. f (is ∙ old)))
  where
    own : handle ≡ given → item_at (proxy_at s at).calls handle ≡ Some live → Meets s h p handle live
    own same old =
        given_up (subst (λ (x : LiveCall). Contains h.marks (k.End (tag_of_call x).call r.GivenUp)) (same_item (proxy_at s at).calls given handle was live (sym same) lives old)
        (subst (λ (x : Happening). Contains x.marks (k.End (tag_of_call was).call r.GivenUp)) (sym is) (0, omega arith, refl)))
meets s h o p handle live there = untouched (subst (λ (x : Happening). IsLiveAt x.store p handle live) (sym (is_made s h o)) there)

-- a call that took a message and has no end lives on
pub takes_and_lives : (s : Store) (h : Happening) (p : ℕ) (message : Message) (live : LiveCall) → CallTook s p message live h → (taken_of s p message live).out.end ≡ None → IsLiveAt h.store p (handle_in message) (taken_of s p message live).state
takes_and_lives s h p message live took end =
    subst (λ (x : Happening). IsLiveAt x.store p (handle_in message) (taken_of s p message live).state) (sym took.is)
    (subst (λ (x : Proxy). item_at x.calls (handle_in message) ≡ Some (taken_of s p message live).state) (sym (proxy_is s p _ (lives_somewhere s.proxies p (handle_in message) live took.live)))
    (subst (λ (o : Option Reply). item_at (calls_with (proxy_at s p).calls (handle_in message) (taken_of s p message live).state o) (handle_in message) ≡ Some (taken_of s p message live).state) (sym end)
    (write_map (proxy_at s p).calls (handle_in message) (taken_of s p message live).state (handle_in message) ∙ cond-true _ _ _ (is_itself (handle_in message).slot (handle_in message).generation)
    ∙ ap (option_map (λ _. (taken_of s p message live).state)) took.live)))

-- ---- a live call's tag has the handle under which it lives, so that what is delivered under its tag is what it takes

-- the handle that a tag has
abbrev pub under : Tag → Handle
under tag = record { slot = tag.slot; generation = tag.generation }

abbrev pub TagsAreHandles : Store → Type 0
TagsAreHandles s = (p : ℕ) (handle : Handle) (live : LiveCall) → IsLiveAt s p handle live → under (tag_of_call live) ≡ handle

-- what no phase of a call changes of its tag stays
pub same_part : {X : Type 0} → (part : Tag → X) → ((tag : Tag) → part (next_tag tag) ≡ part tag) → (may : Stamp → Type 0) (old : Tag) (key : KeyId) (call : LiveCall) (out : Outputs) → GoesOn may old key call out → part (tag_of_call call) ≡ part old
same_part {X} part next may old key call out (stays at tag none) = ap part tag
same_part {X} part next may old key call out (turns at tag sends) = ap part tag ∙ next old
same_part {X} part next may old key call out (ends at tag some sends) = ap part tag

pub handles_after : (s : Store) (h : Happening) → Happened s h → TagsAreHandles s → TagsAreHandles h.store
handles_after s h is all p handle live there = by (live_after s h is p handle live there)
  where
    by : LiveIs s h p handle live → under (tag_of_call live) ≡ handle
    by (was_live old) = all p handle live old
    by (begins key work st at same) = ap (λ (x : LiveCall). under (tag_of_call x)) same ∙ ap under (started_opens s p key work h st).tag_is ∙ sym at
    by (went_on message old took at same _) =
        ap (λ (x : LiveCall). under (tag_of_call x)) same
        ∙ same_part under (λ _. refl) (may_ask old) (tag_of_call old) (key_of_call old) (taken_of s p message old).state (taken_of s p message old).out
        (take_goes_on old message (view_at (learned (proxy_at s p) message).views (key_of_call old)) (learned (proxy_at s p) message).seen)
        ∙ all p (handle_in message) old took.live ∙ sym at

any_key : KeyId
any_key = record { 0 = 0 }

pub tags_are_handles : (header : Header) (events : List Event) → MayRun events (opening header) → TagsAreHandles (run_of header events).store
tags_are_handles header events may =
    all_along (λ s _. TagsAreHandles s) any_key (λ s g e h taken _ all. handles_after s h (happened s e h taken) all) events (opening header) first_ghost may (λ p handle live there. absurd (none_live header p handle live there))

-- the outcome of a delivery to a proxy that isn't stopped
delivered : (s : Store) (n p : ℕ) (message : Message) (o : Option Post) (b : Bool) (h : Happening) → o ≡ Some (record { to = to.Proxy p; message = message }) → b ≡ false
    → ((proxy_at s p).stopped ≡ b) → option_map_or (λ (post : Post). deliver_to s post.to post.message) o (Err (NoMessage (length s.sent))) ≡ Ok h → proxy_did s p (proxy_takes (proxy_at s p) message) ≡ Ok h
delivered s n p message o b h at runs is e =
    let one : deliver_to s (to.Proxy p) message ≡ Ok h = subst (λ (x : Option Post). option_map_or (λ (post : Post). deliver_to s post.to post.message) x (Err (NoMessage (length s.sent))) ≡ Ok h) at e in
    subst (λ (x : Bool). (if x then nothing s else proxy_did s p (proxy_takes (proxy_at s p) message)) ≡ Ok h) (is ∙ runs) one

-- what is delivered under a live call's handle is taken by it
pub takes_it : (s : Store) (e : Event) (h : Happening) (p : ℕ) (message : Message) (live : LiveCall) → step s e ≡ Ok h → IsDelivered s e p message → IsLiveAt s p (handle_in message) live → CallTook s p message live h
unfolding step proxy_takes
takes_it s e h p message live taken d there =
    let now : step s (Deliver d.place) ≡ Ok h = subst (λ (x : Event). step s x ≡ Ok h) d.delivers taken in
    let made : Done Proxy = proxy_takes_as (learned (proxy_at s p) message) message in
    let is : h ≡ did s p (proxy_takes_as (learned (proxy_at s p) message) message) =
    sends_is (with_proxy s p made.actor) made.posts made.marks h (delivered s d.place p message (slice_get s.sent d.place) false h d.sent refl d.runs now) in
    record {
      sent = found_among s.sent d.place (record { to = to.Proxy p; message = message }) d.sent;
      live = there;
      is = is ∙ ap (λ (o : Option LiveCall). did s p (option_map_or (call_takes (learned (proxy_at s p) message) message) o (only_learns (learned (proxy_at s p) message)))) there;
    }

-- A call that has ended lives no more, and ends once; the greatest answer and the tickets after every event.
use Rattle.std.proofs.Common.{◌≡◌, inl, inr, ℕ, Bool, true, false, [], ◌∷◌, ◌++◌, refl, sym, ap, ◌∙◌, subst, ◌<◌, List, arith, if◌then◌else◌, Some, Contains, length, ◌≤◌, Option, None, IsSome}
use Rattle.register_law.proofs.Words.{with_proxy, Call, KeyId, Stamp, tag_of, Message, Reply, Tag, item_at, Handle, Work, key_of_call, tag_of_call, learned, draws_ticket, Store, proxy_at, view_at, Happening, handle_in, LiveCall, CallTook, Happened, Started, next_call, Ghost, Inv, IsLiveAt, Proxy, is_dead, Mark, HasBegin, Contains-append_cases, Contains-append_left, Contains-append_right, IsAtMost, greater, Begun, answered_with, is_begun, noted_of, raised_by, top_after, among, none_among, IsAtMost-trans, TagsTellApart}
use Rattle.wire_msg.specs.declared.actor.Actor.TheVariants as to
use Rattle.run_marks.specs.declared.mark.Mark.TheVariants as k
use Rattle.slot_pool.proofs.HistoryLemmas.{take_map}
use Rattle.wire_msg.specs.declared.outputs.Reply.TheVariants as r
use Rattle.register_law.proofs.TagsCalls.{taken_of, lives_on, proxy_is, lives_within, same_place, LiveFrom, older, newer, live_from, next_is_none}
use Rattle.register_law.proofs.Basics.{is_itself}
use Rattle.register_law.proofs.CallsOthers.{take_end, take_ticket_is}
use Rattle.register_law.proofs.MarksAre.{GivenUp, start_ticket, marks_are, EndIs, at_once, by_message, by_hand, end_is, one_end, TicketIs, drawn_first, drawn_later, ticket_is}
use Rattle.register_law.proofs.EndsBegun.{marked_is_old, was_of_key}
use Rattle.register_law.proofs.MarksOfKey.{Splits, in_front, behind, splits, in_between}
use Rattle.register_law.proofs.Growth.{second_below, top_rises, step_grows}
use Rattle.std.proofs.lemmas.Bool.{cond-true}
use Rattle.std.proofs.lemmas.Option.{none-some}

-- a call that ended at a message is no longer where it was
pub ended_is_gone : (s : Store) (h : Happening) (p : ℕ) (message : Message) (live x : LiveCall) (reply : Reply) → CallTook s p message live h → p < length s.proxies → (taken_of s p message live).out.end ≡ Some reply → IsLiveAt h.store p (handle_in message) x → ⊥
ended_is_gone s h p message live x reply took lt ends there = let goes_on = (lives_on s h p message live x took lt there).no_end in cc

-- neither is one that was given up
pub given_is_gone : (s : Store) (h : Happening) (p : ℕ) (live x : LiveCall) (given : GivenUp s p live h) → p < length s.proxies → IsLiveAt h.store p given.handle x → ⊥
given_is_gone s h p live x given lt there =
    let here : IsLiveAt (with_proxy s p _) p given.handle x = subst (λ (z : Store). IsLiveAt z p given.handle x) given.after there in
    none-some x (sym (take_map (proxy_at s p).calls given.handle given.handle ∙ cond-true _ _ _ (is_itself given.handle.slot given.handle.generation)) ∙ subst (λ (y : Proxy). item_at y.calls given.handle ≡ Some x) (proxy_is s p _ lt) here)

start_marks_no_end : (X : Type 0) (one other call : Call) (key at : KeyId) (work asked : Work) (ticket : Stamp) (reply : Reply) (b : Bool)
    → k.Begin one key work ∷ (if b then k.Ticket one ticket ∷ [] else []) ≡ k.Begin other at asked ∷ k.End call reply ∷ [] → X
start_marks_no_end X one other call key at work asked ticket reply true e = absurd (cc)
start_marks_no_end X one other call key at work asked ticket reply false e = absurd (cc)

-- an event that begins and ends a call lets none live that began with it
not_both : (X : Type 0) (s : Store) (h : Happening) (p : ℕ) (key at : KeyId) (work asked : Work) (call : Call) (reply : Reply) → Started s p key work h → h.marks ≡ k.Begin call at asked ∷ k.End call reply ∷ [] → X
not_both X s h p key at work asked call reply st marks =
    start_marks_no_end X (next_call s p) call call key at work asked (start_ticket s p key) reply (draws_ticket work) (sym (ap (λ (x : Happening). x.marks) st.is) ∙ marks)

-- a call that lives after an event doesn't end in it
pub no_end_of_live : (s : Store) (h : Happening) → TagsTellApart s → (p : ℕ) (handle : Handle) (live : LiveCall) → IsLiveAt h.store p handle live → (call : Call) → (tag_of_call live).call ≡ call → (reply : Reply) → EndIs s h call reply → LiveFrom s h p handle live → ⊥
no_end_of_live s h tags p handle live lives call same reply (at_once q at work lt next dead _ marks) (older first there from _ _) = next_is_none s q (tag_of_call first) call (tags.live_numbered p handle first there).0 (sym from ∙ same) next
no_end_of_live s h tags p handle live lives call same reply (at_once q at work lt next dead _ marks) (newer at2 work2 st _ tag _) = not_both ⊥ s h p at2 at work2 work call reply st marks
no_end_of_live s h tags p handle live lives call same reply (by_message q message old took of ends) (older first there from _ _) =
    let own : tag_of_call old ≡ tag_of message = take_end old message (view_at (learned (proxy_at s q) message).views (key_of_call old)) (learned (proxy_at s q) message).seen reply ends in
    let place = same_place s tags p q handle (handle_in message) first old there took.live (sym from ∙ same ∙ sym of ∙ ap (λ (t : Tag). t.call) (sym own)) in
    ended_is_gone s h q message old live reply took (lives_within s tags q (handle_in message) old took.live) ends (subst (λ (x : Handle). IsLiveAt h.store q x live) place.1 (subst (λ (n : ℕ). IsLiveAt h.store n handle live) place.0 lives))
no_end_of_live s h tags p handle live lives call same reply (by_message q message old took of ends) (newer at work st _ tag _) = next_is_none s p (tag_of message) call (tags.sent_numbered message (to.Proxy q, took.sent)) of (sym same ∙ ap (λ (t : Tag). t.call) tag)
no_end_of_live s h tags p handle live lives call same reply (by_hand q old given of _) (older first there from _ _) =
    let place = same_place s tags p q handle given.handle first old there given.live (sym from ∙ same ∙ sym of) in
    given_is_gone s h q old live given (lives_within s tags q given.handle old given.live) (subst (λ (x : Handle). IsLiveAt h.store q x live) place.1 (subst (λ (n : ℕ). IsLiveAt h.store n handle live) place.0 lives))
no_end_of_live s h tags p handle live lives call same reply (by_hand q old given of _) (newer at work st _ tag _) = next_is_none s p (tag_of_call old) call (tags.live_numbered q given.handle old given.live).0 of (sym same ∙ ap (λ (t : Tag). t.call) tag)

-- a call that has ended lives no more
pub ended_after : (key : KeyId) (s : Store) (g : Ghost) (h : Happening) → Happened s h → Inv key s g → (call : Call) (reply : Reply) (p : ℕ) (handle : Handle) (live : LiveCall) → Contains (g.marks ++ h.marks) (k.End call reply) → IsLiveAt h.store p handle live → (tag_of_call live).call ≡ call → ⊥
ended_after key s g h is inv call reply p handle live c lives same =
    elim (Contains-append_cases g.marks h.marks (k.End call reply) c) as (λ _. ⊥) [ inl old ↦ was old (live_from s h is p handle live lives) | inr new ↦ no_end_of_live s h inv.tags p handle live lives call same reply (end_is s h (marks_are s h is) call reply new) (live_from s h is p handle live lives) ]
  where
    was : Contains g.marks (k.End call reply) → LiveFrom s h p handle live → ⊥
    was old (older first there from _ _) = inv.ends.ended call reply p handle first old there (sym from ∙ same)
    was old (newer at work st _ tag _) = marked_is_old key s g inv call (k.End call reply) old refl p (sym same ∙ ap (λ (t : Tag). t.call) tag)

-- ---- a call ends once, after its begin

-- a call that ends in the event was live, and is marked, or begins with it
pub data EndsFrom (s : Store) (g : Ghost) (h : Happening) (call : Call) (reply : Reply) : Type 0 where
  at_begin : (p : ℕ) (key : KeyId) (work : Work) → call ≡ next_call s p → is_dead reply ≡ true → h.marks ≡ k.Begin call key work ∷ k.End call reply ∷ [] → EndsFrom s g h call reply
  was_live : (p : ℕ) (handle : Handle) (live : LiveCall) → IsLiveAt s p handle live → (tag_of_call live).call ≡ call → EndsFrom s g h call reply

pub ends_from : (s : Store) (g : Ghost) (h : Happening) (call : Call) (reply : Reply) → EndIs s h call reply → EndsFrom s g h call reply
ends_from s g h call reply (at_once p key work lt next dead _ marks) = at_begin p key work next dead marks
ends_from s g h call reply (by_message p message live took of ends) =
    let own : tag_of_call live ≡ tag_of message = take_end live message (view_at (learned (proxy_at s p) message).views (key_of_call live)) (learned (proxy_at s p) message).seen reply ends in
    was_live p (handle_in message) live took.live (ap (λ (t : Tag). t.call) own ∙ of)
ends_from s g h call reply (by_hand p live given of _) = was_live p given.handle live given.live of

-- a call has one end
pub ends_once_after : (key : KeyId) (s : Store) (g : Ghost) (h : Happening) → Happened s h → Inv key s g → (call : Call) (one other : Reply) → Contains (g.marks ++ h.marks) (k.End call one) → Contains (g.marks ++ h.marks) (k.End call other) → one ≡ other
ends_once_after key s g h is inv call one other a b =
    elim (Contains-append_cases g.marks h.marks (k.End call one) a) as (λ _. one ≡ other) [
      | inl old ↦ elim (Contains-append_cases g.marks h.marks (k.End call other) b) as (λ _. one ≡ other) [ inl too ↦ inv.ends.ends_once call one other old too | inr new ↦ absurd (twice one other old new) ]
      | inr new ↦ elim (Contains-append_cases g.marks h.marks (k.End call other) b) as (λ _. one ≡ other) [ inl old ↦ absurd (twice other one old new) | inr too ↦ one_end s h (marks_are s h is) call call one other new too ]
    ]
  where
    twice : (first second : Reply) → Contains g.marks (k.End call first) → Contains h.marks (k.End call second) → ⊥
    twice first second old new = by (ends_from s g h call second (end_is s h (marks_are s h is) call second new))
      where
        by : EndsFrom s g h call second → ⊥
        by (at_begin p at work next dead marks) = marked_is_old key s g inv call (k.End call first) old refl p next
        by (was_live p handle live there of) = inv.ends.ended call first p handle live old there of

-- a call's end stands behind its begin
pub begun_first_after : (key : KeyId) (s : Store) (g : Ghost) (h : Happening) → Happened s h → Inv key s g → (call : Call) (reply : Reply) (earlier later : List Mark) → g.marks ++ h.marks ≡ earlier ++ k.End call reply ∷ later → (at : KeyId) × (work : Work) × Contains earlier (k.Begin call at work)
begun_first_after key s g h is inv call reply earlier later split = by (splits g.marks h.marks earlier (k.End call reply) later split)
  where
    by : Splits g.marks h.marks earlier (k.End call reply) later → (at : KeyId) × (work : Work) × Contains earlier (k.Begin call at work)
    by (in_front m front back) = inv.ends.begun_first call reply earlier m front
    by (behind m front back) = from (ends_from s g h call reply (end_is s h (marks_are s h is) call reply (in_between h.marks m (k.End call reply) later back)))
      where
        from : EndsFrom s g h call reply → (at : KeyId) × (work : Work) × Contains earlier (k.Begin call at work)
        from (at_begin p at work next dead marks) = (at, work, subst (λ (x : List Mark). Contains x (k.Begin call at work)) (sym front) (Contains-append_right g.marks m (k.Begin call at work) (first_of m (sym marks ∙ back))))
          where
            first_of : (n : List Mark) → k.Begin call at work ∷ k.End call reply ∷ [] ≡ n ++ k.End call reply ∷ later → Contains n (k.Begin call at work)
            first_of [] e = absurd (cc)
            first_of (x ∷ xs) e = let first : k.Begin call at work ≡ x = cc in (0, omega arith, sym first)
        from (was_live p handle live there of) =
            let b : HasBegin g.marks (tag_of_call live).call = inv.ends.live_marked p handle live there in
            (b.at, b.work, subst (λ (x : List Mark). Contains x (k.Begin call b.at b.work)) (sym front) (Contains-append_left g.marks m (k.Begin call b.at b.work) (subst (λ (c : Call). Contains g.marks (k.Begin c b.at b.work)) of b.marked)))

-- each live call's begin is marked
pub live_marked_after : (key : KeyId) (s : Store) (g : Ghost) (h : Happening) → Happened s h → Inv key s g → (p : ℕ) (handle : Handle) (live : LiveCall) → IsLiveAt h.store p handle live → HasBegin (g.marks ++ h.marks) (tag_of_call live).call
live_marked_after key s g h is inv p handle live lives = by (live_from s h is p handle live lives)
  where
    by : LiveFrom s h p handle live → HasBegin (g.marks ++ h.marks) (tag_of_call live).call
    by (older old there from _ _) =
        let b : HasBegin g.marks (tag_of_call old).call = inv.ends.live_marked p handle old there in
        subst (HasBegin (g.marks ++ h.marks)) (sym from) (record { at = b.at; work = b.work; marked = Contains-append_left g.marks h.marks (k.Begin (tag_of_call old).call b.at b.work) b.marked })
    by (newer at work st _ tag _) =
        let first : Contains h.marks (k.Begin (next_call s p) at work) = subst (λ (x : Happening). Contains x.marks (k.Begin (next_call s p) at work)) (sym st.is) (0, omega arith, refl) in
        subst (HasBegin (g.marks ++ h.marks)) (ap (λ (t : Tag). t.call) (sym tag)) (record { at = at; work = work; marked = Contains-append_right g.marks h.marks (k.Begin (next_call s p) at work) first })

-- ---- the greatest answer and the tickets after every event

pub dead_answers_none : (reply : Reply) → is_dead reply ≡ true → answered_with reply ≡ None
dead_answers_none r.GivenUp h = cc
dead_answers_none reply h = cc

begun_true : (o : Option Begun) → IsSome o → is_begun o ≡ true
begun_true None h = absurd (cc)
begun_true (Some b) h = refl

-- the greatest answer after some marks isn't below any of theirs
above_each : (is_of : Call → Bool) (marks : List Mark) (top : Stamp) (call : Call) (reply : Reply) (stamp : Stamp) → is_of call ≡ true → answered_with reply ≡ Some stamp → Contains marks (k.End call reply) → IsAtMost stamp (top_after is_of marks top)
above_each is_of [] top call reply stamp of answered c = absurd (none_among (k.End call reply) c)
above_each is_of (k.End other given ∷ rest) top call reply stamp of answered c =
    let later = above_each is_of rest (if is_of other then raised_by (answered_with given) top else top) call reply stamp of answered in
    elim (among (k.End other given) rest (k.End call reply) c) as (λ _. IsAtMost stamp (top_after is_of (k.End other given ∷ rest) top)) [
      | inl same ↦ IsAtMost-trans stamp (if is_of other then raised_by (answered_with given) top else top) (top_after is_of rest (if is_of other then raised_by (answered_with given) top else top))
          (raised (is_of other) (answered_with given) (let e : call ≡ other = cc in subst (λ (x : Call). is_of x ≡ true) e of) (let e : reply ≡ given = cc in subst (λ (x : Reply). answered_with x ≡ Some stamp) e answered))
          (top_rises is_of rest (if is_of other then raised_by (answered_with given) top else top))
      | inr more ↦ later more
    ]
  where
    raised : (b : Bool) (o : Option Stamp) → b ≡ true → o ≡ Some stamp → IsAtMost stamp (if b then raised_by o top else top)
    raised true (Some x) e f = let same : x ≡ stamp = cc in subst (λ (y : Stamp). IsAtMost y (greater top x)) same (second_below top x)
    raised true None e f = absurd (cc)
    raised false o e f = absurd (cc)
above_each is_of (mark ∷ rest) top call reply stamp of answered c =
    let later = above_each is_of rest top call reply stamp of answered in
    elim (among mark rest (k.End call reply) c) as (λ _. IsAtMost stamp (top_after is_of rest top)) [ inl same ↦ absurd (let e = same in cc) | inr more ↦ later more ]

-- no answer is above the greatest
pub top_greatest_after : (key : KeyId) (s : Store) (g : Ghost) (h : Happening) → Happened s h → Inv key s g → (call : Call) (reply : Reply) (stamp : Stamp) → IsSome ((noted_of key s h g).begun call) → Contains (g.marks ++ h.marks) (k.End call reply) → answered_with reply ≡ Some stamp → IsAtMost stamp (noted_of key s h g).top
top_greatest_after key s g h is inv call reply stamp some c answered =
    elim (Contains-append_cases g.marks h.marks (k.End call reply) c) as (λ _. IsAtMost stamp (noted_of key s h g).top) [
      | inl old ↦ IsAtMost-trans stamp g.top (noted_of key s h g).top (inv.ends.top_greatest call reply stamp (was_of_key key s g h is inv call (k.End call reply) old refl some) old answered) (step_grows key s g h is (λ c z. (inv.requests.begun_numbered c z).1)).top
      | inr new ↦ above_each (λ c. is_begun (g.begun c)) h.marks g.top call reply stamp (from (ends_from s g h call reply (end_is s h (marks_are s h is) call reply new))) answered new
    ]
  where
    from : EndsFrom s g h call reply → is_begun (g.begun call) ≡ true
    from (at_begin p at work next dead marks) = absurd (let e = dead_answers_none reply dead in cc)
    from (was_live p handle live there of) =
        let b : HasBegin g.marks (tag_of_call live).call = inv.ends.live_marked p handle live there in
        begun_true (g.begun call) (was_of_key key s g h is inv call (k.Begin call b.at b.work) (subst (λ (c : Call). Contains g.marks (k.Begin c b.at b.work)) of b.marked) refl some)

-- each ticket names its call
pub tickets_after : (s : Store) (h : Happening) (marks : List Mark) → Happened s h → ((call : Call) (stamp : Stamp) → Contains marks (k.Ticket call stamp) → (stamp.proxy ≡ call.proxy) × (stamp.seq ≡ call.seq) × (1 ≤ stamp.number))
    → (call : Call) (stamp : Stamp) → Contains (marks ++ h.marks) (k.Ticket call stamp) → (stamp.proxy ≡ call.proxy) × (stamp.seq ≡ call.seq) × (1 ≤ stamp.number)
tickets_after s h marks is was call stamp c =
    elim (Contains-append_cases marks h.marks (k.Ticket call stamp) c) as (λ _. (stamp.proxy ≡ call.proxy) × (stamp.seq ≡ call.seq) × (1 ≤ stamp.number)) [
      | inl old ↦ was call stamp old
      | inr new ↦ from (ticket_is s h (marks_are s h is) call stamp new)
    ]
  where
    from : TicketIs s h call stamp → (stamp.proxy ≡ call.proxy) × (stamp.seq ≡ call.seq) × (1 ≤ stamp.number)
    from (drawn_first p at next drawn) =
        let some : 1 ≤ (start_ticket s p at).number = omega arith in
        (ap (λ (x : Stamp). x.proxy) drawn ∙ ap (λ (x : Call). x.proxy) (sym next), ap (λ (x : Stamp). x.seq) drawn ∙ ap (λ (x : Call). x.seq) (sym next), subst (λ (x : Stamp). 1 ≤ x.number) (sym drawn) some)
    from (drawn_later p message live took of draws) =
        let t = take_ticket_is live message (view_at (learned (proxy_at s p) message).views (key_of_call live)) (learned (proxy_at s p) message).seen stamp draws in
        (t.proxy ∙ ap (λ (x : Call). x.proxy) of, t.seq ∙ ap (λ (x : Call). x.seq) of, t.some)

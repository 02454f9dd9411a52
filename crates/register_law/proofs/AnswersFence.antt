-- Every event keeps what the answers to the first phase of a leg tell: its replicas, and their fences.
use Rattle.std.proofs.Common.{◌≡◌, ◌⊎◌, inl, inr, ℕ, ◌<◌, ◌≤◌, true, List, refl, sym, ap, ◌∙◌, subst, arith, Option, Some, None, IsSome, Contains}
use Rattle.std.proofs.lemmas.Option.{same_Some}
use Rattle.register_law.proofs.Words.{KeyId, IsAbove, IsAtMost, grants, Stamp, tag_of, Message, Tag, Rises, key_of, Kept, Store, kept_of, Happening, Happened, Ghost, noted_of, Inv, IsLegRequest, IsTicketIn, IsTagOf, WasSent, IsSamePoint, request_key, Call, stamp_zero, Post, CallState, Handle, key_of_call, tag_of_call, ticket_of, proxy_at, view_at, handle_in, LiveCall, Strong, next_call, IsLiveStrong, WasAsked, IsTicketOf, IsLiveAt, common_steps, IsAtMost-trans, none_among, NotedLeg as Leg}
use Rattle.ticket_rules.proofs.StampOrder.{IsAbove-trans, IsAtMost-cases}
use Rattle.wire_msg.specs.declared.message.Message.TheVariants as m
use Rattle.register_law.proofs.Kept.{rises, KeptIs, kept_cases}
use Rattle.register_law.proofs.TagsSent.{posted, PostsAre, none, answered, of_start, of_call, posts_are, call_sends}
use Rattle.register_law.proofs.TagsKept.{tags_kept}
use Rattle.register_law.proofs.RequestsKept.{fresh_request, no_answer_asks, start_strong}
use Rattle.register_law.proofs.RequestsLegs.{IsNew, legs_are, leg_request_after}
use Rattle.register_law.proofs.AnswersTold.{Replied, both_sent, now_replied, pair_is, before_of, legs_before, read_replied, ask_replied}
use Rattle.register_law.proofs.TagsSends.{ticket_asked}
use Rattle.register_law.proofs.TagsSteps.{AsksAfter, may_ask}
use Rattle.register_law.proofs.TagsCalls.{started_opens, next_is_none}
use Rattle.register_law.proofs.ReplicasKept.{fence_after, fence_from}

-- what a leg found never falls
pub leg_past_after : (key : KeyId) (s : Store) (g : Ghost) (h : Happening) → Happened s h → Inv key s g → (leg : Leg) (d : ℕ) → Contains (noted_of key s h g).legs leg → IsAtMost (leg.snap d).version (kept_of h.store d key).version × ((leg.snap d).frozen ≤ (kept_of h.store d key).frozen)
leg_past_after key s g h is inv leg d there = by (legs_are key s g h leg there)
  where
    up : Rises (kept_of s d key) (kept_of h.store d key)
    up = rises key s h is d

    by : Contains g.legs leg ⊎ IsNew key s h leg → IsAtMost (leg.snap d).version (kept_of h.store d key).version × ((leg.snap d).frozen ≤ (kept_of h.store d key).frozen)
    by (inl old) =
        let was = inv.legs.past leg d old in
        let le = was.1 in
        let more = up.frozen in
        (IsAtMost-trans (leg.snap d).version (kept_of s d key).version (kept_of h.store d key).version was.0 up.version, omega arith)
    by (inr new) = subst (λ (x : ℕ → Kept). IsAtMost (x d).version (kept_of h.store d key).version × ((x d).frozen ≤ (kept_of h.store d key).frozen)) (ap (λ (x : Leg). x.snap) (sym new.begins.is)) (up.version, up.frozen)

-- an answer in a leg's first phase was sent before, or a replica answers the leg's request now; the leg was there
pub data LegAnswer (key : KeyId) (s : Store) (g : Ghost) (h : Happening) (leg : Leg) (message : Message) : Type 0 where
  told_before : Contains g.legs leg → WasSent s message → LegAnswer key s g h leg message
  told_now : Contains g.legs leg → (request : Message) → IsLegRequest key leg leg.ticket request → Replied key s h request message → LegAnswer key s g h leg message

leg_key_of : (key : KeyId) (leg : Leg) (ticket : Option Stamp) (request : Message) → IsLegRequest key leg ticket request → key_of request ≡ Some key
leg_key_of key leg None request is = ap key_of is
leg_key_of key leg (Some ticket) request is = ap key_of is

same_leg : (leg : Leg) (a b : Tag) → IsTagOf leg a → IsTagOf leg b → IsSamePoint a b
same_leg leg a b one other = record { call = one.call ∙ sym other.call; phase = one.phase ∙ sym other.phase }

-- a new leg has no answer yet
no_answer_yet : (X : Type 0) (key : KeyId) (s : Store) (g : Ghost) (h : Happening) (leg : Leg) (old : Message) → Happened s h → Inv key s g → IsNew key s h leg → WasSent s old → IsTagOf leg (tag_of old) → X
no_answer_yet X key s g h leg old is inv new sent of =
    absurd (fresh_request key s g h new.post.message old (before_of key s g inv) (posted s h is new.post new.there) new.begins.at_key sent (same_leg leg (tag_of old) (tag_of new.post.message) of new.begins.tag))

leg_answered : (key : KeyId) (s : Store) (g : Ghost) (h : Happening) → Happened s h → Inv key s g → (leg : Leg) (message : Message) → Contains (noted_of key s h g).legs leg → IsTagOf leg (tag_of message) → WasSent h.store message → request_key message ≡ None → LegAnswer key s g h leg message
leg_answered key s g h is inv leg message there of sent no_key =
    elim (pair_is key s g h request message inv is asked.1 sent (leg_key_of key leg leg.ticket request first) no_key (same_leg leg (tag_of request) (tag_of message) tagged of)) as (λ _. LegAnswer key s g h leg message) [
      | both_sent a b ↦ before b (legs_are key s g h leg there)
      | now_replied r ↦ now r (legs_are key s g h leg there)
    ]
  where
    asked : (request : Message) × WasSent h.store request × IsSome (request_key request) × (tag_of request ≡ tag_of message)
    asked = (tags_kept s h is inv.tags).answers_asked message sent no_key

    request : Message
    request = asked.0

    tagged : IsTagOf leg (tag_of request)
    tagged = subst (IsTagOf leg) (sym asked.3) of

    first : IsLegRequest key leg leg.ticket request
    first = leg_request_after key s g h is (legs_before key s g inv) leg request there asked.1 asked.2 tagged

    before : WasSent s message → Contains g.legs leg ⊎ IsNew key s h leg → LegAnswer key s g h leg message
    before b (inl old) = told_before old b
    before b (inr new) = no_answer_yet (LegAnswer key s g h leg message) key s g h leg message is inv new b of

    now : Replied key s h request message → Contains g.legs leg ⊎ IsNew key s h leg → LegAnswer key s g h leg message
    now r (inl old) = told_now old request first r
    now r (inr new) = no_answer_yet (LegAnswer key s g h leg message) key s g h leg request is inv new r.sent tagged

pub have_read_after : (key : KeyId) (s : Store) (g : Ghost) (h : Happening) → Happened s h → Inv key s g → (leg : Leg) (tag : Tag) (d : ℕ) (version mark : Stamp) (value : List ℕ) → Contains (noted_of key s h g).legs leg → leg.ticket ≡ None → IsTagOf leg tag → WasSent h.store (m.Have tag (record { 0 = d }) version mark value)
    → IsAtMost (leg.snap d).version version × ((leg.snap d).frozen < leg.epoch)
have_read_after key s g h is inv leg tag d version mark value there no_ticket of sent =
    elim (leg_answered key s g h is inv leg (m.Have tag (record { 0 = d }) version mark value) there of sent refl) as (λ _. IsAtMost (leg.snap d).version version × ((leg.snap d).frozen < leg.epoch)) [
      | told_before old b ↦ inv.answers.have_read leg tag d version mark value old no_ticket of b
      | told_now old request first r ↦ now old request (subst (λ (x : Option Stamp). IsLegRequest key leg x request) no_ticket first) r
    ]
  where
    now : Contains g.legs leg → (request : Message) → request ≡ m.Read (tag_of request) key leg.epoch → Replied key s h request (m.Have tag (record { 0 = d }) version mark value) → IsAtMost (leg.snap d).version version × ((leg.snap d).frozen < leg.epoch)
    now old request is_read r =
        let told = read_replied key s h (tag_of request) tag leg.epoch d version mark value (subst (λ (x : Message). Replied key s h x (m.Have tag (record { 0 = d }) version mark value)) is_read r) in
        let past = inv.legs.past leg d old in
        let lt = told.0 in
        let le = past.1 in
        (subst (IsAtMost (leg.snap d).version) told.1.version_is past.0, omega arith)

-- a ticket is granted as the fence, or above the version
granted : (t fence version : Stamp) → grants t fence version ≡ true → (t ≡ fence) ⊎ IsAbove t version
granted t fence version h = grind (arith, common_steps)

pub above_at_most : (a b c : Stamp) → IsAbove a b → IsAtMost c b → IsAbove a c
above_at_most a b c above below =
    elim (IsAtMost-cases c b below) as (λ _. IsAbove a c) [ inl same ↦ subst (IsAbove a) (sym same) above | inr more ↦ IsAbove-trans a b c above more ]

-- a ticket that a replica grants is above the version that the leg found
pub granted_above : (t fence version x : Stamp) → grants t fence version ≡ true → (fence ≡ t → IsAbove t x) → IsAtMost x version → IsAbove t x
granted_above t fence version x h f below =
    elim (granted t fence version h) as (λ _. IsAbove t x) [ inl same ↦ f (sym same) | inr above ↦ above_at_most t version x above below ]

pub yes_ask_after : (key : KeyId) (s : Store) (g : Ghost) (h : Happening) → Happened s h → Inv key s g → (leg : Leg) (tag : Tag) (d : ℕ) (ticket : Stamp) → Contains (noted_of key s h g).legs leg → leg.ticket ≡ Some ticket → IsTagOf leg tag → WasSent h.store (m.Yes tag (record { 0 = d }))
    → IsAbove ticket (leg.snap d).version × ((leg.snap d).frozen < leg.epoch)
yes_ask_after key s g h is inv leg tag d ticket there has_ticket of sent =
    elim (leg_answered key s g h is inv leg (m.Yes tag (record { 0 = d })) there of sent refl) as (λ _. IsAbove ticket (leg.snap d).version × ((leg.snap d).frozen < leg.epoch)) [
      | told_before old b ↦ inv.answers.yes_ask leg tag d ticket old has_ticket of b
      | told_now old request first r ↦ now old request (subst (λ (x : Option Stamp). IsLegRequest key leg x request) has_ticket first) r
    ]
  where
    now : Contains g.legs leg → (request : Message) → request ≡ m.Ask (tag_of request) key ticket → Replied key s h request (m.Yes tag (record { 0 = d })) → IsAbove ticket (leg.snap d).version × ((leg.snap d).frozen < leg.epoch)
    now old request is_ask r =
        let told = ask_replied key s h (tag_of request) tag ticket d (subst (λ (x : Message). Replied key s h x (m.Yes tag (record { 0 = d }))) is_ask r) in
        let past = inv.legs.past leg d old in
        let epochs : ticket.epoch ≡ leg.epoch = subst (IsTicketIn leg.epoch) has_ticket (inv.legs.opened leg old).1 in
        let lt = told.0 in
        let le = past.1 in
        (granted_above ticket (kept_of s d key).fence (kept_of s d key).version (leg.snap d).version told.1 (λ same. inv.answers.fence_leg leg d ticket old has_ticket same) past.0, omega arith)

-- ---- every event keeps it that a fence with a leg's ticket is above the version that the leg found: a new leg's ticket is no fence yet

-- an Ask that an event sends: of a call that begins, or of a live one's later leg
pub data NewAsk (key : KeyId) (s : Store) (tag : Tag) (stamp : Stamp) : Type 0 where
  at_start : (p : ℕ) → tag.call ≡ next_call s p → IsTicketOf tag stamp → NewAsk key s tag stamp
  at_leg : (p : ℕ) (handle : Handle) (call : CallState) → IsLiveStrong key s p handle call → tag.call ≡ call.progress.phase.tag.call → AsksAfter call stamp → NewAsk key s tag stamp

asks_at_leg : (key : KeyId) (s : Store) (p : ℕ) (handle : Handle) (call : LiveCall) (tag : Tag) (stamp : Stamp) → IsLiveAt s p handle call → key_of_call call ≡ key → tag.call ≡ (tag_of_call call).call → may_ask call stamp → NewAsk key s tag stamp
asks_at_leg key s p handle (Strong call) tag stamp live at of may = at_leg p handle call (record { live = live; at_key = at }) of may
asks_at_leg key s p handle call tag stamp live at of may = absurd may

ask_from : (key : KeyId) (s : Store) (g : Ghost) (h : Happening) (post : Post) (tag : Tag) (stamp : Stamp) → Inv key s g → PostsAre s h → Contains h.posts post → post.message ≡ m.Ask tag key stamp → NewAsk key s tag stamp
ask_from key s g h post tag stamp inv (none e) c is = absurd (none_among post (subst (λ (x : List Post). Contains x post) e c))
ask_from key s g h post tag stamp inv (answered from sent all) c is = no_answer_asks (NewAsk key s tag stamp) key s g from post.message (before_of key s g inv) sent (ap request_key is) (all post c)
ask_from key s g h post tag stamp inv (of_start p k work st e) c is =
    let first = started_opens s p k work h st in
    let there = subst (λ (x : List Post). Contains x post) e c in
    let two = first.requests post there in
    let keyed : (view_at (proxy_at s p).views k).key ≡ key = same_Some (view_at (proxy_at s p).views k).key key (sym two.1 ∙ ap request_key is) in
    let one = first.one (start_strong key s g h p k work (before_of key s g inv) st keyed) in
    let ticket : stamp ≡ ticket_of (proxy_at s p) (view_at (proxy_at s p).views k) (next_call s p) = one.asks stamp (ap ticket_asked (sym (one.copies post there)) ∙ ap ticket_asked is) in
    let call : tag.call ≡ next_call s p = ap (λ (x : Message). (tag_of x).call) (sym is) ∙ ap (λ (t : Tag). t.call) two.0 in
    let drawn : IsTicketOf tag (ticket_of (proxy_at s p) (view_at (proxy_at s p).views k) (next_call s p)) = record { proxy = ap (λ (x : Call). x.proxy) (sym call); seq = ap (λ (x : Call). x.seq) (sym call); some = omega arith } in
    at_start p call (subst (IsTicketOf tag) (sym ticket) drawn)
ask_from key s g h post tag stamp inv (of_call p message call took e) c is =
    let one = call_sends s p message call in
    let there = one.copies post (subst (λ (x : List Post). Contains x post) e c) in
    let may : may_ask call stamp = one.asks stamp (ap ticket_asked (sym there) ∙ ap ticket_asked is) in
    let keyed : key_of_call call ≡ key = same_Some (key_of_call call) key (sym one.at_key ∙ ap request_key (sym there) ∙ ap request_key is) in
    let of : tag.call ≡ (tag_of_call call).call = ap (λ (x : Message). (tag_of x).call) (sym is ∙ there) ∙ ap (λ (t : Tag). t.call) one.tagged in
    asks_at_leg key s p (handle_in message) call tag stamp took.live keyed of may

pub new_ask : (key : KeyId) (s : Store) (g : Ghost) (h : Happening) (post : Post) (tag : Tag) (stamp : Stamp) → Happened s h → Inv key s g → Contains h.posts post → post.message ≡ m.Ask tag key stamp → NewAsk key s tag stamp
new_ask key s g h post tag stamp is inv c e = ask_from key s g h post tag stamp inv (posts_are s h is) c e

-- the calls of two asks for one ticket are one
same_call : (one other : Tag) (stamp : Stamp) → IsTicketOf one stamp → IsTicketOf other stamp → one.call ≡ other.call
same_call one other stamp a b =
    ap (λ n. let c : Call = record { proxy = n; seq = one.call.seq } in c) (sym a.proxy ∙ b.proxy) ∙ ap (λ n. let c : Call = record { proxy = other.call.proxy; seq = n } in c) (sym a.seq ∙ b.seq)

-- a new ticket wasn't asked for before
pub ticket_is_new : (key : KeyId) (s : Store) (g : Ghost) (tag : Tag) (stamp : Stamp) → Inv key s g → NewAsk key s tag stamp → WasAsked key s stamp → ⊥
ticket_is_new key s g tag stamp inv (at_start p next drawn) asked =
    next_is_none s p asked.tag tag.call (inv.tags.sent_numbered (m.Ask asked.tag key stamp) asked.sent) (same_call asked.tag tag stamp (inv.messages.ask_sent asked.tag stamp asked.sent) drawn) next
ticket_is_new key s g tag stamp inv (at_leg p handle call live of after) asked =
    let drawn : IsTicketOf call.progress.phase.tag stamp = after.drawn in
    let le = (inv.strong p handle call live).epochs asked.tag stamp asked.sent (same_call asked.tag call.progress.phase.tag stamp (inv.messages.ask_sent asked.tag stamp asked.sent) drawn) in
    let lt = after.later in
    omega arith

some_number : (key : KeyId) (s : Store) (tag : Tag) (stamp : Stamp) → NewAsk key s tag stamp → 1 ≤ stamp.number
some_number key s tag stamp (at_start p next drawn) = drawn.some
some_number key s tag stamp (at_leg p handle call live of after) = after.drawn.some

-- nor is it the fence of any replica
no_fence_yet : (key : KeyId) (s : Store) (g : Ghost) (tag : Tag) (stamp fence : Stamp) → Inv key s g → NewAsk key s tag stamp → (fence ≡ stamp_zero) ⊎ WasAsked key s fence → fence ≡ stamp → ⊥
no_fence_yet key s g tag stamp fence inv new (inl zero) same =
    let one = some_number key s tag stamp new in
    let none : stamp.number ≡ 0 = ap (λ (x : Stamp). x.number) (sym same ∙ zero) in
    omega arith
no_fence_yet key s g tag stamp fence inv new (inr asked) same = ticket_is_new key s g tag stamp inv new (subst (WasAsked key s) same asked)

-- of a leg that was there
fence_old : (key : KeyId) (s : Store) (g : Ghost) (leg : Leg) (d : ℕ) (ticket : Stamp) (new : Kept) → Inv key s g → Contains g.legs leg → leg.ticket ≡ Some ticket → KeptIs key s d new → new.fence ≡ ticket → IsAbove ticket (leg.snap d).version
fence_old key s g leg d ticket new inv there has (inl same) is = inv.answers.fence_leg leg d ticket there has (ap (λ (x : Kept). x.fence) (sym same) ∙ is)
fence_old key s g leg d ticket new inv there has (inr took) is =
    let was : (kept_of s d key).fence ≡ ticket → IsAbove ticket (leg.snap d).version = inv.answers.fence_leg leg d ticket there has in
    fence_after (λ (x : Stamp). x ≡ ticket → IsAbove ticket (leg.snap d).version) (kept_of s d key) took.message was
    (λ tag at stamp asks granted same.
    granted_above ticket (kept_of s d key).fence (kept_of s d key).version (leg.snap d).version (subst (λ (x : Stamp). grants x (kept_of s d key).fence (kept_of s d key).version ≡ true) same granted) was (inv.legs.past leg d there).0)
    (ap (λ (x : Kept). x.fence) (sym took.is) ∙ is)

pub fence_leg_after : (key : KeyId) (s : Store) (g : Ghost) (h : Happening) → Happened s h → Inv key s g → (leg : Leg) (d : ℕ) (ticket : Stamp) → Contains (noted_of key s h g).legs leg → leg.ticket ≡ Some ticket → (kept_of h.store d key).fence ≡ ticket → IsAbove ticket (leg.snap d).version
fence_leg_after key s g h is inv leg d ticket there has fence = by (legs_are key s g h leg there)
  where
    by : Contains g.legs leg ⊎ IsNew key s h leg → IsAbove ticket (leg.snap d).version
    by (inl old) = fence_old key s g leg d ticket (kept_of h.store d key) inv old has (kept_cases key s h is d) fence
    by (inr new) =
        let asks : new.post.message ≡ m.Ask (tag_of new.post.message) key ticket = subst (λ (x : Option Stamp). IsLegRequest key leg x new.post.message) has new.begins.request in
        absurd (no_fence_yet key s g (tag_of new.post.message) ticket (kept_of h.store d key).fence inv (new_ask key s g h new.post (tag_of new.post.message) ticket is inv new.there asks) (fence_from key s g d (kept_of h.store d key) inv (kept_cases key s h is d)) fence)

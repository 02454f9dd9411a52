-- What one read or write of the key rests on, and that an event in which it has no part keeps it.
use Rattle.std.proofs.Common.{◌≡◌, ◌⊎◌, inl, inr, ℕ, ◌≤◌, List, ◌++◌, refl, sym, subst, Option, Some, None, IsSome, Contains}
use Rattle.register_law.proofs.Words.{member_of, KeyId, Policy, IsAtMost, Stamp, tag_of, Message, Tag, Found, Phase, leg_under, Stage, Ended, First, Looking, Second, CallState, ToRead, ToWrite, latest, Mark, Store, policy_of, Happening, Happened, Begun, Ghost, noted_of, FirstCounted, HasPolicy, HasTicket, HavesCounted, IsNotedLeg, IsStrongRequest, MayRepair, StoresOnly, StrongCounted, YesCounted, Grows, WasSent, IsSamePoint, request_key, IsPushFree, CallBacked, Contains-append_left, Contains-append_cases, StrongWork as Work}
use Rattle.wire_msg.specs.declared.message.Message.TheVariants as m
use Rattle.run_marks.specs.declared.mark.Mark.TheVariants as k
use Rattle.register_law.proofs.MovesStable.{sent_stays, known_stays}
use Rattle.register_law.proofs.Basics.{WasPosted, sent_cases}
use Rattle.register_law.proofs.CallsLive.{NotOwn, foreign, no_request, passed_on, Apart}

push_is_request : (message : Message) → (IsPushFree message → ⊥) → IsSome (request_key message)
push_is_request (m.Push tag key stamp onward value) h = refl
push_is_request message h = absurd (h tt)

-- a read or a write passes nothing on
never_pushes : (work : Work) (stage : Stage) (call : CallState) (message : Message) → IsStrongRequest work stage call message → IsPushFree message
never_pushes ToRead Second call message is = subst IsPushFree (sym is.2) tt
never_pushes work Ended call message is = absurd is
never_pushes work stage call message is = subst IsPushFree (sym is) tt

pub is_some_not_none : {X : Type 0} → (o : Option X) (P : Type 0) → IsSome o → o ≡ None → P
is_some_not_none {X} None P h e = absurd (cc)
is_some_not_none {X} (Some x) P h e = absurd (cc)

haves_stay : (s z : Store) (call : CallState) (best : Found) → ((message : Message) → WasSent s message → WasSent z message) → HavesCounted s call best → HavesCounted z call best
haves_stay s z call best up h = record {
  each = λ d c. (let a = h.each d c in record { version = a.version; marked = a.marked; value = a.value; sent = up (m.Have call.progress.phase.tag (record { 0 = d }) a.version a.marked a.value) a.sent; below = a.below; below_mark = a.below_mark });
  found = record { d = h.found.d; mark = h.found.mark; counted = h.found.counted; sent = up (m.Have call.progress.phase.tag (record { 0 = h.found.d }) best.stamp h.found.mark best.value) h.found.sent };
  marked = record { d = h.marked.d; version = h.marked.version; value = h.marked.value; counted = h.marked.counted; sent = up (m.Have call.progress.phase.tag (record { 0 = h.marked.d }) h.marked.version call.progress.top_mark h.marked.value) h.marked.sent };
}

first_stays : (s z : Store) (call : CallState) (best : Option Found) → ((message : Message) → WasSent s message → WasSent z message) → FirstCounted s call best → FirstCounted z call best
first_stays s z call None up h = h
first_stays s z call (Some best) up h = haves_stay s z call best up h

yes_stays : (s z : Store) (phase : Phase) → ((message : Message) → WasSent s message → WasSent z message) → YesCounted s phase → YesCounted z phase
yes_stays s z phase up h d c = up (m.Yes phase.tag (record { 0 = d })) (h d c)

pub counted_stays : (s z : Store) (work : Work) (stage : Stage) (call : CallState) → ((message : Message) → WasSent s message → WasSent z message) → StrongCounted s work stage call → StrongCounted z work stage call
counted_stays s z ToRead First call up h = first_stays s z call call.best up h
counted_stays s z (ToWrite value) First call up h = yes_stays s z call.progress.phase up h
counted_stays s z work Second call up h = yes_stays s z call.progress.phase up h
counted_stays s z work Looking call up h = tt
counted_stays s z work Ended call up h = tt

pub repair_stays : (key : KeyId) (s : Store) (g : Ghost) (z : Store) (n : Ghost) (work : Work) (stage : Stage) (best : Option Found) (floor : Stamp) → Grows key s g z n → MayRepair key s work stage best floor → MayRepair key z work stage best floor
repair_stays key s g z n ToRead Second (Some found) floor grows h = (known_stays key s g z n found.stamp found.value grows h.0, h.1)
repair_stays key s g z n work stage best floor grows h = tt

pub ticket_stays : (work : Work) (marks more : List Mark) (tag : Tag) (stamp : Stamp) → ((other : Stamp) → Contains more (k.Ticket tag.call other) → ⊥) → HasTicket work marks tag stamp → HasTicket work (marks ++ more) tag stamp
ticket_stays ToRead marks more tag stamp none h = tt
ticket_stays (ToWrite value) marks more tag stamp none h = record {
  noted = Contains-append_left marks more (k.Ticket tag.call stamp) h.noted;
  greatest = λ other c. elim (Contains-append_cases marks more (k.Ticket tag.call other) c) as (λ _. IsAtMost other stamp) [ inl old ↦ h.greatest other old | inr new ↦ absurd (none other new) ];
}

-- the policy of an epoch that has been current stays
pub epoch_policy_stays : (key : KeyId) (s : Store) (g : Ghost) (z : Store) (n : Ghost) (call : CallState) → Grows key s g z n → ((e : ℕ) → Contains g.opened e → (1 ≤ e) × (e ≤ latest s.directory)) → HasPolicy key s g call → HasPolicy key z n call
epoch_policy_stays key s g z n call grows published h =
    let range = published call.progress.leg.epoch h.opened in
    let same : policy_of s key call.progress.leg.epoch ≡ policy_of z key call.progress.leg.epoch = sym (grows.policies call.progress.leg.epoch range.0 range.1) in
    record {
      member = h.member;
      opened = grows.opened call.progress.leg.epoch h.opened;
      is_member = subst (λ (x : Policy). member_of x call.progress.at.0 ≡ Some h.member) same h.is_member;
      leg = subst (λ (x : Policy). call.progress.leg ≡ leg_under (record { key = key; epoch = call.progress.leg.epoch; policy = x }) h.member call.progress.leg.ticket) same h.leg;
      asked = h.asked;
      ticket = h.ticket;
    }

pub leg_stays : (key : KeyId) (s : Store) (g : Ghost) (z : Store) (n : Ghost) (call : CallState) → Grows key s g z n → IsNotedLeg g call → IsNotedLeg n call
leg_stays key s g z n call grows h = record { leg = h.leg; noted = grows.legs h.leg h.noted; call_is = h.call_is; phase_is = h.phase_is; epoch_is = h.epoch_is; ticket_is = h.ticket_is }

-- what is noted of a call that was begun is what was noted
pub begun_before : (o n : Option Begun) (b : Begun) → IsSome o → ((c : Begun) → o ≡ Some c → n ≡ Some c) → n ≡ Some b → o ≡ Some b
begun_before None n b some up e = absurd (cc)
begun_before (Some c) n b some up e = let k = up c refl in cc

pub stays : (key : KeyId) (s : Store) (g : Ghost) (h : Happening) (call : CallState) → Happened s h → Grows key s g h.store (noted_of key s h g) → ((e : ℕ) → Contains g.opened e → (1 ≤ e) × (e ≤ latest s.directory))
    → IsSome (g.begun call.progress.phase.tag.call) → Apart s call.progress.phase.tag h → CallBacked key s g call → CallBacked key h.store (noted_of key s h g) call
stays key s g h call is grows published some apart b = record {
  request = λ request sent any point. request_of request any point (sent_cases s h request is sent);
  counted = counted_stays s h.store call.work call.progress.stage call (λ message sent. sent_stays key s g h.store (noted_of key s h g) message grows sent) b.counted;
  within = b.within;
  policy = epoch_policy_stays key s g h.store (noted_of key s h g) call grows published b.policy;
  leg = λ first. leg_stays key s g h.store (noted_of key s h g) call grows (b.leg first);
  begun = λ c e. b.begun c (before c e);
  repair = λ c e. repair_stays key s g h.store (noted_of key s h g) call.work call.progress.stage call.best c.floor grows (b.repair c (before c e));
  store = λ tag stamp value sent own. store_of tag stamp value own (sent_cases s h (m.Store tag key stamp value) is sent);
  epochs = λ tag stamp sent own. ask_of tag stamp own (sent_cases s h (m.Ask tag key stamp) is sent);
  ticket = ticket_stays call.work g.marks h.marks call.progress.phase.tag call.progress.leg.ticket apart.tickets b.ticket;
}
  where
    before : (c : Begun) → (noted_of key s h g).begun call.progress.phase.tag.call ≡ Some c → g.begun call.progress.phase.tag.call ≡ Some c
    before c e = begun_before (g.begun call.progress.phase.tag.call) ((noted_of key s h g).begun call.progress.phase.tag.call) c some (grows.begun call.progress.phase.tag.call) e

    not_own : (request : Message) → IsSome (request_key request) → IsSamePoint (tag_of request) call.progress.phase.tag → NotOwn s call.progress.phase.tag request → ⊥
    not_own request any point (foreign f) = f point.call
    not_own request any point (no_request none) = is_some_not_none (request_key request) ⊥ any none
    not_own request any point (passed_on push sent pushes same passed) =
        pushes (never_pushes call.work call.progress.stage call push
        (b.request push sent (push_is_request push pushes) (subst (λ (t : Tag). IsSamePoint t call.progress.phase.tag) same point)))

    request_of : (request : Message) → IsSome (request_key request) → IsSamePoint (tag_of request) call.progress.phase.tag → WasSent s request ⊎ WasPosted h request → IsStrongRequest call.work call.progress.stage call request
    request_of request any point (inl old) = b.request request old any point
    request_of request any point (inr new) = absurd (not_own request any point (apart.posts (record { to = new.0; message = request }) new.1))

    not_its : (request : Message) → IsPushFree request → IsSome (request_key request) → (tag_of request).call ≡ call.progress.phase.tag.call → NotOwn s call.progress.phase.tag request → ⊥
    not_its request free any own (foreign f) = f own
    not_its request free any own (no_request none) = is_some_not_none (request_key request) ⊥ any none
    not_its request free any own (passed_on push sent pushes same passed) = passed free

    store_of : (tag : Tag) (stamp : Stamp) (value : List ℕ) → tag.call ≡ call.progress.phase.tag.call → WasSent s (m.Store tag key stamp value) ⊎ WasPosted h (m.Store tag key stamp value) → StoresOnly call.work call.progress.stage call.progress.leg.ticket stamp
    store_of tag stamp value own (inl old) = b.store tag stamp value old own
    store_of tag stamp value own (inr new) = absurd (not_its (m.Store tag key stamp value) tt refl own (apart.posts (record { to = new.0; message = m.Store tag key stamp value }) new.1))

    ask_of : (tag : Tag) (stamp : Stamp) → tag.call ≡ call.progress.phase.tag.call → WasSent s (m.Ask tag key stamp) ⊎ WasPosted h (m.Ask tag key stamp) → stamp.epoch ≤ call.progress.leg.epoch
    ask_of tag stamp own (inl old) = b.epochs tag stamp old own
    ask_of tag stamp own (inr new) = absurd (not_its (m.Ask tag key stamp) tt refl own (apart.posts (record { to = new.0; message = m.Ask tag key stamp }) new.1))

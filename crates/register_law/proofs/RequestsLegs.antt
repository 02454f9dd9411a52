-- Every event keeps it that each leg of a call of a strong key has one request, its first one.
use Rattle.std.proofs.Common.{◌≡◌, ◌⊎◌, inl, inr, ℕ, ◌+◌, ◌≤◌, Bool, true, false, List, [], ◌∷◌, refl, sym, ap, ◌∙◌, subst, arith, ◌==◌, if◌then◌else◌, Option, Some, None, IsSome, Contains}
use Rattle.register_law.proofs.Words.{Call, KeyId, Stamp, tag_of, Message, Post, Tag, Kept, Handle, tag_of_call, Store, kept_of, proxy_at, Happening, handle_in, LiveCall, Happened, next_call, Ghost, leg_of, legs_after, noted_of, IsLegRequest, LegsAreBacked, IsTagOf, WasSent, IsLiveAt, IsPushFree, IsSamePoint, request_key, among, none_among, NotedLeg as Leg, IsTicketIn}
use Rattle.wire_msg.specs.declared.message.Message.TheVariants as m
use Rattle.register_law.proofs.Growth.{calls_grow}
use Rattle.register_law.proofs.TagsSent.{IsPushedOn, Posted, replies, opens, asks, posted, sent_after, posted_there}
use Rattle.register_law.proofs.TagsCalls.{LiveFrom, older, newer, live_from}
use Rattle.register_law.proofs.TagsKept.{tags_kept}
use Rattle.register_law.proofs.RequestsKept.{Before, no_answer_asks, requests_kept}
use Rattle.register_law.proofs.Basics.{key_is}
use Rattle.register_law.proofs.BegunCalls.{begun_some_stays}

-- a leg that begins now
abbrev pub new_leg : KeyId → Store → Tag → ℕ → Option Stamp → Leg
new_leg key s tag epoch ticket = record { call = tag.call; phase = tag.phase; epoch = epoch; ticket = ticket; snap = λ d. kept_of s d key }

-- the leg that the message begins
abbrev pub leg_made : KeyId → (ℕ → Kept) → Message → Option Leg
leg_made key snap (m.Read tag at epoch) = if at.0 == key.0 then Some (record { call = tag.call; phase = tag.phase; epoch = epoch; ticket = None; snap = snap }) else None
leg_made key snap (m.Ask tag at stamp) = if at.0 == key.0 then Some (record { call = tag.call; phase = tag.phase; epoch = stamp.epoch; ticket = Some stamp; snap = snap }) else None
leg_made key snap _ = None

-- what a leg's first request is
pub record Begins (key : KeyId) (s : Store) (leg : Leg) (message : Message) : Type 0 where
  pub tag : IsTagOf leg (tag_of message)
  pub at_key : request_key message ≡ Some key
  pub request : IsLegRequest key leg leg.ticket message
  pub ticket : IsTicketIn leg.epoch leg.ticket
  pub is : leg ≡ new_leg key s (tag_of message) leg.epoch leg.ticket

-- a leg that an event begins
pub record IsNew (key : KeyId) (s : Store) (h : Happening) (leg : Leg) : Type 0 where
  pub post : Post
  pub there : Contains h.posts post
  pub begins : Begins key s leg post.message
  pub made : leg_made key (λ d. kept_of s d key) post.message ≡ Some leg
  pub first : (other : Post) (rest : List Post) → h.posts ≡ other ∷ rest → other ≡ post

one_more : (b : Bool) (new : Leg) (legs : List Leg) (leg : Leg) → Contains (if b then new ∷ legs else legs) leg → Contains legs leg ⊎ ((if b then Some new else None) ≡ Some leg)
one_more true new legs leg h = elim (among new legs leg h) as (λ _. Contains legs leg ⊎ (Some new ≡ Some leg)) [ inl is ↦ inr (ap Some (sym is)) | inr old ↦ inl old ]
one_more false new legs leg h = inl h

made_or_old : (key : KeyId) (snap : ℕ → Kept) (message : Message) (legs : List Leg) (leg : Leg) → Contains (leg_of key snap message legs) leg → Contains legs leg ⊎ (leg_made key snap message ≡ Some leg)
made_or_old key snap (m.Read tag at epoch) legs leg h = one_more (at.0 == key.0) (record { call = tag.call; phase = tag.phase; epoch = epoch; ticket = None; snap = snap }) legs leg h
made_or_old key snap (m.Ask tag at stamp) legs leg h = one_more (at.0 == key.0) (record { call = tag.call; phase = tag.phase; epoch = stamp.epoch; ticket = Some stamp; snap = snap }) legs leg h
made_or_old key snap _ legs leg h = inl h

made_by : (P : Leg → Type 0) (b : Bool) (new leg : Leg) → (b ≡ true → P new) → (if b then Some new else None) ≡ Some leg → P leg
made_by P true new leg f e = let same : new ≡ leg = cc in subst P same (f refl)
made_by P false new leg f e = absurd (cc)

begins_read : (key at : KeyId) (s : Store) (tag : Tag) (epoch : ℕ) → at ≡ key → Begins key s (new_leg key s tag epoch None) (m.Read tag at epoch)
begins_read key at s tag epoch is = record { tag = record { call = refl; phase = refl }; at_key = ap Some is; request = ap (λ (x : KeyId). m.Read tag x epoch) is; ticket = tt; is = refl }

begins_ask : (key at : KeyId) (s : Store) (tag : Tag) (stamp : Stamp) → at ≡ key → Begins key s (new_leg key s tag stamp.epoch (Some stamp)) (m.Ask tag at stamp)
begins_ask key at s tag stamp is = record { tag = record { call = refl; phase = refl }; at_key = ap Some is; request = ap (λ (x : KeyId). m.Ask tag x stamp) is; ticket = refl; is = refl }

made_begins : (key : KeyId) (s : Store) (message : Message) (leg : Leg) → leg_made key (λ d. kept_of s d key) message ≡ Some leg → Begins key s leg message
made_begins key s (m.Read tag at epoch) leg e =
    made_by (λ (x : Leg). Begins key s x (m.Read tag at epoch)) (at.0 == key.0) (new_leg key s tag epoch None) leg (λ is. begins_read key at s tag epoch (key_is at key is)) e
made_begins key s (m.Ask tag at stamp) leg e =
    made_by (λ (x : Leg). Begins key s x (m.Ask tag at stamp)) (at.0 == key.0) (new_leg key s tag stamp.epoch (Some stamp)) leg (λ is. begins_ask key at s tag stamp (key_is at key is)) e
made_begins key s _ leg e = absurd (cc)

from_posts : (key : KeyId) (s : Store) (h : Happening) (posts : List Post) (legs : List Leg) (leg : Leg) → h.posts ≡ posts → Contains (legs_after key s posts legs) leg → Contains legs leg ⊎ IsNew key s h leg
from_posts key s h [] legs leg is c = inl c
from_posts key s h (post ∷ posts) legs leg is c =
    elim (made_or_old key (λ d. kept_of s d key) post.message legs leg c) as (λ _. Contains legs leg ⊎ IsNew key s h leg) [
      | inl old ↦ inl old
      | inr made ↦ inr (record {
        post = post;
        there = subst (λ (x : List Post). Contains x post) (sym is) (0, omega arith, refl);
        begins = made_begins key s post.message leg made;
        made = made;
        first = λ other rest e. (let same : other ∷ rest ≡ post ∷ posts = sym e ∙ is in cc);
      })
    ]

-- each leg after an event was there before, or begins with a Read or an Ask that the event sends
pub legs_are : (key : KeyId) (s : Store) (g : Ghost) (h : Happening) (leg : Leg) → Contains (noted_of key s h g).legs leg → Contains g.legs leg ⊎ IsNew key s h leg
legs_are key s g h leg c = from_posts key s h h.posts g.legs leg refl c

leg_push_free : (key : KeyId) (leg : Leg) (ticket : Option Stamp) (message : Message) → IsLegRequest key leg ticket message → IsPushFree message
leg_push_free key leg None message is = subst IsPushFree (sym is) tt
leg_push_free key leg (Some ticket) message is = subst IsPushFree (sym is) tt

-- what holds before the event, of legs too
pub record LegsBefore (key : KeyId) (s : Store) (g : Ghost) : Type 0 where
  pub before : Before key s g
  pub legs : LegsAreBacked key s g

-- a leg isn't of its proxy's next call
leg_is_old : (key : KeyId) (s : Store) (g : Ghost) (leg : Leg) (call : Call) (p : ℕ) → LegsBefore key s g → Contains g.legs leg → leg.call ≡ call → call ≡ next_call s p → ⊥
leg_is_old key s g leg call p b there is next =
    let le : (next_call s p).seq ≤ (proxy_at s (next_call s p).proxy).begun = subst (λ (c : Call). c.seq ≤ (proxy_at s c.proxy).begun) (is ∙ next) (b.legs.numbered leg there).1 in
    omega arith

-- a request that an event sends in a leg's first phase passes on what was sent in it
leg_old_by : (key : KeyId) (s : Store) (g : Ghost) (h : Happening) (leg : Leg) (request : Message) → LegsBefore key s g → Contains g.legs leg → Posted s h request → IsSome (request_key request) → IsTagOf leg (tag_of request) → IsLegRequest key leg leg.ticket request
leg_old_by key s g h leg request b there (replies from sent answer) some of = by answer.kind
  where
    tagged : IsTagOf leg (tag_of from)
    tagged = subst (IsTagOf leg) answer.tag of

    by : (request_key request ≡ None) ⊎ IsPushedOn from request → IsLegRequest key leg leg.ticket request
    by (inl is) = absurd (cc)
    by (inr on) = absurd (on.push (leg_push_free key leg leg.ticket from (b.legs.request leg from there sent answer.asked tagged)))
leg_old_by key s g h leg request b there (opens p k work st tag at free) some of = absurd (leg_is_old key s g leg (tag_of request).call p b there (sym of.call) (ap (λ (t : Tag). t.call) tag))
leg_old_by key s g h leg request b there (asks p taken call post took tag at free c) some of =
    let le = b.legs.bound leg p (handle_in taken) call there took.live (sym (ap (λ (t : Tag). t.call) tag) ∙ of.call) in
    let up : (tag_of request).phase ≡ (tag_of_call call).phase + 1 = ap (λ (t : Tag). t.phase) tag in
    let down = of.phase in
    absurd (omega arith)

-- a message of the key that an event sends is in no leg's first phase
pub fresh_leg : (key : KeyId) (s : Store) (g : Ghost) (h : Happening) (leg : Leg) (message : Message) → LegsBefore key s g → Contains g.legs leg → Posted s h message → request_key message ≡ Some key → IsTagOf leg (tag_of message) → ⊥
fresh_leg key s g h leg message b there (replies from sent answer) at of = no_answer_asks ⊥ key s g from message b.before sent at answer
fresh_leg key s g h leg message b there (opens p k work st tag is free) at of = leg_is_old key s g leg (tag_of message).call p b there (sym of.call) (ap (λ (t : Tag). t.call) tag)
fresh_leg key s g h leg message b there (asks p taken call post took tag is free c) at of =
    let le = b.legs.bound leg p (handle_in taken) call there took.live (sym (ap (λ (t : Tag). t.call) tag) ∙ of.call) in
    let up : (tag_of message).phase ≡ (tag_of_call call).phase + 1 = ap (λ (t : Tag). t.phase) tag in
    let down = of.phase in
    omega arith

-- the first request of a new leg was sent
new_sent : (key : KeyId) (s : Store) (h : Happening) → Happened s h → (leg : Leg) (new : IsNew key s h leg) → WasSent h.store new.post.message
new_sent key s h is leg new = (new.post.to, posted_there s h is new.post new.there)

pub leg_request_after : (key : KeyId) (s : Store) (g : Ghost) (h : Happening) → Happened s h → LegsBefore key s g → (leg : Leg) (request : Message) → Contains (noted_of key s h g).legs leg → WasSent h.store request → IsSome (request_key request) → IsTagOf leg (tag_of request) → IsLegRequest key leg leg.ticket request
leg_request_after key s g h is b leg request there sent some of = by (legs_are key s g h leg there) (sent_after s h is request sent)
  where
    by : Contains g.legs leg ⊎ IsNew key s h leg → WasSent s request ⊎ Posted s h request → IsLegRequest key leg leg.ticket request
    by (inl old) (inl was) = b.legs.request leg request old was some of
    by (inl old) (inr new) = leg_old_by key s g h leg request b old new some of
    by (inr new) _ =
        let first = new.begins in
        let same : IsSamePoint (tag_of new.post.message) (tag_of request) = record { call = first.tag.call ∙ sym of.call; phase = first.tag.phase ∙ sym of.phase } in
        subst (IsLegRequest key leg leg.ticket) ((requests_kept key s g h is b.before).one_request new.post.message request (new_sent key s h is leg new) sent first.at_key some same) first.request

pub leg_numbered_after : (key : KeyId) (s : Store) (g : Ghost) (h : Happening) → Happened s h → LegsBefore key s g → (leg : Leg) → Contains (noted_of key s h g).legs leg → IsSome ((noted_of key s h g).begun leg.call) × (leg.call.seq ≤ (proxy_at h.store leg.call.proxy).begun)
leg_numbered_after key s g h is b leg there = by (legs_are key s g h leg there)
  where
    by : Contains g.legs leg ⊎ IsNew key s h leg → IsSome ((noted_of key s h g).begun leg.call) × (leg.call.seq ≤ (proxy_at h.store leg.call.proxy).begun)
    by (inl old) =
        let was = b.legs.numbered leg old in
        let le = was.1 in
        let grows = calls_grow s h is leg.call.proxy in
        (begun_some_stays key s g h is b.before.requests leg.call was.0, omega arith)
    by (inr new) =
        let sent = new_sent key s h is leg new in
        subst (λ (c : Call). IsSome ((noted_of key s h g).begun c) × (c.seq ≤ (proxy_at h.store c.proxy).begun)) new.begins.tag.call
        ((requests_kept key s g h is b.before).request_begun new.post.message sent new.begins.at_key, ((tags_kept s h is b.before.tags).sent_numbered new.post.message sent).begun)

pub leg_bound_after : (key : KeyId) (s : Store) (g : Ghost) (h : Happening) → Happened s h → LegsBefore key s g → (leg : Leg) (p : ℕ) (handle : Handle) (call : LiveCall) → Contains (noted_of key s h g).legs leg → IsLiveAt h.store p handle call → (tag_of_call call).call ≡ leg.call → leg.phase ≤ (tag_of_call call).phase
leg_bound_after key s g h is b leg p handle call there live same = by (legs_are key s g h leg there) (live_from s h is p handle call live)
  where
    by : Contains g.legs leg ⊎ IsNew key s h leg → LiveFrom s h p handle call → leg.phase ≤ (tag_of_call call).phase
    by (inl old) (older was lived calls keys phase) = let le = b.legs.bound leg p handle was old lived (sym calls ∙ same) in omega arith
    by (inl old) (newer k work st free tag keyed) = absurd (leg_is_old key s g leg (tag_of_call call).call p b old (sym same) (ap (λ (t : Tag). t.call) tag))
    by (inr new) _ =
        let le = (tags_kept s h is b.before.tags).phase_bound p handle call new.post.message live (new_sent key s h is leg new) (new.begins.tag.call ∙ sym same) in
        let e = new.begins.tag.phase in
        omega arith

pub leg_once_after : (key : KeyId) (s : Store) (g : Ghost) (h : Happening) → Happened s h → LegsBefore key s g → (a c : Leg) → Contains (noted_of key s h g).legs a → Contains (noted_of key s h g).legs c → a.call ≡ c.call → a.phase ≡ c.phase → a ≡ c
leg_once_after key s g h is b a c ca cc' calls phases = by (legs_are key s g h a ca) (legs_are key s g h c cc')
  where
    both : (new : IsNew key s h a) (too : IsNew key s h c) (posts : List Post) → h.posts ≡ posts → a ≡ c
    both new too [] e = absurd (none_among new.post (subst (λ (x : List Post). Contains x new.post) e new.there))
    both new too (post ∷ rest) e =
        let one : post ≡ new.post = new.first post rest e in
        let other : post ≡ too.post = too.first post rest e in
        let same : leg_made key (λ d. kept_of s d key) new.post.message ≡ leg_made key (λ d. kept_of s d key) too.post.message = ap (λ (x : Post). leg_made key (λ d. kept_of s d key) x.message) (sym one ∙ other) in
        let both_made : Some a ≡ Some c = sym new.made ∙ same ∙ too.made in
        cc

    by : Contains g.legs a ⊎ IsNew key s h a → Contains g.legs c ⊎ IsNew key s h c → a ≡ c
    by (inl x) (inl y) = b.legs.once a c x y calls phases
    by (inl x) (inr y) = absurd (fresh_leg key s g h a y.post.message b x (posted s h is y.post y.there) y.begins.at_key (record { call = y.begins.tag.call ∙ sym calls; phase = y.begins.tag.phase ∙ sym phases }))
    by (inr x) (inl y) = absurd (fresh_leg key s g h c x.post.message b y (posted s h is x.post x.there) x.begins.at_key (record { call = x.begins.tag.call ∙ calls; phase = x.begins.tag.phase ∙ phases }))
    by (inr x) (inr y) = both x y h.posts refl

-- A read or a write that waits, repairs, stores, looks or begins a later leg keeps what it rests on.
use Rattle.std.proofs.Common.{◌≡◌, ℕ, ◌+◌, false, List, [], refl, sym, ap, ◌∙◌, subst, arith, Option, Some, Contains, ◌⊎◌, inl, inr, ◌<◌, ◌≤◌, ◌++◌, None}
use Rattle.register_law.proofs.Words.{no_centre, Call, KeyId, IsAtMost, Stamp, Message, Post, View, Tag, Found, done, repair_posts, store_posts, tag_after, Look, Repair, Wait, Leg, Progress, Stage, First, Looking, Second, CallState, ToRead, ToWrite, Mark, Happening, Begun, Ghost, noted_of, HasPolicy, HasTicket, IsStrongRequest, MayRepair, StoresOnly, IsKnown, CallBacked, StrongWork as Work, StoreNext as Store, Store as World, none_among, IsQuorumPolicy, member_of, members_of, Policy, Quorum, stamp_zero, first_posts, first_set, leg_ticket, leg_under, Enter, latest, policy_of, ticket_marks, TicketOf, common_steps, Contains-append_right, Contains-append_cases, has-no_centre, among, IsAtMost-trans, IsAtMost-refl}
use Rattle.wire_msg.specs.declared.actor.Actor.TheVariants as to
use Rattle.wire_msg.specs.declared.message.Message.TheVariants as m
use Rattle.strong_proxy.specs.Rule.{lookup_posts}
use Rattle.run_marks.specs.declared.mark.Mark.TheVariants as k
use Rattle.register_law.proofs.Next.{GoesOver, over_first, over_repair, over_look, EntersWith, EntersWhen}
use Rattle.register_law.proofs.Basics.{Each, each_none, each_one, each_to}
use Rattle.register_law.proofs.CallsLive.{NotOwn}
use Rattle.register_law.proofs.CallsBacked.{epoch_policy_stays, ticket_stays, stays}
use Rattle.register_law.proofs.CallsPhase.{same_ticket, phased, InEvent, no_good, new_phase}
use Rattle.register_law.proofs.Quorums.{member_is_in}
use Rattle.register_law.proofs.OpeningsShown.{IsOpenedView}
use Rattle.register_law.proofs.CallsLegs.{first_asks, none_first, asked_first, first_set_some, first_noted, under_policy}

-- before its second phase, and in it a read, a call has sent no Store
pub first_stores : (work : Work) (stage : Stage) (ticket stamp : Stamp) → stage ≡ First → StoresOnly work stage ticket stamp → ⊥
first_stores ToRead First ticket stamp is h = h
first_stores (ToWrite value) First ticket stamp is h = h
first_stores work stage ticket stamp is h = cc

pub looking_stores : (work : Work) (stage : Stage) (ticket stamp : Stamp) → stage ≡ Looking → StoresOnly work stage ticket stamp → ⊥
looking_stores ToRead Looking ticket stamp is h = h
looking_stores (ToWrite value) Looking ticket stamp is h = h
looking_stores work stage ticket stamp is h = cc

pub read_stores : (work : Work) (stage : Stage) (ticket stamp : Stamp) → work ≡ ToRead → StoresOnly work stage ticket stamp → ⊥
read_stores ToRead stage ticket stamp is h = h
read_stores (ToWrite value) stage ticket stamp is h = cc

-- a call whose leg is over has sent no Store in it
pub over_stores : (stage : Stage) (work : Work) (p : Progress) (view : View) (ticket stamp : Stamp) → GoesOver stage work p view → StoresOnly work stage ticket stamp → ⊥
over_stores stage work p view ticket stamp (over_first is lost) h = first_stores work stage ticket stamp is h
over_stores stage work p view ticket stamp (over_repair is reads lost) h = read_stores work stage ticket stamp reads h
over_stores stage work p view ticket stamp (over_look is le) h = looking_stores work stage ticket stamp is h

pub ticket_tag : (work : Work) (marks : List Mark) (a b : Tag) (stamp : Stamp) → a.call ≡ b.call → HasTicket work marks a stamp → HasTicket work marks b stamp
ticket_tag ToRead marks a b stamp e h = tt
ticket_tag (ToWrite value) marks a b stamp e h = record {
  noted = subst (λ (c : Call). Contains marks (k.Ticket c stamp)) e h.noted;
  greatest = λ other c. h.greatest other (subst (λ (x : Call). Contains marks (k.Ticket x other)) (sym e) c);
}

no_marks : (marks : List Mark) (mark : Mark) → marks ≡ [] → Contains marks mark → ⊥
no_marks marks mark e c = none_among mark (subst (λ (x : List Mark). Contains x mark) e c)

same_leg_ticket : (key : KeyId) (s : World) (g : Ghost) (h : Happening) (now : CallState) → InEvent key s g h now → h.marks ≡ [] → HasTicket now.work (noted_of key s h g).marks (tag_after now.progress) now.progress.leg.ticket
same_leg_ticket key s g h now e marks =
    ticket_tag now.work (noted_of key s h g).marks now.progress.phase.tag (tag_after now.progress) now.progress.leg.ticket refl
    (ticket_stays now.work g.marks h.marks now.progress.phase.tag now.progress.leg.ticket (λ other c. no_marks h.marks (k.Ticket now.progress.phase.tag.call other) marks c) e.backed.ticket)

pub waits_keep : (key : KeyId) (s : World) (g : Ghost) (h : Happening) (now : CallState) → InEvent key s g h now → h.posts ≡ [] → h.marks ≡ [] → CallBacked key h.store (noted_of key s h g) (done Wait now).state
waits_keep key s g h now e posts marks =
    stays key s g h now e.is e.grows e.published e.some
    (record { posts = subst (λ (x : List Post). Each (NotOwn s now.progress.phase.tag) x) (sym posts) (each_none (NotOwn s now.progress.phase.tag)); tickets = λ other c. no_marks h.marks (k.Ticket now.progress.phase.tag.call other) marks c }) e.backed

-- in its second phase
abbrev second : CallState → CallState
second now = phased now now.best now.progress.leg Second now.progress.leg.writes now.progress.lookups now.progress.top_mark false now.progress.top_held

second_policy : (key : KeyId) (s : World) (g : Ghost) (h : Happening) (now : CallState) → InEvent key s g h now → HasPolicy key h.store (noted_of key s h g) (second now)
second_policy key s g h now e =
    let p = epoch_policy_stays key s g h.store (noted_of key s h g) now e.grows e.published e.backed.policy in
    record {
      member = p.member;
      opened = p.opened;
      is_member = p.is_member;
      leg = p.leg;
      asked = ap (λ (l : Leg). l.writes) p.leg;
      ticket = same_ticket now.work now.progress (second now).progress refl refl p.ticket;
    }

pub repairs_keep : (key : KeyId) (s : World) (g : Ghost) (h : Happening) (now : CallState) (found : Found) → InEvent key s g h now → h.posts ≡ repair_posts now.best now.progress → h.marks ≡ []
    → now.progress.stage ≡ First → now.work ≡ ToRead → now.best ≡ Some found → IsKnown key h.store found.stamp found.value → ((b : Begun) → g.begun now.progress.phase.tag.call ≡ Some b → IsAtMost b.floor found.stamp)
    → CallBacked key h.store (noted_of key s h g) (done Repair now).state
repairs_keep key s g h now found e posts marks stage_is work_is best_is known floor =
    let message : Message = m.Repair (tag_after now.progress) now.progress.key now.progress.leg.epoch found.stamp found.value in
    new_phase key s g h now now.best now.progress.leg Second now.progress.leg.writes now.progress.lookups now.progress.top_mark false now.progress.top_held e
    (subst (λ (x : List Post). Each (IsStrongRequest now.work Second (second now)) x) (sym (posts ∙ ap (λ (o : Option Found). repair_posts o now.progress) best_is))
    (each_to (IsStrongRequest now.work Second (second now)) now.progress.leg.writes message (subst (λ (w : Work). IsStrongRequest w Second (second now) message) (sym work_is) (found, best_is, refl))))
    (λ d c. no_good d _ c)
    (second_policy key s g h now e)
    (λ first. absurd (cc))
    (λ b is. subst (λ (w : Work). MayRepair key h.store w Second now.best b.floor) (sym work_is) (subst (λ (o : Option Found). MayRepair key h.store ToRead Second o b.floor) (sym best_is) (known, floor b is)))
    (λ stamp x. absurd (first_stores now.work now.progress.stage now.progress.leg.ticket stamp stage_is x))
    (omega arith)
    (same_leg_ticket key s g h now e marks)

write_repairs : (key : KeyId) (s : World) (work : Work) (value : List ℕ) (stage : Stage) (best : Option Found) (floor : Stamp) → work ≡ ToWrite value → MayRepair key s work stage best floor
write_repairs key s ToRead value stage best floor is = absurd (cc)
write_repairs key s (ToWrite v) value stage best floor is = tt

pub stores_keep : (key : KeyId) (s : World) (g : Ghost) (h : Happening) (now : CallState) (value : List ℕ) → InEvent key s g h now → h.posts ≡ store_posts now.work now.progress → h.marks ≡ []
    → now.progress.stage ≡ First → now.work ≡ ToWrite value → CallBacked key h.store (noted_of key s h g) (done Store now).state
stores_keep key s g h now value e posts marks stage_is work_is =
    let message : Message = m.Store (tag_after now.progress) now.progress.key now.progress.leg.ticket value in
    new_phase key s g h now now.best now.progress.leg Second now.progress.leg.writes now.progress.lookups now.progress.top_mark false now.progress.top_held e
    (subst (λ (x : List Post). Each (IsStrongRequest now.work Second (second now)) x) (sym (posts ∙ ap (λ (w : Work). store_posts w now.progress) work_is))
    (each_to (IsStrongRequest now.work Second (second now)) now.progress.leg.writes message (subst (λ (w : Work). IsStrongRequest w Second (second now) message) (sym work_is) refl)))
    (λ d c. no_good d _ c)
    (second_policy key s g h now e)
    (λ first. absurd (cc))
    (λ b is. write_repairs key h.store now.work value Second now.best b.floor work_is)
    (λ stamp x. absurd (first_stores now.work now.progress.stage now.progress.leg.ticket stamp stage_is x))
    (omega arith)
    (same_leg_ticket key s g h now e marks)

looking_repairs : (key : KeyId) (s : World) (work : Work) (best : Option Found) (floor : Stamp) → MayRepair key s work Looking best floor
looking_repairs key s ToRead best floor = tt
looking_repairs key s (ToWrite v) best floor = tt

abbrev looks : CallState → CallState
looks now = phased now now.best now.progress.leg Looking no_centre (now.progress.lookups + 1) now.progress.top_mark false now.progress.top_held

pub looks_keep : (key : KeyId) (s : World) (g : Ghost) (h : Happening) (now : CallState) (view : View) → InEvent key s g h now → h.posts ≡ lookup_posts now.progress → h.marks ≡ []
    → GoesOver now.progress.stage now.work now.progress view → CallBacked key h.store (noted_of key s h g) (done Look now).state
looks_keep key s g h now view e posts marks over =
    let p = epoch_policy_stays key s g h.store (noted_of key s h g) now e.grows e.published e.backed.policy in
    new_phase key s g h now now.best now.progress.leg Looking no_centre (now.progress.lookups + 1) now.progress.top_mark false now.progress.top_held e
    (subst (λ (x : List Post). Each (IsStrongRequest now.work Looking (looks now)) x) (sym posts)
    (each_one (IsStrongRequest now.work Looking (looks now)) (record { to = to.Directory; message = m.Lookup (tag_after now.progress) now.progress.key }) refl))
    tt
    (record { member = p.member; opened = p.opened; is_member = p.is_member; leg = p.leg; asked = tt; ticket = same_ticket now.work now.progress (looks now).progress refl refl p.ticket })
    (λ first. absurd (cc))
    (λ b is. looking_repairs key h.store now.work now.best b.floor)
    (λ stamp x. absurd (over_stores now.progress.stage now.work now.progress view now.progress.leg.ticket stamp over x))
    (omega arith)
    (same_leg_ticket key s g h now e marks)

-- ---- a read or a write that begins a later leg keeps what it rests on

-- each epoch's policy of the key is sound
abbrev pub AreSound : KeyId → World → Type 0
AreSound key s = (e : ℕ) → 1 ≤ e → e ≤ latest s.directory → IsQuorumPolicy (policy_of s key e)

pub earlier_epoch : (a b : Stamp) → a.epoch < b.epoch → IsAtMost a b
earlier_epoch a b h = grind (arith, common_steps)

-- the call with this leg begun
abbrev begins_leg : CallState → Leg → CallState
begins_leg now leg = phased now None leg First (first_set now.work leg) now.progress.lookups stamp_zero false stamp_zero

drawn : (work : Work) (now : CallState) (view : View) (seen : ℕ) (member : Quorum) (ticket : Stamp) → EntersWith work ticket view seen now.progress → TicketOf work (begins_leg now (leg_under view member ticket)).progress
drawn ToRead now view seen member ticket e = tt
drawn (ToWrite value) now view seen member ticket e =
    subst (λ (t : Stamp). TicketOf (ToWrite value) (begins_leg now (leg_under view member t)).progress) (sym e) (refl, omega arith, refl, refl)

-- a ticket of a later epoch is the latest
latest_ticket : (work : Work) (marks more : List Mark) (tag after : Tag) (old : Progress) (leg : Leg) → tag.call ≡ after.call → TicketOf work old → old.leg.epoch < leg.ticket.epoch → more ≡ ticket_marks tag.call (leg_ticket work leg)
    → HasTicket work marks tag old.leg.ticket → HasTicket work (marks ++ more) after leg.ticket
latest_ticket ToRead marks more tag after old leg same t lt is h = tt
latest_ticket (ToWrite value) marks more tag after old leg same t lt is h = record {
  noted = subst (λ (c : Call). Contains (marks ++ more) (k.Ticket c leg.ticket)) same (Contains-append_right marks more (k.Ticket tag.call leg.ticket) (subst (λ (x : List Mark). Contains x (k.Ticket tag.call leg.ticket)) (sym is) (0, omega arith, refl)));
  greatest = λ other c. by other (Contains-append_cases marks more (k.Ticket tag.call other) (subst (λ (x : Call). Contains (marks ++ more) (k.Ticket x other)) (sym same) c));
}
  where
    same_stamp : (c d : Call) (a b : Stamp) → k.Ticket c a ≡ k.Ticket d b → a ≡ b
    same_stamp c d a b e = cc

    by : (other : Stamp) → Contains marks (k.Ticket tag.call other) ⊎ Contains more (k.Ticket tag.call other) → IsAtMost other leg.ticket
    by other (inl was) = (let e = t.0 in IsAtMost-trans other old.leg.ticket leg.ticket (h.greatest other was) (earlier_epoch old.leg.ticket leg.ticket (omega (arith, e, lt))))
    by other (inr new) =
        elim (among (k.Ticket tag.call leg.ticket) [] (k.Ticket tag.call other) (subst (λ (x : List Mark). Contains x (k.Ticket tag.call other)) is new)) as (λ _. IsAtMost other leg.ticket) [
          | inl e ↦ subst (λ (x : Stamp). IsAtMost x leg.ticket) (sym (same_stamp tag.call tag.call other leg.ticket e)) (IsAtMost-refl leg.ticket)
          | inr none ↦ absurd (none_among (k.Ticket tag.call other) none)
        ]

ticket_of_leg : (work : Work) (marks more : List Mark) (tag after : Tag) (old : Progress) (view : View) (seen : ℕ) (member : Quorum) (ticket : Stamp) → tag.call ≡ after.call → TicketOf work old → old.leg.epoch < view.epoch → EntersWith work ticket view seen old
    → more ≡ ticket_marks tag.call (leg_ticket work (leg_under view member ticket)) → HasTicket work marks tag old.leg.ticket → HasTicket work (marks ++ more) after ticket
ticket_of_leg ToRead marks more tag after old view seen member ticket same t lt e is h = tt
ticket_of_leg (ToWrite value) marks more tag after old view seen member ticket same t lt e is h =
    latest_ticket (ToWrite value) marks more tag after old (leg_under view member ticket) same t (subst (λ (x : Stamp). old.leg.epoch < x.epoch) (sym e) lt) is h

pub first_repairs : (key : KeyId) (s : World) (work : Work) (best : Option Found) (floor : Stamp) → MayRepair key s work First best floor
first_repairs key s ToRead best floor = tt
first_repairs key s (ToWrite value) best floor = tt

entering : (key : KeyId) (s : World) (g : Ghost) (h : Happening) (now : CallState) (view : View) (seen : ℕ) (member : Quorum) (ticket : Stamp) → InEvent key s g h now → IsOpenedView key s g view → AreSound key s
    → h.posts ≡ first_posts now.work now.progress.key (tag_after now.progress) (leg_under view member ticket) → h.marks ≡ ticket_marks now.progress.phase.tag.call (leg_ticket now.work (leg_under view member ticket))
    → now.progress.stage ≡ Looking → now.progress.leg.epoch < view.epoch → member_of view.policy now.progress.at.0 ≡ Some member → EntersWith now.work ticket view seen now.progress
    → CallBacked key h.store (noted_of key s h g) (begins_leg now (leg_under view member ticket))
entering key s g h now view seen member ticket e known sound posts marks stage_is later is_member with_ticket =
    let range = e.published view.epoch known.opened in
    let t = drawn now.work now view seen member ticket with_ticket in
    let here : Contains (members_of (policy_of s key view.epoch)) member = member_is_in (policy_of s key view.epoch) now.progress.at.0 member (subst (λ (x : Policy). member_of x now.progress.at.0 ≡ Some member) known.policy is_member) in
    let some = first_set_some now.work view member ticket (policy_of s key view.epoch) (sound view.epoch range.0 range.1) here in
    new_phase key s g h now None (leg_under view member ticket) First (first_set now.work (leg_under view member ticket)) now.progress.lookups stamp_zero false stamp_zero e
    (subst (λ (x : List Post). Each (IsStrongRequest now.work First (begins_leg now (leg_under view member ticket))) x) (sym posts) (first_asks now.work (begins_leg now (leg_under view member ticket))))
    (none_first h.store now.work (begins_leg now (leg_under view member ticket)) refl refl has-no_centre)
    (under_policy key h.store (noted_of key s h g) (begins_leg now (leg_under view member ticket)) view member refl is_member (e.grows.opened view.epoch known.opened)
    (known.policy ∙ sym (e.grows.policies view.epoch range.0 range.1)) (asked_first now.work view member ticket) t)
    (λ _. first_noted key s g h (begins_leg now (leg_under view member ticket)) e.at_key t some posts)
    (λ b is. first_repairs key h.store now.work None b.floor)
    (λ stamp x. absurd (looking_stores now.work now.progress.stage now.progress.leg.ticket stamp stage_is x))
    (omega (arith, later))
    (ticket_of_leg now.work g.marks h.marks now.progress.phase.tag (tag_after now.progress) now.progress view seen member ticket refl e.backed.policy.ticket later with_ticket marks e.backed.ticket)

pub enters_keep : (key : KeyId) (s : World) (g : Ghost) (h : Happening) (now : CallState) (view : View) (seen : ℕ) (leg : Leg) → InEvent key s g h now → IsOpenedView key s g view → AreSound key s
    → h.posts ≡ first_posts now.work now.progress.key (tag_after now.progress) leg → h.marks ≡ ticket_marks now.progress.phase.tag.call (leg_ticket now.work leg)
    → EntersWhen leg now.progress.stage now.work now.progress view seen → CallBacked key h.store (noted_of key s h g) (done (Enter leg) now).state
enters_keep key s g h now view seen leg e known sound posts marks w =
    subst (λ (x : Leg). CallBacked key h.store (noted_of key s h g) (begins_leg now x)) (sym w.leg_is)
    (entering key s g h now view seen w.member w.ticket e known sound (posts ∙ ap (first_posts now.work now.progress.key (tag_after now.progress)) w.leg_is) (marks ∙ ap (λ (x : Leg). ticket_marks now.progress.phase.tag.call (leg_ticket now.work x)) w.leg_is)
    w.stage_is w.later w.is_member w.ticket_is)

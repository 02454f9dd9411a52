-- A read or a write rests on what it sent for a new phase, and on what it counted of it.
use Rattle.std.proofs.Common.{◌≡◌, ℕ, ◌≤◌, Bool, true, refl, sym, ap, ◌∙◌, subst, Option, ◌⊎◌, inl, inr, List, arith, Some, IsSome, Contains}
use Rattle.register_law.proofs.Words.{has, DcSet, Call, KeyId, Stamp, Message, Found, Progress, Stage, Ended, Second, CallState, ToRead, ToWrite, Store, Ghost, IsStrongRequest, MayRepair, StrongCounted, TicketOf, CallBacked, StrongWork as Work, no_centre, tag_of, Tag, opened, tag_after, Leg, First, latest, Happening, Happened, Begun, noted_of, HasPolicy, HasTicket, IsNotedLeg, StoresOnly, Grows, WasSent, IsSamePoint, has-no_centre}
use Rattle.wire_msg.specs.declared.message.Message.TheVariants as m
use Rattle.register_law.proofs.Basics.{WasPosted, sent_cases, Each}
use Rattle.register_law.proofs.CallsBacked.{begun_before}

-- the call with other answers counted
abbrev pub recounted : CallState → Option Found → DcSet → DcSet → Stamp → Bool → ℕ → Stamp → CallState
recounted call best good bad mark had gone held = record {
  work = call.work;
  best = best;
  progress = record call.progress {
    phase = record { tag = call.progress.phase.tag; asked = call.progress.phase.asked; good = good; bad = bad };
    top_mark = mark;
    had_gone = had;
    top_gone = gone;
    top_held = held;
  };
}

-- the request of the phase is the same, where a read that repairs keeps what it found
same_request : (work : Work) (stage : Stage) (a b : CallState) (request : Message) → a.progress.phase.tag ≡ b.progress.phase.tag → a.progress.key ≡ b.progress.key → a.progress.leg ≡ b.progress.leg → (stage ≡ Second → a.best ≡ b.best)
    → IsStrongRequest work stage a request → IsStrongRequest work stage b request
same_request ToRead Second a b request t k l same h = (h.0, sym (same refl) ∙ h.1, h.2 ∙ cc)
same_request work Ended a b request t k l same h = h
same_request work stage a b request t k l same h = h ∙ cc

pub same_ticket : (work : Work) (p q : Progress) → p.leg ≡ q.leg → p.phase.tag.call ≡ q.phase.tag.call → TicketOf work p → TicketOf work q
same_ticket ToRead p q l t h = tt
same_ticket (ToWrite value) p q l t h =
    (cc, subst (λ x. 1 ≤ x.ticket.number) l h.1, sym (ap (λ x. x.ticket.proxy) l) ∙ h.2 ∙ ap (λ (x : Call). x.proxy) t, sym (ap (λ x. x.ticket.seq) l) ∙ h.3 ∙ ap (λ (x : Call). x.seq) t)

same_repair : (key : KeyId) (s : Store) (work : Work) (stage : Stage) (a b : Option Found) (floor : Stamp) → (stage ≡ Second → a ≡ b) → MayRepair key s work stage a floor → MayRepair key s work stage b floor
same_repair key s ToRead Second a b floor same h = subst (λ (x : Option Found). MayRepair key s ToRead Second x floor) (same refl) h
same_repair key s work stage a b floor same h = tt

pub recount : (key : KeyId) (s : Store) (g : Ghost) (call : CallState) (best : Option Found) (good bad : DcSet) (mark : Stamp) (had : Bool) (gone : ℕ) (held : Stamp) → CallBacked key s g call
    → (call.progress.stage ≡ Second → call.best ≡ best) → StrongCounted s call.work call.progress.stage (recounted call best good bad mark had gone held)
    → ((d : ℕ) → has good d ≡ true → has call.progress.phase.asked d ≡ true) → CallBacked key s g (recounted call best good bad mark had gone held)
recount key s g call best good bad mark had gone held b same now within =
    record {
      request = λ request sent any point. same_request call.work call.progress.stage call (recounted call best good bad mark had gone held) request refl refl refl same (b.request request sent any point);
      counted = now;
      within = within;
      policy = record {
        member = b.policy.member;
        opened = b.policy.opened;
        is_member = b.policy.is_member;
        leg = b.policy.leg;
        asked = b.policy.asked;
        ticket = same_ticket call.work call.progress (recounted call best good bad mark had gone held).progress refl refl b.policy.ticket;
      };
      leg = λ first. (let l = b.leg first in record { leg = l.leg; noted = l.noted; call_is = l.call_is; phase_is = l.phase_is; epoch_is = l.epoch_is; ticket_is = l.ticket_is });
      begun = b.begun;
      repair = λ c e. same_repair key s call.work call.progress.stage call.best best c.floor same (b.repair c e);
      store = b.store;
      epochs = b.epochs;
      ticket = b.ticket;
    }

-- ---- a read or a write that goes on with a new phase rests on what it sent for it

-- the call with a new phase
abbrev pub phased : CallState → Option Found → Leg → Stage → DcSet → ℕ → Stamp → Bool → Stamp → CallState
phased now best leg stage asked lookups mark had held = record {
  work = now.work;
  best = best;
  progress = record now.progress { leg = leg; stage = stage; phase = opened (tag_after now.progress) asked; lookups = lookups; top_mark = mark; had_gone = had; top_held = held };
}

-- a call of the key, its answer counted, in the event that its answer makes
pub record InEvent (key : KeyId) (s : Store) (g : Ghost) (h : Happening) (now : CallState) : Type 0 where
  pub is : Happened s h
  pub grows : Grows key s g h.store (noted_of key s h g)
  pub published : (e : ℕ) → Contains g.opened e → (1 ≤ e) × (e ≤ latest s.directory)
  pub some : IsSome (g.begun now.progress.phase.tag.call)
  pub at_key : now.progress.key ≡ key
  pub bound : (request : Message) → WasSent s request → (tag_of request).call ≡ now.progress.phase.tag.call → (tag_of request).phase ≤ now.progress.phase.tag.phase
  pub backed : CallBacked key s g now

-- a request that is a Store is one of the ticket
pub request_stores : (work : Work) (stage : Stage) (call : CallState) (tag : Tag) (key : KeyId) (stamp : Stamp) (value : List ℕ) → IsStrongRequest work stage call (m.Store tag key stamp value) → StoresOnly work stage call.progress.leg.ticket stamp
request_stores ToRead Second call tag key stamp value h = absurd (let e = h.2 in cc)
request_stores (ToWrite v) Second call tag key stamp value h = cc
request_stores work Ended call tag key stamp value h = absurd h
request_stores work stage call tag key stamp value h = absurd (cc)

-- a request that is an Ask is one of the ticket, and of its leg's epoch
pub request_asks : (work : Work) (stage : Stage) (call : CallState) (tag : Tag) (key : KeyId) (stamp : Stamp) → IsStrongRequest work stage call (m.Ask tag key stamp) → TicketOf work call.progress → stamp.epoch ≤ call.progress.leg.epoch
request_asks (ToWrite v) First call tag key stamp h t = (let e : stamp ≡ call.progress.leg.ticket = cc in let f : stamp.epoch ≡ call.progress.leg.epoch = ap (λ (x : Stamp). x.epoch) e ∙ t.0 in omega (arith, f))
request_asks ToRead Second call tag key stamp h t = absurd (let e = h.2 in cc)
request_asks work Ended call tag key stamp h t = absurd h
request_asks work stage call tag key stamp h t = absurd (cc)

pub no_good : (d : ℕ) (P : Type 0) → has no_centre d ≡ true → P
no_good d P h = absurd (let e = has-no_centre d in cc)

pub new_phase : (key : KeyId) (s : Store) (g : Ghost) (h : Happening) (now : CallState) (best : Option Found) (leg : Leg) (stage : Stage) (asked : DcSet) (lookups : ℕ) (mark : Stamp) (had : Bool) (held : Stamp) → InEvent key s g h now
    → Each (IsStrongRequest now.work stage (phased now best leg stage asked lookups mark had held)) h.posts
    → StrongCounted h.store now.work stage (phased now best leg stage asked lookups mark had held)
    → HasPolicy key h.store (noted_of key s h g) (phased now best leg stage asked lookups mark had held)
    → (stage ≡ First → IsNotedLeg (noted_of key s h g) (phased now best leg stage asked lookups mark had held))
    → ((b : Begun) → g.begun now.progress.phase.tag.call ≡ Some b → MayRepair key h.store now.work stage best b.floor)
    → ((stamp : Stamp) → StoresOnly now.work now.progress.stage now.progress.leg.ticket stamp → StoresOnly now.work stage leg.ticket stamp)
    → now.progress.leg.epoch ≤ leg.epoch
    → HasTicket now.work (noted_of key s h g).marks (tag_after now.progress) leg.ticket
    → CallBacked key h.store (noted_of key s h g) (phased now best leg stage asked lookups mark had held)
new_phase key s g h now best leg stage asked lookups mark had held e asks counted policy noted repair stores later ticket = record {
  request = λ request sent any point. request_of request point (sent_cases s h request e.is sent);
  counted = counted;
  within = λ d c. no_good d (has asked d ≡ true) c;
  policy = policy;
  leg = noted;
  begun = λ c b. e.backed.begun c (before c b);
  repair = λ c b. repair c (before c b);
  store = λ tag stamp value sent own. store_of tag stamp value own (sent_cases s h (m.Store tag key stamp value) e.is sent);
  epochs = λ tag stamp sent own. ask_of tag stamp own (sent_cases s h (m.Ask tag key stamp) e.is sent);
  ticket = ticket;
}
  where
    before : (c : Begun) → (noted_of key s h g).begun now.progress.phase.tag.call ≡ Some c → g.begun now.progress.phase.tag.call ≡ Some c
    before c b = begun_before (g.begun now.progress.phase.tag.call) ((noted_of key s h g).begun now.progress.phase.tag.call) c e.some (e.grows.begun now.progress.phase.tag.call) b

    request_of : (request : Message) → IsSamePoint (tag_of request) (tag_after now.progress) → WasSent s request ⊎ WasPosted h request
        → IsStrongRequest now.work stage (phased now best leg stage asked lookups mark had held) request
    request_of request point (inl old) = absurd (let le = e.bound request old point.call in let is = point.phase in omega (arith, le, is))
    request_of request point (inr new) = asks (record { to = new.0; message = request }) new.1

    store_of : (tag : Tag) (stamp : Stamp) (value : List ℕ) → tag.call ≡ now.progress.phase.tag.call → WasSent s (m.Store tag key stamp value) ⊎ WasPosted h (m.Store tag key stamp value)
        → StoresOnly now.work stage leg.ticket stamp
    store_of tag stamp value own (inl old) = stores stamp (e.backed.store tag stamp value old own)
    store_of tag stamp value own (inr new) = request_stores now.work stage (phased now best leg stage asked lookups mark had held) tag key stamp value (asks (record { to = new.0; message = m.Store tag key stamp value }) new.1)

    ask_of : (tag : Tag) (stamp : Stamp) → tag.call ≡ now.progress.phase.tag.call → WasSent s (m.Ask tag key stamp) ⊎ WasPosted h (m.Ask tag key stamp)
        → stamp.epoch ≤ leg.epoch
    ask_of tag stamp own (inl old) = (let le = e.backed.epochs tag stamp old own in omega (arith, le, later))
    ask_of tag stamp own (inr new) = request_asks now.work stage (phased now best leg stage asked lookups mark had held) tag key stamp (asks (record { to = new.0; message = m.Ask tag key stamp }) new.1) policy.ticket

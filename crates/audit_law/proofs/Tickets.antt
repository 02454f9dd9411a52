-- The tickets of a call rise, and the one that it has stays its latest.
use Rattle.std.proofs.Common.{◌≡◌, inl, inr, ℕ, ◌<◌, true, List, ◌++◌, refl, sym, ap, ◌∙◌, subst, arith, Option, Some, None, Contains}
use Rattle.std.proofs.lemmas.Option.{same_Some}
use Rattle.register_law.proofs.Words.{Call, IsAbove, IsAtMost, Stamp, Step, Message, Reply, View, Tag, counted, best_stamp, done, leg_ticket, next_of, Next, Enter, Leg, Progress, CallState, ToRead, ToWrite, Doing, Mark, IsLatestTicket, draws, IsWork, common_steps, Contains-append_left, Contains-append_right, Contains-append_cases, StrongWork as Work, Work as Asked, IsAtMost-trans, IsAtMost-refl}
use Rattle.relay_proxy.specs.declared.stage.Stage.TheVariants as doing
use Rattle.run_marks.specs.declared.mark.Mark.TheVariants as k
use Rattle.register_law.proofs.Next.{RestsOn, EntersWhen, EntersWith, rests_on}
use Rattle.register_law.proofs.MovesStep.{counted_tag}
use Rattle.register_law.proofs.CallsOthers.{StrongStep, counts_it, ignores_it}
use Rattle.audit_law.specs.Live.{StrongLatest, EventualLatest}
use Rattle.audit_law.proofs.StrongFits.{counted_latest}
use Rattle.register_law.proofs.CallsGoes.{earlier_epoch}

-- among these marks the call draws this ticket, and no other
pub record DrawsOnly (call : Call) (ticket : Option Stamp) (more : List Mark) : Type 0 where
  pub drawn : (stamp : Stamp) → ticket ≡ Some stamp → Contains more (k.Ticket call stamp)
  pub only : (stamp : Stamp) → Contains more (k.Ticket call stamp) → ticket ≡ Some stamp

no_stamp : (stamp : Stamp) (X : Type 0) → None ≡ Some stamp → X
no_stamp stamp X e = absurd (cc)

-- a ticket stays the latest where none is drawn
pub ticket_stays : (marks more : List Mark) (call : Call) (stamp : Stamp) → DrawsOnly call None more → IsLatestTicket marks call stamp → IsLatestTicket (marks ++ more) call stamp
ticket_stays marks more call stamp d h = record {
  drawn = Contains-append_left marks more (k.Ticket call stamp) h.drawn;
  latest = λ earlier c. elim (Contains-append_cases marks more (k.Ticket call earlier) c) as (λ _. IsAtMost earlier stamp) [ inl old ↦ h.latest earlier old | inr new ↦ no_stamp earlier (IsAtMost earlier stamp) (d.only earlier new) ];
}

pub strong_stays : (work : Work) (marks more : List Mark) (call : Call) (leg : Leg) → DrawsOnly call None more → StrongLatest work marks call leg → StrongLatest work (marks ++ more) call leg
strong_stays ToRead marks more call leg d h = tt
strong_stays (ToWrite value) marks more call leg d h = (ticket_stays marks more call leg.ticket d h.0, h.1)

pub eventual_stays : (at : Doing) (marks more : List Mark) (call : Call) → DrawsOnly call None more → EventualLatest at marks call → EventualLatest at (marks ++ more) call
eventual_stays doing.Getting marks more call d h = tt
eventual_stays (doing.Putting stamp) marks more call d h = ticket_stays marks more call stamp d h
eventual_stays doing.Ended marks more call d h = tt

later_is_above : (a b c : Stamp) → IsAtMost a b → b.epoch < c.epoch → IsAbove c a
later_is_above a b c h g = grind (arith, common_steps)

-- a ticket of a later epoch is above all before it
rises : (marks : List Mark) (call : Call) (old new : Leg) → IsLatestTicket marks call old.ticket × (old.ticket.epoch ≡ old.epoch) → old.epoch < new.ticket.epoch → (earlier : Stamp) → Contains marks (k.Ticket call earlier) → IsAbove new.ticket earlier
rises marks call old new h lt earlier c = let e = h.1 in later_is_above earlier old.ticket new.ticket (h.0.latest earlier c) (omega (arith, e, lt))

first_of_leg : (marks more : List Mark) (call : Call) (old new : Leg) → IsLatestTicket marks call old.ticket × (old.ticket.epoch ≡ old.epoch) → old.epoch < new.ticket.epoch → DrawsOnly call (Some new.ticket) more → IsLatestTicket (marks ++ more) call new.ticket
first_of_leg marks more call old new h lt d = record {
  drawn = Contains-append_right marks more (k.Ticket call new.ticket) (d.drawn new.ticket refl);
  latest = λ earlier c. elim (Contains-append_cases marks more (k.Ticket call earlier) c) as (λ _. IsAtMost earlier new.ticket) [
    | inl was ↦ (let e = h.1 in IsAtMost-trans earlier old.ticket new.ticket (h.0.latest earlier was) (earlier_epoch old.ticket new.ticket (omega (arith, e, lt))))
    | inr is ↦ subst (λ (x : Stamp). IsAtMost x new.ticket) (same_Some new.ticket earlier (d.only earlier is)) (IsAtMost-refl new.ticket)
  ];
}

-- the ticket of a later leg is of a later epoch, which is the leg's
record IsLater (old new : Leg) : Type 0 where
  later : old.epoch < new.ticket.epoch
  own : new.ticket.epoch ≡ new.epoch

enters_later : (work : Work) (value : List ℕ) (leg : Leg) (p : Progress) (view : View) (seen : ℕ) (ticket : Stamp) → work ≡ ToWrite value → EntersWith work ticket view seen p → p.leg.epoch < view.epoch → leg.ticket ≡ ticket → leg.epoch ≡ view.epoch → IsLater p.leg leg
enters_later ToRead value leg p view seen ticket is e lt a b = absurd (cc)
enters_later (ToWrite v) value leg p view seen ticket is e lt a b =
    let at : leg.ticket.epoch ≡ view.epoch = ap (λ (x : Stamp). x.epoch) (a ∙ e) in
    record { later = omega (arith, at, lt); own = at ∙ sym b }

leg_later : (leg : Leg) (now : CallState) (view : View) (seen : ℕ) (value : List ℕ) → EntersWhen leg now.progress.stage now.work now.progress view seen → now.work ≡ ToWrite value → IsLater now.progress.leg leg
leg_later leg now view seen value e is =
    enters_later now.work value leg now.progress view seen e.ticket is e.ticket_is e.later (ap (λ (x : Leg). x.ticket) e.leg_is) (ap (λ (x : Leg). x.epoch) e.leg_is)

entered_latest : (work : Work) (marks more : List Mark) (call : Call) (old new : Leg) → ((value : List ℕ) → work ≡ ToWrite value → IsLater old new) → DrawsOnly call (leg_ticket work new) more → StrongLatest work marks call old → StrongLatest work (marks ++ more) call new
entered_latest ToRead marks more call old new later d h = tt
entered_latest (ToWrite value) marks more call old new later d h = let l = later value refl in (first_of_leg marks more call old new h l.later d, l.own)

done_latest : (next : Next) (now : CallState) (view : View) (seen : ℕ) (marks more : List Mark) → RestsOn now.progress.stage now.work (best_stamp now.best) now.progress view seen next → DrawsOnly now.progress.phase.tag.call (done next now).out.ticket more
    → StrongLatest now.work marks now.progress.phase.tag.call now.progress.leg → StrongLatest (done next now).state.work (marks ++ more) (done next now).state.progress.phase.tag.call (done next now).state.progress.leg
done_latest (Enter leg) now view seen marks more rests d h = entered_latest now.work marks more now.progress.phase.tag.call now.progress.leg leg (λ value is. leg_later leg now view seen value rests is) d h
done_latest next now view seen marks more rests d h = strong_stays now.work marks more now.progress.phase.tag.call now.progress.leg d h

pub strong_latest : (call : CallState) (message : Message) (view : View) (seen : ℕ) (step : (Step CallState)) (marks more : List Mark) → StrongStep call message view seen step → DrawsOnly call.progress.phase.tag.call step.out.ticket more
    → StrongLatest call.work marks call.progress.phase.tag.call call.progress.leg → StrongLatest step.state.work (marks ++ more) step.state.progress.phase.tag.call step.state.progress.leg
strong_latest call message view seen step marks more (counts_it is own e) d h =
    let next : Next = next_of (counted call message) view seen in
    let tag : call.progress.phase.tag.call ≡ (counted call message).progress.phase.tag.call = ap (λ (t : Tag). t.call) (sym (counted_tag call.progress message)) in
    subst (λ (x : (Step CallState)). StrongLatest x.state.work (marks ++ more) x.state.progress.phase.tag.call x.state.progress.leg) (sym e)
    (done_latest (next_of (counted call message) view seen) (counted call message) view seen marks more (rests_on (counted call message) view seen (next_of (counted call message) view seen) refl)
    (subst (λ (x : Call). DrawsOnly x (done (next_of (counted call message) view seen) (counted call message)).out.ticket more) tag (subst (λ (x : (Step CallState)). DrawsOnly call.progress.phase.tag.call x.out.ticket more) e d)) (counted_latest call message marks h))
strong_latest call message view seen step marks more (ignores_it e) d h =
    subst (λ (x : (Step CallState)). StrongLatest x.state.work (marks ++ more) x.state.progress.phase.tag.call x.state.progress.leg) (sym e)
    (strong_stays call.work marks more call.progress.phase.tag.call call.progress.leg (subst (λ (x : (Step CallState)). DrawsOnly call.progress.phase.tag.call x.out.ticket more) e d) h)

-- what a ticket that is drawn at a message is
pub record IsDrawn (marks : List Mark) (call : Call) (asked : Asked) (stamp : Stamp) (end : Option Reply) : Type 0 where
  pub above : (earlier : Stamp) → Contains marks (k.Ticket call earlier) → IsAbove stamp earlier
  pub draws : draws asked ≡ true
  pub alone : end ≡ None

entered_drawn : (work : Work) (marks : List Mark) (call : Call) (old new : Leg) (asked : Asked) (stamp : Stamp) → ((value : List ℕ) → work ≡ ToWrite value → IsLater old new) → leg_ticket work new ≡ Some stamp → StrongLatest work marks call old → IsWork work asked → IsDrawn marks call asked stamp None
entered_drawn ToRead marks call old new asked stamp later is h work = absurd (cc)
entered_drawn (ToWrite value) marks call old new asked stamp later is h work =
    let same : new.ticket ≡ stamp = same_Some new.ticket stamp is in
    record {
      above = λ earlier c. subst (λ (x : Stamp). IsAbove x earlier) same (rises marks call old new h (later value refl).later earlier c);
      draws = subst (λ (x : Asked). draws x ≡ true) (sym work) refl;
      alone = refl;
    }

done_drawn : (next : Next) (now : CallState) (view : View) (seen : ℕ) (marks : List Mark) (asked : Asked) (stamp : Stamp) → RestsOn now.progress.stage now.work (best_stamp now.best) now.progress view seen next → (done next now).out.ticket ≡ Some stamp
    → StrongLatest now.work marks now.progress.phase.tag.call now.progress.leg → IsWork now.work asked → IsDrawn marks now.progress.phase.tag.call asked stamp (done next now).out.end
done_drawn (Enter leg) now view seen marks asked stamp rests is h work = entered_drawn now.work marks now.progress.phase.tag.call now.progress.leg leg asked stamp (λ value e. leg_later leg now view seen value rests e) is h work
done_drawn next now view seen marks asked stamp rests is h work = absurd (cc)

pub strong_drawn : (call : CallState) (message : Message) (view : View) (seen : ℕ) (step : (Step CallState)) (marks : List Mark) (asked : Asked) (stamp : Stamp) → StrongStep call message view seen step → step.out.ticket ≡ Some stamp
    → StrongLatest call.work marks call.progress.phase.tag.call call.progress.leg → IsWork call.work asked → IsDrawn marks call.progress.phase.tag.call asked stamp step.out.end
strong_drawn call message view seen step marks asked stamp (counts_it counts own e) is h work =
    subst (λ (x : (Step CallState)). IsDrawn marks call.progress.phase.tag.call asked stamp x.out.end) (sym e)
    (subst (λ (x : Call). IsDrawn marks x asked stamp (done (next_of (counted call message) view seen) (counted call message)).out.end) (ap (λ (t : Tag). t.call) (counted_tag call.progress message))
    (done_drawn (next_of (counted call message) view seen) (counted call message) view seen marks asked stamp (rests_on (counted call message) view seen (next_of (counted call message) view seen) refl)
    (sym (ap (λ (x : (Step CallState)). x.out.ticket) e) ∙ is) (counted_latest call message marks h) work))
strong_drawn call message view seen step marks asked stamp (ignores_it e) is h work =
    no_stamp stamp (IsDrawn marks call.progress.phase.tag.call asked stamp step.out.end) (sym (ap (λ (x : (Step CallState)). x.out.ticket) e) ∙ is)

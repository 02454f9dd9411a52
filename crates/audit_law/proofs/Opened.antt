-- A call that begins does what was asked for, under the ticket that its proxy drew, its only one.
use Rattle.std.proofs.Common.{◌≡◌, ◌⊎◌, inl, inr, ℕ, Bool, true, false, List, [], ◌∷◌, ◌++◌, refl, sym, ap, subst, arith, if◌then◌else◌, Contains}
use Rattle.register_law.proofs.Words.{Call, DcId, KeyId, IsAtMost, Stamp, View, Tag, Leg, StrongWork, ToRead, ToWrite, Doing, Mark, Work, IsLatestTicket, Taken, tag_of_call, draws_ticket, LiveCall, Eventual, EventualMove, Strong, StrongMove, IsWork, Contains-append_right, Contains-append_cases, IsAtMost-refl}
use Rattle.relay_proxy.specs.declared.stage.Stage.TheVariants as doing
use Rattle.run_marks.specs.declared.mark.Work.TheVariants as w
use Rattle.run_marks.specs.declared.mark.Mark.TheVariants as k
use Rattle.register_order.proofs.AfterBegin.{IsNew}
use Rattle.world_core.specs.Starting.{ticket_marks}
use Rattle.register_law.proofs.CallsRows.{OpensAs, opens_write, opens_get, opens_put, opens_get_any}
use Rattle.register_law.proofs.CallsLive.{start_tickets}
use Rattle.audit_law.specs.Live.{Does, EventualDoes, HasLatest, StrongLatest, EventualLatest}

abbrev StrongBegun : StrongWork → Work → Stamp → Leg → Type 0
StrongBegun ToRead asked ticket leg = asked ≡ w.Read
StrongBegun (ToWrite value) asked ticket leg = (asked ≡ w.Write value) × (leg.ticket ≡ ticket) × (leg.ticket.epoch ≡ leg.epoch)

abbrev EventualBegun : Doing → Work → Stamp → Type 0
EventualBegun doing.Getting asked ticket = (asked ≡ w.Get) ⊎ (asked ≡ w.GetAny)
EventualBegun (doing.Putting stamp) asked ticket = ((value : List ℕ) × (asked ≡ w.Put value)) × (stamp ≡ ticket)
EventualBegun doing.Ended asked ticket = ⊥

-- the call begins so
abbrev pub IsBegun : Work → Stamp → LiveCall → Type 0
IsBegun asked ticket (Strong call) = StrongBegun call.work asked ticket call.progress.leg
IsBegun asked ticket (Eventual call) = EventualBegun call.stage asked ticket
IsBegun asked ticket (StrongMove call) = asked ≡ w.Move
IsBegun asked ticket (EventualMove call) = asked ≡ w.Move

pub call_begun : (tag : Tag) (at : DcId) (view : View) (ticket : Stamp) (strongly : Bool) (work : Work) (taken : Taken) → ticket.epoch ≡ view.epoch → OpensAs tag at view ticket strongly work taken → IsBegun work ticket taken.state
call_begun tag at view ticket strongly work taken epoch (opens_write member value of) = (refl, refl, epoch)
call_begun tag at view ticket strongly work taken epoch opens_get = inl refl
call_begun tag at view ticket strongly work taken epoch opens_get_any = inr refl
call_begun tag at view ticket strongly work taken epoch (opens_put value) = ((value, refl), refl)
call_begun tag at view ticket strongly work taken epoch _ = refl

-- it does the work
pub begun_does : (asked : Work) (ticket : Stamp) (call : LiveCall) → IsBegun asked ticket call → Does call asked
begun_does asked ticket (Strong call) h = by call.work h
  where
    by : (work : StrongWork) → StrongBegun work asked ticket call.progress.leg → IsWork work asked
    by ToRead g = g
    by (ToWrite value) g = g.0
begun_does asked ticket (Eventual call) h = by call.stage h
  where
    by : (at : Doing) → EventualBegun at asked ticket → EventualDoes at asked
    by doing.Getting g = g
    by (doing.Putting stamp) g = g.0
    by doing.Ended g = tt
begun_does asked ticket (StrongMove call) h = h
begun_does asked ticket (EventualMove call) h = h

-- the ticket of a call that begins is its only one
only_ticket : (marks : List Mark) (call : Call) (key : KeyId) (asked : Work) (ticket : Stamp) → IsNew marks call → draws_ticket asked ≡ true → IsLatestTicket (marks ++ (k.Begin call key asked ∷ ticket_marks call ticket asked)) call ticket
only_ticket marks call key asked ticket new draws =
    let here : Contains (k.Begin call key asked ∷ ticket_marks call ticket asked) (k.Ticket call ticket) = there (draws_ticket asked) draws in
    record {
      drawn = Contains-append_right marks (k.Begin call key asked ∷ ticket_marks call ticket asked) (k.Ticket call ticket) here;
      latest = λ earlier c. elim (Contains-append_cases marks (k.Begin call key asked ∷ ticket_marks call ticket asked) (k.Ticket call earlier) c) as (λ _. IsAtMost earlier ticket) [
        | inl old ↦ absurd (new (k.Ticket call earlier) old refl)
        | inr is ↦ subst (λ (x : Stamp). IsAtMost x ticket) (start_tickets call call key asked ticket earlier is).0 (IsAtMost-refl ticket)
      ];
    }
  where
    there : (b : Bool) → b ≡ true → Contains (k.Begin call key asked ∷ (if b then k.Ticket call ticket ∷ [] else [])) (k.Ticket call ticket)
    there true e = (1, omega arith, refl)
    there false e = absurd (cc)

pub begun_latest : (marks : List Mark) (own : Call) (key : KeyId) (asked : Work) (ticket : Stamp) (call : LiveCall) → IsNew marks own → (tag_of_call call).call ≡ own → IsBegun asked ticket call → HasLatest (marks ++ (k.Begin own key asked ∷ ticket_marks own ticket asked)) call
begun_latest marks own key asked ticket (Strong call) new same h = subst (λ (x : Call). StrongLatest call.work (marks ++ (k.Begin own key asked ∷ ticket_marks own ticket asked)) x call.progress.leg) (sym same) (by call.work h)
  where
    by : (work : StrongWork) → StrongBegun work asked ticket call.progress.leg → StrongLatest work (marks ++ (k.Begin own key asked ∷ ticket_marks own ticket asked)) own call.progress.leg
    by ToRead g = tt
    by (ToWrite value) g = (subst (IsLatestTicket (marks ++ (k.Begin own key asked ∷ ticket_marks own ticket asked)) own) (sym g.1) (only_ticket marks own key asked ticket new (ap draws_ticket g.0)), g.2)
begun_latest marks own key asked ticket (Eventual call) new same h = subst (EventualLatest call.stage (marks ++ (k.Begin own key asked ∷ ticket_marks own ticket asked))) (sym same) (by call.stage h)
  where
    by : (at : Doing) → EventualBegun at asked ticket → EventualLatest at (marks ++ (k.Begin own key asked ∷ ticket_marks own ticket asked)) own
    by doing.Getting g = tt
    by (doing.Putting stamp) g = subst (IsLatestTicket (marks ++ (k.Begin own key asked ∷ ticket_marks own ticket asked)) own) (sym g.1) (only_ticket marks own key asked ticket new (ap draws_ticket g.0.1))
    by doing.Ended g = tt
begun_latest marks own key asked ticket (StrongMove call) new same h = tt
begun_latest marks own key asked ticket (EventualMove call) new same h = tt

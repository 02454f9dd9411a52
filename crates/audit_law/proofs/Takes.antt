-- Whatever call takes a message, what it marks is well formed, and it rests on what it should.
use Rattle.std.proofs.Common.{◌≡◌, ℕ, List, ◌++◌, refl, sym, subst, Option, Some, None}
use Rattle.register_law.proofs.Words.{Call, Stamp, Message, Reply, View, eventual_rule, strong_rule, Mark, Work, tag_of_call, take, LiveCall, Eventual, EventualMove, Strong, StrongMove}
use Rattle.wire_msg.specs.declared.outputs.Reply.TheVariants as r
use Rattle.strong_proxy.specs.Rule as strong
use Rattle.relay_proxy.specs.Rule as eventual
use Rattle.migration.specs.Move as move
use Rattle.run_marks.specs.declared.mark.Work.TheVariants as w
use Rattle.register_law.proofs.MovesStep.{IsMoveEnd, made_by}
use Rattle.register_law.proofs.CallsOthers.{strong_step, eventual_out}
use Rattle.audit_law.specs.Live.{Does, HasLatest}
use Rattle.audit_law.proofs.StrongFits.{EndFits, EndGives, strong_fits, strong_gives, strong_does}
use Rattle.audit_law.proofs.EventualFits.{eventual_goes}
use Rattle.audit_law.proofs.Tickets.{DrawsOnly, strong_stays, eventual_stays, strong_latest, IsDrawn, strong_drawn}
use Rattle.register_law.proofs.Basics.{no_ticket}

move_fits : (work : Work) (o : Option Reply) → work ≡ w.Move → IsMoveEnd o → EndFits work o
move_fits work o is h = subst (λ (x : Work). EndFits x o) (sym is) (by o h)
  where
    by : (o : Option Reply) → IsMoveEnd o → EndFits w.Move o
    by None h = tt
    by (Some (r.At epoch)) h = refl
    by (Some (r.Current epoch)) h = refl
    by (Some (r.Stale epoch)) h = refl
    by o h = absurd h

move_gives : (marks : List Mark) (call : Call) (o : Option Reply) → IsMoveEnd o → EndGives marks call o
move_gives marks call None h = tt
move_gives marks call (Some (r.At epoch)) h = tt
move_gives marks call (Some (r.Current epoch)) h = tt
move_gives marks call (Some (r.Stale epoch)) h = tt
move_gives marks call o h = absurd h

-- a call ends as its work may
pub take_fits : (call : LiveCall) (message : Message) (view : View) (seen : ℕ) (work : Work) (marks : List Mark) → Does call work → HasLatest marks call → EndFits work (take call message view seen).out.end
take_fits (Strong call) message view seen work marks d h = strong_fits call message view seen (strong.step call message view seen) work (strong_step call message view seen) d
take_fits (Eventual call) message view seen work marks d h = (eventual_goes marks work call message (record { does = d; latest = h })).fits
take_fits (StrongMove call) message view seen work marks d h = move_fits work (move.step strong_rule call message).out.end d (made_by strong_rule call message).end
take_fits (EventualMove call) message view seen work marks d h = move_fits work (move.step eventual_rule call message).out.end d (made_by eventual_rule call message).end

-- one that is stored gives its latest ticket
pub take_gives : (call : LiveCall) (message : Message) (view : View) (seen : ℕ) (work : Work) (marks : List Mark) → Does call work → HasLatest marks call → EndGives marks (tag_of_call call).call (take call message view seen).out.end
take_gives (Strong call) message view seen work marks d h = strong_gives call message view seen (strong.step call message view seen) marks (strong_step call message view seen) h
take_gives (Eventual call) message view seen work marks d h = (eventual_goes marks work call message (record { does = d; latest = h })).gives
take_gives (StrongMove call) message view seen work marks d h = move_gives marks call.phase.tag.call (move.step strong_rule call message).out.end (made_by strong_rule call message).end
take_gives (EventualMove call) message view seen work marks d h = move_gives marks call.phase.tag.call (move.step eventual_rule call message).out.end (made_by eventual_rule call message).end

-- a call goes on to do its work
pub take_does : (call : LiveCall) (message : Message) (view : View) (seen : ℕ) (work : Work) (marks : List Mark) → Does call work → HasLatest marks call → Does (take call message view seen).state work
take_does (Strong call) message view seen work marks d h = strong_does call message view seen (strong.step call message view seen) work (strong_step call message view seen) d
take_does (Eventual call) message view seen work marks d h = (eventual_goes marks work call message (record { does = d; latest = h })).backed.does
take_does (StrongMove call) message view seen work marks d h = d
take_does (EventualMove call) message view seen work marks d h = d

-- its ticket stays the latest where it draws none
pub latest_stays : (call : LiveCall) (marks more : List Mark) → DrawsOnly (tag_of_call call).call None more → HasLatest marks call → HasLatest (marks ++ more) call
latest_stays (Strong call) marks more d h = strong_stays call.work marks more call.progress.phase.tag.call call.progress.leg d h
latest_stays (Eventual call) marks more d h = eventual_stays call.stage marks more call.phase.tag.call d h
latest_stays (StrongMove call) marks more d h = tt
latest_stays (EventualMove call) marks more d h = tt

-- and a ticket that it draws is the latest
pub take_latest : (call : LiveCall) (message : Message) (view : View) (seen : ℕ) (work : Work) (marks more : List Mark) → DrawsOnly (tag_of_call call).call (take call message view seen).out.ticket more → (tag_of_call (take call message view seen).state).call ≡ (tag_of_call call).call
    → Does call work → HasLatest marks call → HasLatest (marks ++ more) (take call message view seen).state
take_latest (Strong call) message view seen work marks more draws same d h = strong_latest call message view seen (strong.step call message view seen) marks more (strong_step call message view seen) draws h
take_latest (Eventual call) message view seen work marks more draws same d h =
    let goes = eventual_goes marks work call message (record { does = d; latest = h }) in
    let none : DrawsOnly call.phase.tag.call None more = subst (λ (o : Option Stamp). DrawsOnly call.phase.tag.call o more) (eventual_out call message).ticket draws in
    eventual_stays (eventual.step call message).state.stage marks more (eventual.step call message).state.phase.tag.call (subst (λ (x : Call). DrawsOnly x None more) (sym same) none) goes.backed.latest
take_latest (StrongMove call) message view seen work marks more draws same d h = tt
take_latest (EventualMove call) message view seen work marks more draws same d h = tt

-- a ticket that it draws is above those before it, only writes draw one, and the call doesn't end then
pub take_drawn : (call : LiveCall) (message : Message) (view : View) (seen : ℕ) (work : Work) (marks : List Mark) (stamp : Stamp) → (take call message view seen).out.ticket ≡ Some stamp → Does call work → HasLatest marks call
    → IsDrawn marks (tag_of_call call).call work stamp (take call message view seen).out.end
take_drawn (Strong call) message view seen work marks stamp is d h = strong_drawn call message view seen (strong.step call message view seen) marks work stamp (strong_step call message view seen) is h d
take_drawn (Eventual call) message view seen work marks stamp is d h = no_ticket (eventual.step call message).out.ticket stamp (IsDrawn marks call.phase.tag.call work stamp (eventual.step call message).out.end) (eventual_out call message).ticket is
take_drawn (StrongMove call) message view seen work marks stamp is d h = no_ticket (move.step strong_rule call message).out.ticket stamp (IsDrawn marks call.phase.tag.call work stamp (move.step strong_rule call message).out.end) (made_by strong_rule call message).ticket is
take_drawn (EventualMove call) message view seen work marks stamp is d h = no_ticket (move.step eventual_rule call message).out.ticket stamp (IsDrawn marks call.phase.tag.call work stamp (move.step eventual_rule call message).out.end) (made_by eventual_rule call message).ticket is

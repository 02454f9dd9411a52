-- What a get, a put, a read or a write does with a message, and at which messages a call of any kind draws a ticket or ends.
use Rattle.std.proofs.Common.{◌≡◌, ℕ, Bool, true, false, List, refl, max, if◌then◌else◌, Some, None, sym, ap, ◌∙◌, subst, arith}
use Rattle.register_law.proofs.Words.{DcId, Stamp, Step, tag_of, Message, Reply, Tag, counts, next_tag, with_bad, with_good, Phase, Doing, Eventual, View, counted, is_counted, CallState, eventual_rule, strong_rule, tag_of_call, take, LiveCall, EventualMove, Strong, StrongMove, Quorum, leg_ticket, leg_under, next_ticket, Next, Enter, Leg, Progress, ToRead, ToWrite, IsTicketOf, StrongWork as Work}
use Rattle.wire_msg.specs.declared.message.Message.TheVariants as m
use Rattle.wire_msg.specs.declared.actor.Actor.TheVariants as to
use Rattle.relay_proxy.specs.declared.stage.Stage.TheVariants as doing
use Rattle.relay_proxy.specs.Rule as eventual
use Rattle.relay_proxy.specs.State.{State as Eventually}
use Rattle.strong_proxy.specs.Rule as strong
use Rattle.migration.specs.Move as move
use Rattle.register_law.proofs.MovesStep.{counts_own, counted_is_own, counted_tag, made_by}
use Rattle.register_law.proofs.Basics.{Each, each_none, each_one, no_ticket}
use Rattle.register_law.proofs.CallsRows.{IsPlain}
use Rattle.register_law.proofs.TagsSends.{GoesOn, stays, ends, never, sends_look}
use Rattle.register_law.proofs.Next.{RestsOn, EntersWith, rests_on}

-- what a get or a put becomes and puts out, at a message under this tag
pub record IsEventualOut (call : Eventually) (tag : Tag) (new : Step Eventually) : Type 0 where
  pub goes : GoesOn never call.phase.tag call.key (Eventual new.state) new.out
  pub posts : Each IsPlain new.out.posts
  pub ticket : new.out.ticket ≡ None
  pub view : new.out.view ≡ None
  pub end : (reply : Reply) → new.out.end ≡ Some reply → call.phase.tag ≡ tag

nothing_out : (call : Eventually) (tag : Tag) → IsEventualOut call tag (eventual.stays call)
nothing_out call tag = record { goes = stays refl refl refl; posts = each_none IsPlain; ticket = refl; view = refl; end = λ reply e. absurd (cc) }

on_out : (call : Eventually) (tag : Tag) (phase : Phase) (gone : ℕ) → phase.tag ≡ call.phase.tag → IsEventualOut call tag (eventual.goes_on call phase gone)
on_out call tag phase gone same = record { goes = stays refl same refl; posts = each_none IsPlain; ticket = refl; view = refl; end = λ reply e. absurd (cc) }

ends_out : (call : Eventually) (tag : Tag) (reply : Reply) → call.phase.tag ≡ tag → IsEventualOut call tag (eventual.ends call reply)
ends_out call tag reply own = record { goes = stays refl refl refl; posts = each_none IsPlain; ticket = refl; view = refl; end = λ _ _. own }

moves_out : (call : Eventually) (tag : Tag) (epoch : ℕ) → call.phase.tag ≡ tag → IsEventualOut call tag (eventual.moves call epoch)
moves_out call tag epoch own = record {
  goes = ends refl refl refl (sends_look never (next_tag call.phase.tag) call.key);
  posts = each_one IsPlain (record { to = to.Directory; message = eventual.look_up call }) tt;
  ticket = refl;
  view = refl;
  end = λ _ _. own;
}

one_of : (call : Eventually) (tag : Tag) (b : Bool) (one other : Step Eventually) → (b ≡ true → IsEventualOut call tag one) → IsEventualOut call tag other → IsEventualOut call tag (if b then one else other)
one_of call tag true one other f h = f refl
one_of call tag false one other f h = h

have_out : (call : Eventually) (at : Doing) (tag : Tag) (replica : DcId) (version : Stamp) (value : List ℕ) → IsEventualOut call tag (eventual.on_have at call tag replica version value)
have_out call doing.Getting tag replica version value =
    one_of call tag (counts call.phase tag replica) (eventual.ends call _) (eventual.stays call) (λ c. ends_out call tag _ (counts_own call.phase tag replica c)) (nothing_out call tag)
have_out call at tag replica version value = nothing_out call tag

yes_out : (call : Eventually) (at : Doing) (tag : Tag) (replica : DcId) → IsEventualOut call tag (eventual.on_yes at call tag replica)
yes_out call (doing.Putting stamp) tag replica =
    one_of call tag (counts call.phase tag replica) (eventual.stored_at call replica stamp) (eventual.stays call)
    (λ c. one_of call tag (eventual.is_stored call.f (with_good call.phase replica)) (eventual.ends call _) (eventual.goes_on call (with_good call.phase replica) call.gone) (λ _. ends_out call tag _ (counts_own call.phase tag replica c)) (on_out call tag (with_good call.phase replica) call.gone refl))
    (nothing_out call tag)
yes_out call at tag replica = nothing_out call tag

gone_out : (call : Eventually) (at : Doing) (tag : Tag) (replica : DcId) (epoch : ℕ) → IsEventualOut call tag (eventual.on_gone at call tag replica epoch)
gone_out call doing.Getting tag replica epoch =
    one_of call tag (counts call.phase tag replica) (eventual.refused_at call replica epoch) (eventual.stays call)
    (λ c. one_of call tag (eventual.all_refused (with_bad call.phase replica)) (eventual.moves call (max call.gone epoch)) (eventual.goes_on call (with_bad call.phase replica) (max call.gone epoch)) (λ _. moves_out call tag (max call.gone epoch) (counts_own call.phase tag replica c)) (on_out call tag (with_bad call.phase replica) (max call.gone epoch) refl))
    (nothing_out call tag)
gone_out call (doing.Putting stamp) tag replica epoch =
    one_of call tag (counts call.phase tag replica) (eventual.moves call epoch) (eventual.stays call) (λ c. moves_out call tag epoch (counts_own call.phase tag replica c)) (nothing_out call tag)
gone_out call doing.Ended tag replica epoch = nothing_out call tag

pub eventual_out : (call : Eventually) (message : Message) → IsEventualOut call (tag_of message) (eventual.step call message)
eventual_out call (m.Have tag replica version mark value) = have_out call call.stage tag replica version value
eventual_out call (m.Yes tag replica) = yes_out call call.stage tag replica
eventual_out call (m.Gone tag replica epoch) = gone_out call call.stage tag replica epoch
eventual_out call message = nothing_out call (tag_of message)

-- ---- what a read or a write does with a message, and at which messages a call of any kind draws a ticket or ends

-- a strong call's step, by whether the message counts
pub data StrongStep (call : CallState) (message : Message) (view : View) (seen : ℕ) (step : (Step CallState)) : Type 0 where
  counts_it : is_counted call message ≡ true → call.progress.phase.tag ≡ tag_of message → step ≡ strong.done (strong.next_of (counted call message) view seen) (counted call message) → StrongStep call message view seen step
  ignores_it : step ≡ strong.nothing_done call → StrongStep call message view seen step

pub strong_step : (call : CallState) (message : Message) (view : View) (seen : ℕ) → StrongStep call message view seen (strong.step call message view seen)
unfolding strong.step
strong_step call message view seen = by (is_counted call message) refl
  where
    by : (b : Bool) → is_counted call message ≡ b → StrongStep call message view seen (if b then strong.done (strong.next_of (counted call message) view seen) (counted call message) else strong.nothing_done call)
    by true is = counts_it is (counted_is_own call message is) refl
    by false is = ignores_it refl

ticket_own : (call : CallState) (message : Message) (view : View) (seen : ℕ) (step : (Step CallState)) (stamp : Stamp) → StrongStep call message view seen step → step.out.ticket ≡ Some stamp → call.progress.phase.tag ≡ tag_of message
ticket_own call message view seen step stamp (counts_it is own e) h = own
ticket_own call message view seen step stamp (ignores_it e) h = absurd (let k : None ≡ Some stamp = sym (ap (λ (x : (Step CallState)). x.out.ticket) e) ∙ h in cc)

-- a ticket is drawn at a message of the call's own
pub take_ticket : (call : LiveCall) (message : Message) (view : View) (seen : ℕ) (stamp : Stamp) → (take call message view seen).out.ticket ≡ Some stamp → tag_of_call call ≡ tag_of message
take_ticket (Strong call) message view seen stamp h = ticket_own call message view seen (strong.step call message view seen) stamp (strong_step call message view seen) h
take_ticket (Eventual call) message view seen stamp h = no_ticket (eventual.step call message).out.ticket stamp (call.phase.tag ≡ tag_of message) (eventual_out call message).ticket h
take_ticket (StrongMove call) message view seen stamp h = no_ticket (move.step strong_rule call message).out.ticket stamp (call.phase.tag ≡ tag_of message) (made_by strong_rule call message).ticket h
take_ticket (EventualMove call) message view seen stamp h = no_ticket (move.step eventual_rule call message).out.ticket stamp (call.phase.tag ≡ tag_of message) (made_by eventual_rule call message).ticket h

-- ---- a call ends only at a message under its own tag

strong_own : (call : CallState) (message : Message) (view : View) (seen : ℕ) (step : (Step CallState)) (reply : Reply) → StrongStep call message view seen step → step.out.end ≡ Some reply → call.progress.phase.tag ≡ tag_of message
strong_own call message view seen step reply (counts_it is own e) h = own
strong_own call message view seen step reply (ignores_it e) h = absurd (let k : None ≡ Some reply = sym (ap (λ (x : (Step CallState)). x.out.end) e) ∙ h in cc)

-- a call ends at a message of its own
pub take_end : (call : LiveCall) (message : Message) (view : View) (seen : ℕ) (reply : Reply) → (take call message view seen).out.end ≡ Some reply → tag_of_call call ≡ tag_of message
take_end (Strong call) message view seen reply h = strong_own call message view seen (strong.step call message view seen) reply (strong_step call message view seen) h
take_end (Eventual call) message view seen reply h = (eventual_out call message).end reply h
take_end (StrongMove call) message view seen reply h = (made_by strong_rule call message).own reply h
take_end (EventualMove call) message view seen reply h = (made_by eventual_rule call message).own reply h

-- ---- the ticket that a call draws at a message names the call

-- the ticket of a later leg
enter_ticket : (work : Work) (leg : Leg) (p : Progress) (view : View) (seen : ℕ) (member : Quorum) (ticket stamp : Stamp) → leg ≡ leg_under view member ticket → EntersWith work ticket view seen p → leg_ticket work leg ≡ Some stamp → IsTicketOf p.phase.tag stamp
enter_ticket ToRead leg p view seen member ticket stamp is drawn h = absurd (cc)
enter_ticket (ToWrite value) leg p view seen member ticket stamp is drawn h =
    let at : leg.ticket ≡ ticket = ap (λ (x : Leg). x.ticket) is in
    let all : next_ticket view seen p ≡ stamp = cc in
    subst (IsTicketOf p.phase.tag) all (record { proxy = refl; seq = refl; some = omega arith })

done_ticket : (next : Next) (call : CallState) (view : View) (seen : ℕ) (stamp : Stamp) → RestsOn call.progress.stage call.work (strong.best_stamp call.best) call.progress view seen next → (strong.done next call).out.ticket ≡ Some stamp → IsTicketOf call.progress.phase.tag stamp
done_ticket (Enter leg) call view seen stamp r h = enter_ticket call.work leg call.progress view seen r.member r.ticket stamp r.leg_is r.ticket_is h
done_ticket next call view seen stamp r h = absurd (cc)

strong_ticket : (call : CallState) (message : Message) (view : View) (seen : ℕ) (step : (Step CallState)) (stamp : Stamp) → StrongStep call message view seen step → step.out.ticket ≡ Some stamp → IsTicketOf (tag_of message) stamp
strong_ticket call message view seen step stamp (counts_it is own e) h =
    let now : CallState = counted call message in
    subst (λ (t : Tag). IsTicketOf t stamp) (counted_tag call.progress message ∙ own)
    (done_ticket (strong.next_of (counted call message) view seen) (counted call message) view seen stamp (rests_on (counted call message) view seen (strong.next_of (counted call message) view seen) refl)
    (sym (ap (λ (x : (Step CallState)). x.out.ticket) e) ∙ h))
strong_ticket call message view seen step stamp (ignores_it e) h = absurd (let k : None ≡ Some stamp = sym (ap (λ (x : (Step CallState)). x.out.ticket) e) ∙ h in cc)

-- the ticket that a call draws at a message is the message's call's
pub take_ticket_is : (call : LiveCall) (message : Message) (view : View) (seen : ℕ) (stamp : Stamp) → (take call message view seen).out.ticket ≡ Some stamp → IsTicketOf (tag_of message) stamp
take_ticket_is (Strong call) message view seen stamp h = strong_ticket call message view seen (strong.step call message view seen) stamp (strong_step call message view seen) h
take_ticket_is (Eventual call) message view seen stamp h = no_ticket (eventual.step call message).out.ticket stamp (IsTicketOf (tag_of message) stamp) (eventual_out call message).ticket h
take_ticket_is (StrongMove call) message view seen stamp h = no_ticket (move.step strong_rule call message).out.ticket stamp (IsTicketOf (tag_of message) stamp) (made_by strong_rule call message).ticket h
take_ticket_is (EventualMove call) message view seen stamp h = no_ticket (move.step eventual_rule call message).out.ticket stamp (IsTicketOf (tag_of message) stamp) (made_by eventual_rule call message).ticket h

-- A get or a put ends as its work may, and a put that is stored with its ticket.
use Rattle.std.proofs.Common.{◌≡◌, inl, inr, ℕ, Bool, true, false, List, refl, sym, subst, max, if◌then◌else◌, Some}
use Rattle.register_law.proofs.Words.{Call, DcId, Stamp, Step, Message, Reply, Tag, counts, with_bad, with_good, Doing, Mark, Work, answers_of, fits}
use Rattle.wire_msg.specs.declared.message.Message.TheVariants as m
use Rattle.wire_msg.specs.declared.outputs.Reply.TheVariants as r
use Rattle.relay_proxy.specs.declared.stage.Stage.TheVariants as doing
use Rattle.relay_proxy.specs.Rule as eventual
use Rattle.relay_proxy.specs.State as relay
use Rattle.run_marks.specs.declared.mark.Work.TheVariants as w
use Rattle.audit_law.specs.Live.{EventualDoes, EventualLatest}
use Rattle.audit_law.proofs.StrongFits.{EndFits, EndGives}

-- what the call does, and its ticket
pub record IsBacked (marks : List Mark) (work : Work) (call : relay.State) : Type 0 where
  pub does : EventualDoes call.stage work
  pub latest : EventualLatest call.stage marks call.phase.tag.call

-- what a message makes of the call
pub record GoesWell (marks : List Mark) (work : Work) (own : Call) (step : (Step relay.State)) : Type 0 where
  pub fits : EndFits work step.out.end
  pub gives : EndGives marks own step.out.end
  pub backed : IsBacked marks work step.state

either : (P : (Step relay.State) → Type 0) (b : Bool) (one other : (Step relay.State)) → P one → P other → P (if b then one else other)
either P true one other h g = h
either P false one other h g = g

still : (marks : List Mark) (work : Work) (call : relay.State) → IsBacked marks work call → GoesWell marks work call.phase.tag.call (eventual.stays call)
still marks work call b = record { fits = tt; gives = tt; backed = b }

over : (marks : List Mark) (work : Work) (call : relay.State) (reply : Reply) → EndFits work (Some reply) → EndGives marks call.phase.tag.call (Some reply) → GoesWell marks work call.phase.tag.call (eventual.ends call reply)
over marks work call reply f g = record { fits = f; gives = g; backed = record { does = tt; latest = tt } }

get_gives : (work : Work) (stamp : Stamp) (value : List ℕ) → EventualDoes doing.Getting work → fits (answers_of work) (r.Value stamp value) ≡ true
get_gives work stamp value (inl e) = subst (λ (x : Work). fits (answers_of x) (r.Value stamp value) ≡ true) (sym e) refl
get_gives work stamp value (inr e) = subst (λ (x : Work). fits (answers_of x) (r.Value stamp value) ≡ true) (sym e) refl

get_moves : (work : Work) (epoch : ℕ) → EventualDoes doing.Getting work → fits (answers_of work) (r.Moved epoch) ≡ true
get_moves work epoch (inl e) = subst (λ (x : Work). fits (answers_of x) (r.Moved epoch) ≡ true) (sym e) refl
get_moves work epoch (inr e) = subst (λ (x : Work). fits (answers_of x) (r.Moved epoch) ≡ true) (sym e) refl

put_fits : (work : Work) (stamp : Stamp) (reply : Reply) → EventualDoes (doing.Putting stamp) work → ((value : List ℕ) → fits (answers_of (w.Put value)) reply ≡ true) → fits (answers_of work) reply ≡ true
put_fits work stamp reply d f = subst (λ (x : Work). fits (answers_of x) reply ≡ true) (sym d.1) (f d.0)

have_goes : (marks : List Mark) (work : Work) (at : Doing) (call : relay.State) (tag : Tag) (replica : DcId) (version : Stamp) (value : List ℕ) → IsBacked marks work call → EventualDoes at work
    → GoesWell marks work call.phase.tag.call (eventual.on_have at call tag replica version value)
have_goes marks work doing.Getting call tag replica version value b d =
    either (GoesWell marks work call.phase.tag.call) (counts call.phase tag replica) (eventual.ends call (r.Value version value)) (eventual.stays call) (over marks work call (r.Value version value) (get_gives work version value d) tt) (still marks work call b)
have_goes marks work (doing.Putting stamp) call tag replica version value b d = still marks work call b
have_goes marks work doing.Ended call tag replica version value b d = still marks work call b

yes_goes : (marks : List Mark) (work : Work) (at : Doing) (call : relay.State) (tag : Tag) (replica : DcId) → IsBacked marks work call → EventualDoes at work → EventualLatest at marks call.phase.tag.call
    → GoesWell marks work call.phase.tag.call (eventual.on_yes at call tag replica)
yes_goes marks work doing.Getting call tag replica b d l = still marks work call b
yes_goes marks work (doing.Putting stamp) call tag replica b d l =
    either (GoesWell marks work call.phase.tag.call) (counts call.phase tag replica) (eventual.stored_at call replica stamp) (eventual.stays call)
    (either (GoesWell marks work call.phase.tag.call) (eventual.is_stored call.f (with_good call.phase replica)) (eventual.ends call (r.Stored stamp)) (eventual.goes_on call (with_good call.phase replica) call.gone)
    (over marks work call (r.Stored stamp) (put_fits work stamp (r.Stored stamp) d (λ value. refl)) l)
    (record { fits = tt; gives = tt; backed = record { does = b.does; latest = b.latest } })) (still marks work call b)
yes_goes marks work doing.Ended call tag replica b d l = still marks work call b

gone_goes : (marks : List Mark) (work : Work) (at : Doing) (call : relay.State) (tag : Tag) (replica : DcId) (epoch : ℕ) → IsBacked marks work call → EventualDoes at work
    → GoesWell marks work call.phase.tag.call (eventual.on_gone at call tag replica epoch)
gone_goes marks work doing.Getting call tag replica epoch b d =
    either (GoesWell marks work call.phase.tag.call) (counts call.phase tag replica) (eventual.refused_at call replica epoch) (eventual.stays call)
    (either (GoesWell marks work call.phase.tag.call) (eventual.all_refused (with_bad call.phase replica)) (eventual.moves call (max call.gone epoch)) (eventual.goes_on call (with_bad call.phase replica) (max call.gone epoch))
    (record { fits = get_moves work (max call.gone epoch) d; gives = tt; backed = record { does = tt; latest = tt } })
    (record { fits = tt; gives = tt; backed = record { does = b.does; latest = b.latest } })) (still marks work call b)
gone_goes marks work (doing.Putting stamp) call tag replica epoch b d =
    either (GoesWell marks work call.phase.tag.call) (counts call.phase tag replica) (eventual.moves call epoch) (eventual.stays call)
    (record { fits = put_fits work stamp (r.Moved epoch) d (λ value. refl); gives = tt; backed = record { does = tt; latest = tt } }) (still marks work call b)
gone_goes marks work doing.Ended call tag replica epoch b d = still marks work call b

pub eventual_goes : (marks : List Mark) (work : Work) (call : relay.State) (message : Message) → IsBacked marks work call → GoesWell marks work call.phase.tag.call (eventual.step call message)
eventual_goes marks work call (m.Have tag replica version mark value) b = have_goes marks work call.stage call tag replica version value b b.does
eventual_goes marks work call (m.Yes tag replica) b = yes_goes marks work call.stage call tag replica b b.does b.latest
eventual_goes marks work call (m.Gone tag replica epoch) b = gone_goes marks work call.stage call tag replica epoch b b.does
eventual_goes marks work call message b = still marks work call b

-- A live call of any kind stays within the ranges of a log, with all that it puts out.
use Rattle.std.proofs.Common.{◌≡◌, ℕ, ◌≤◌, Bool, true, false, List, refl, subst, arith}
use Rattle.std.specs.Prelude.{Option, Some, None, option_map}
use Rattle.span_base.specs.declared.ids.DcId.{DcId}
use Rattle.span_base.specs.declared.policy.Quorum.{Quorum}
use Rattle.span_base.specs.PolicyParts.{member_of}
use Rattle.ticket_rules.specs.declared.stamp.Stamp.{Stamp}
use Rattle.ticket_rules.specs.Stamp.{stamp_zero}
use Rattle.wire_msg.specs.declared.tag.Tag.{Tag}
use Rattle.wire_msg.specs.declared.actor.Actor.TheVariants as to
use Rattle.wire_msg.specs.declared.message.Message.{Message}
use Rattle.wire_msg.specs.declared.message.Message.TheVariants as m
use Rattle.wire_msg.specs.declared.outputs.View.{View}
use Rattle.wire_msg.specs.Posts.{to_directory}
use Rattle.call_phase.specs.Requests.{posts_to}
use Rattle.strong_proxy.specs.declared.state.Work.{Work as StrongWork}
use Rattle.strong_proxy.specs.declared.state.Work.TheVariants.{ToRead, ToWrite}
use Rattle.strong_proxy.specs.Rule.{leg_under, first_posts, opened_with, opened_as}
use Rattle.strong_proxy.specs.Rule as strong
use Rattle.relay_proxy.specs.Routes.{directs_below}
use Rattle.relay_proxy.specs.Rule.{asked_of, opened_get, push_to, pushes_below, opened_put}
use Rattle.migration.specs.Strong.{strong as strong_rule}
use Rattle.migration.specs.Eventual.{eventual as eventual_rule}
use Rattle.migration.specs.Move.{started}
use Rattle.run_marks.specs.declared.mark.Work.{Work}
use Rattle.run_marks.specs.declared.mark.Work.TheVariants as w
use Rattle.world_core.specs.declared.live.LiveCall.{LiveCall}
use Rattle.world_core.specs.declared.live.LiveCall.TheVariants.{Strong, Eventual, StrongMove, EventualMove}
use Rattle.world_core.specs.Calls.{Taken, take, tag_of_call, of_strong, of_eventual, of_strong_move, of_eventual_move}
use Rattle.world_core.specs.Starting.{draws_ticket, opened_call}
use Rattle.register_law.proofs.Basics.{each_one, each_to, each_map}
use Rattle.register_law.proofs.CallsOthers.{strong_step}
use Rattle.history_audit.specs.Ranges.{FitsCall, FitsStamp, FitsWork}
use Rattle.log_law.specs.Fits.{FitsEpoch, FitsMessage, FitsStrongWork, FitsLive}
use Rattle.log_law.proofs.Basics.{zero_fits, FitsOut, posts_fit}
use Rattle.log_law.proofs.Strong.{strong_fits, first_posts_fit}
use Rattle.log_law.proofs.Eventual.{eventual_fits}
use Rattle.log_law.proofs.Moves.{move_fits}

-- what a message makes of a call
pub record TakenFits (taken : Taken) : Type 0 where
  pub state : FitsLive taken.state
  pub out : FitsOut taken.out

pub take_fits : (call : LiveCall) (message : Message) (view : View) (seen : ℕ) → FitsCall (tag_of_call call).call → FitsEpoch view.epoch → seen ≤ 18446744073709551615 → FitsMessage message → FitsLive call
    → TakenFits (take call message view seen)
take_fits (Strong call) message view seen own v s f c =
    let x = strong_fits call message view seen (strong.step call message view seen) (strong_step call message view seen) f (record { own = own; known = v; number = s }) c in
    record { state = x.state; out = x.out }
take_fits (Eventual call) message view seen own v s f c = let x = eventual_fits call message f c in record { state = x.state; out = x.out }
take_fits (StrongMove call) message view seen own v s f c = let x = move_fits strong_rule call message f c in record { state = x.state; out = x.out }
take_fits (EventualMove call) message view seen own v s f c = let x = move_fits eventual_rule call message f c in record { state = x.state; out = x.out }

opens_fit : (work : StrongWork) (ticket : Stamp) (tag : Tag) (at : DcId) (view : View) (member : Quorum) → FitsStrongWork work → FitsStamp ticket → TakenFits (of_strong (opened_with work tag at view.key (leg_under view member ticket)))
opens_fit work ticket tag at view member f t = record {
  state = record { work = f; best = tt; ticket = t; held = zero_fits; gone = omega arith };
  out = posts_fit (first_posts work view.key tag (leg_under view member ticket)) (first_posts_fit work view.key tag (leg_under view member ticket) t);
}

opened_strong_fits : (work : StrongWork) (ticket : Stamp) (tag : Tag) (at : DcId) (view : View) (taken : Taken) → FitsStrongWork work → FitsStamp ticket → option_map of_strong (opened_as work ticket tag at view) ≡ Some taken → TakenFits taken
unfolding opened_as
opened_strong_fits work ticket tag at view taken f t e = by (member_of view.policy at.0) e
  where
    by : (o : Option Quorum) → option_map of_strong (option_map (λ member. opened_with work tag at view.key (leg_under view member ticket)) o) ≡ Some taken → TakenFits taken
    by None e = absurd (cc)
    by (Some member) e =
        let same : of_strong (opened_with work tag at view.key (leg_under view member ticket)) ≡ taken = cc in
        subst TakenFits same (opens_fit work ticket tag at view member f t)

some_fits : (made taken : Taken) → TakenFits made → Some made ≡ Some taken → TakenFits taken
some_fits made taken h e = let same : made ≡ taken = cc in subst TakenFits same h

get_fits : (tag : Tag) (at : ℕ) (view : View) (any : Bool) → TakenFits (of_eventual (opened_get tag at view any))
get_fits tag at view any = record {
  state = record { doing = tt; gone = omega arith };
  out = posts_fit (posts_to (asked_of view at any) (m.Read tag view.key view.epoch)) (each_to FitsMessage (asked_of view at any) (m.Read tag view.key view.epoch) tt);
}

put_fits : (tag : Tag) (at : ℕ) (view : View) (stamp : Stamp) (value : List ℕ) → FitsStamp stamp → FitsWork (w.Put value) → TakenFits (of_eventual (opened_put tag at view stamp value))
put_fits tag at view stamp value s f = record {
  state = record { doing = s; gone = omega arith };
  out = posts_fit (pushes_below tag at view stamp value 16) (each_map FitsMessage (push_to tag at view stamp value) (λ d. (s, f)) (directs_below view.policy at 16));
}

strong_move_fits : (tag : Tag) (view : View) → TakenFits (of_strong_move (started tag view.key))
strong_move_fits tag view = record { state = tt; out = posts_fit (to_directory (m.Lookup tag view.key)) (each_one FitsMessage (record { to = to.Directory; message = m.Lookup tag view.key }) tt) }

eventual_move_fits : (tag : Tag) (view : View) → TakenFits (of_eventual_move (started tag view.key))
eventual_move_fits tag view = record { state = tt; out = posts_fit (to_directory (m.Lookup tag view.key)) (each_one FitsMessage (record { to = to.Directory; message = m.Lookup tag view.key }) tt) }

-- the first step of a call
pub opened_fits : (strong : Bool) (tag : Tag) (at : DcId) (view : View) (ticket : Stamp) (work : Work) (taken : Taken) → FitsWork work → (draws_ticket work ≡ true → FitsStamp ticket) → opened_call strong tag at view ticket work ≡ Some taken
    → TakenFits taken
opened_fits true tag at view ticket w.Read taken f t e = opened_strong_fits ToRead stamp_zero tag at view taken tt zero_fits e
opened_fits true tag at view ticket (w.Write value) taken f t e = opened_strong_fits (ToWrite value) ticket tag at view taken f (t refl) e
opened_fits true tag at view ticket w.Get taken f t e = absurd (cc)
opened_fits true tag at view ticket w.GetAny taken f t e = absurd (cc)
opened_fits true tag at view ticket (w.Put value) taken f t e = absurd (cc)
opened_fits true tag at view ticket w.Move taken f t e = some_fits (of_strong_move (started tag view.key)) taken (strong_move_fits tag view) e
opened_fits false tag at view ticket w.Read taken f t e = absurd (cc)
opened_fits false tag at view ticket (w.Write value) taken f t e = absurd (cc)
opened_fits false tag at view ticket w.Get taken f t e = some_fits (of_eventual (opened_get tag at.0 view false)) taken (get_fits tag at.0 view false) e
opened_fits false tag at view ticket w.GetAny taken f t e = some_fits (of_eventual (opened_get tag at.0 view true)) taken (get_fits tag at.0 view true) e
opened_fits false tag at view ticket (w.Put value) taken f t e = some_fits (of_eventual (opened_put tag at.0 view ticket value)) taken (put_fits tag at.0 view ticket value (t refl) f) e
opened_fits false tag at view ticket w.Move taken f t e = some_fits (of_eventual_move (started tag view.key)) taken (eventual_move_fits tag view) e

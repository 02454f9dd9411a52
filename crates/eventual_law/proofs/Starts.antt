-- What a call on an eventual key is at its start, and what it sends.
use Rattle.std.proofs.Common.{◌≡◌, ℕ, Bool, true, false, List, refl, subst}
use Rattle.std.specs.Prelude.{Some}
use Rattle.span_base.specs.declared.ids.DcId.{DcId}
use Rattle.span_base.specs.declared.ids.KeyId.{KeyId}
use Rattle.span_base.specs.declared.dc_set.DcSet.{DcSet}
use Rattle.span_base.specs.DcSet.{no_centre}
use Rattle.ticket_rules.specs.declared.stamp.Stamp.{Stamp}
use Rattle.wire_msg.specs.declared.tag.Tag.{Tag}
use Rattle.wire_msg.specs.declared.actor.Actor.TheVariants as to
use Rattle.wire_msg.specs.declared.message.Message.{Message}
use Rattle.wire_msg.specs.declared.message.Message.TheVariants as m
use Rattle.wire_msg.specs.declared.outputs.View.{View}
use Rattle.run_marks.specs.declared.mark.Work.{Work}
use Rattle.run_marks.specs.declared.mark.Work.TheVariants as w
use Rattle.relay_proxy.specs.Routes.{directs_below, onward_of}
use Rattle.relay_proxy.specs.Rule as eventual
use Rattle.migration.specs.Move as move
use Rattle.migration.specs.declared.stage.Stage.TheVariants.{Looking}
use Rattle.world_core.specs.declared.live.LiveCall.{LiveCall}
use Rattle.world_core.specs.declared.live.LiveCall.TheVariants.{Strong, Eventual, StrongMove, EventualMove}
use Rattle.world_core.specs.Calls.{Taken, of_eventual, of_eventual_move}
use Rattle.world_core.specs.Starting.{opened_call, opened_eventual}
use Rattle.register_law.proofs.Basics.{Each, each_one, each_map, each_to}
use Rattle.eventual_law.specs.Kinds.{IsOfEventual, CarriesNone, shape}

-- a message of a call that begins: it carries nothing, or a put's value under its ticket
pub data StartSends (tag : Tag) (key : KeyId) (ticket : Stamp) (work : Work) (message : Message) : Type 0 where
  carries_none : CarriesNone message → StartSends tag key ticket work message
  puts : (onward : DcSet) (value : List ℕ) → work ≡ w.Put value → message ≡ m.Push tag key ticket onward value → StartSends tag key ticket work message

-- a move looks its key up at first
abbrev pub LooksUp : LiveCall → Type 0
LooksUp (Strong call) = Unit {0}
LooksUp (Eventual call) = Unit {0}
LooksUp (StrongMove call) = Unit {0}
LooksUp (EventualMove call) = call.stage ≡ Looking

pub record EventualStart (tag : Tag) (key : KeyId) (ticket : Stamp) (work : Work) (taken : Taken) : Type 0 where
  pub kind : IsOfEventual taken.state
  pub looks : LooksUp taken.state
  pub sends : Each (StartSends tag key ticket work) taken.out.posts
  pub common : Message
  pub shaped : Each (λ x. shape x ≡ common) taken.out.posts

is_start : (tag : Tag) (key : KeyId) (ticket : Stamp) (work : Work) (one taken : Taken) → Some one ≡ Some taken → EventualStart tag key ticket work one → EventualStart tag key ticket work taken
is_start tag key ticket work one taken e h = let same : one ≡ taken = cc in subst (EventualStart tag key ticket work) same h

get_starts : (tag : Tag) (at : DcId) (view : View) (ticket : Stamp) (work : Work) (any : Bool) → EventualStart tag view.key ticket work (of_eventual (eventual.opened_get tag at.0 view any))
get_starts tag at view ticket work any = record { kind = tt; looks = tt; sends = each_to (StartSends tag view.key ticket work) (eventual.asked_of view at.0 any) (m.Read tag view.key view.epoch) (carries_none tt); common = m.Read tag view.key view.epoch; shaped = each_to (λ x. shape x ≡ m.Read tag view.key view.epoch) (eventual.asked_of view at.0 any) (m.Read tag view.key view.epoch) refl }

put_starts : (tag : Tag) (at : DcId) (view : View) (ticket : Stamp) (value : List ℕ) → EventualStart tag view.key ticket (w.Put value) (of_eventual (eventual.opened_put tag at.0 view ticket value))
put_starts tag at view ticket value = record {
  kind = tt;
  looks = tt;
  sends = each_map (StartSends tag view.key ticket (w.Put value)) (eventual.push_to tag at.0 view ticket value) (λ p. puts (onward_of view.policy at.0 p) value refl refl) (directs_below view.policy at.0 16);
  common = m.Push tag view.key ticket no_centre value;
  shaped = each_map (λ x. shape x ≡ m.Push tag view.key ticket no_centre value) (eventual.push_to tag at.0 view ticket value) (λ p. refl) (directs_below view.policy at.0 16);
}

move_starts : (tag : Tag) (view : View) (ticket : Stamp) → EventualStart tag view.key ticket w.Move (of_eventual_move (move.started tag view.key))
move_starts tag view ticket = record { kind = tt; looks = refl; sends = each_one (StartSends tag view.key ticket w.Move) (record { to = to.Directory; message = m.Lookup tag view.key }) (carries_none tt); common = m.Lookup tag view.key; shaped = each_one (λ x. shape x ≡ m.Lookup tag view.key) (record { to = to.Directory; message = m.Lookup tag view.key }) refl }

opened_starts : (tag : Tag) (at : DcId) (view : View) (ticket : Stamp) (work : Work) (taken : Taken) → opened_eventual tag at view ticket work ≡ Some taken → EventualStart tag view.key ticket work taken
opened_starts tag at view ticket w.Read taken e = absurd (cc)
opened_starts tag at view ticket (w.Write value) taken e = absurd (cc)
opened_starts tag at view ticket w.Get taken e = is_start tag view.key ticket w.Get (of_eventual (eventual.opened_get tag at.0 view false)) taken e (get_starts tag at view ticket w.Get false)
opened_starts tag at view ticket w.GetAny taken e = is_start tag view.key ticket w.GetAny (of_eventual (eventual.opened_get tag at.0 view true)) taken e (get_starts tag at view ticket w.GetAny true)
opened_starts tag at view ticket (w.Put value) taken e = is_start tag view.key ticket (w.Put value) (of_eventual (eventual.opened_put tag at.0 view ticket value)) taken e (put_starts tag at view ticket value)
opened_starts tag at view ticket w.Move taken e = is_start tag view.key ticket w.Move (of_eventual_move (move.started tag view.key)) taken e (move_starts tag view ticket)

pub eventual_starts : (b : Bool) (tag : Tag) (at : DcId) (view : View) (ticket : Stamp) (work : Work) (taken : Taken) → b ≡ false → opened_call b tag at view ticket work ≡ Some taken → EventualStart tag view.key ticket work taken
eventual_starts true tag at view ticket work taken is e = absurd (cc)
eventual_starts false tag at view ticket work taken is e = opened_starts tag at view ticket work taken e

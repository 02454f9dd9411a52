-- How a call begins.
use Rattle.std.specs.Prelude.{ℕ, ◌+◌, ◌==◌, ◌&&◌, not, Bool, true, false, if◌then◌else◌, List, [], ◌∷◌, Option, Some, None, option_map, is_some}
use Rattle.std.specs.Option.{option_map_or}
use Rattle.span_base.specs.declared.ids.Call.{Call}
use Rattle.span_base.specs.declared.ids.DcId.{DcId}
use Rattle.span_base.specs.declared.ids.KeyId.{KeyId}
use Rattle.span_base.specs.PolicyParts.{member_of, primary_of}
use Rattle.ticket_rules.specs.declared.stamp.Stamp.{Stamp}
use Rattle.wire_msg.specs.declared.tag.Tag.{Tag}
use Rattle.wire_msg.specs.declared.outputs.Post.{Post}
use Rattle.wire_msg.specs.declared.outputs.View.{View}
use Rattle.wire_msg.specs.declared.outputs.Reply.{Reply}
use Rattle.wire_msg.specs.declared.outputs.Reply.TheVariants as r
use Rattle.slot_pool.specs.declared.handles.Handle.{Handle}
use Rattle.slot_pool.specs.Slots.{next_handle, with_item}
use Rattle.strong_proxy.specs.Rule.{opened_read, opened_write}
use Rattle.relay_proxy.specs.Rule.{opened_get, opened_put}
use Rattle.migration.specs.Move.{started}
use Rattle.run_marks.specs.declared.mark.Work.{Work}
use Rattle.run_marks.specs.declared.mark.Mark.{Mark}
use Rattle.run_marks.specs.declared.mark.Work.TheVariants as w
use Rattle.run_marks.specs.declared.mark.Mark.TheVariants as k
use Rattle.world_core.specs.State.{Proxy, view_at}
use Rattle.world_core.specs.Calls.{Taken, of_strong, of_eventual, of_strong_move, of_eventual_move}

-- what an actor becomes, what is sent, and the marks
pub record Done (A : Type 0) : Type 0 where
  pub actor : A
  pub posts : List Post
  pub marks : List Mark

-- the centre may do this work under the view; a move needs no membership
abbrev pub is_member : Work → View → DcId → Bool
is_member w.Read view at = is_some (member_of view.policy at.0)
is_member (w.Write value) view at = is_some (member_of view.policy at.0)
is_member w.Get view at = is_some (primary_of view.policy at.0)
is_member w.GetAny view at = is_some (primary_of view.policy at.0)
is_member (w.Put value) view at = is_some (primary_of view.policy at.0)
is_member w.Move view at = true

-- the work draws a ticket
abbrev pub draws_ticket : Work → Bool
draws_ticket w.Read = false
draws_ticket (w.Write value) = true
draws_ticket w.Get = false
draws_ticket w.GetAny = false
draws_ticket (w.Put value) = true
draws_ticket w.Move = false

-- the ticket that a proxy draws for its next call
abbrev pub ticket_of : Proxy → View → Call → Stamp
ticket_of proxy view call = record { epoch = view.epoch; number = proxy.seen + 1; proxy = call.proxy; seq = call.seq }

-- the first step of a call on a strong key
abbrev pub opened_strong : Tag → DcId → View → Stamp → Work → Option Taken
opened_strong tag at view ticket w.Read = option_map of_strong (opened_read tag at view)
opened_strong tag at view ticket (w.Write value) = option_map of_strong (opened_write tag at view ticket value)
opened_strong tag at view ticket w.Get = None
opened_strong tag at view ticket w.GetAny = None
opened_strong tag at view ticket (w.Put value) = None
opened_strong tag at view ticket w.Move = Some (of_strong_move (started tag view.key))

-- the first step of a call on an eventual key
abbrev pub opened_eventual : Tag → DcId → View → Stamp → Work → Option Taken
opened_eventual tag at view ticket w.Read = None
opened_eventual tag at view ticket (w.Write value) = None
opened_eventual tag at view ticket w.Get = Some (of_eventual (opened_get tag at.0 view false))
opened_eventual tag at view ticket w.GetAny = Some (of_eventual (opened_get tag at.0 view true))
opened_eventual tag at view ticket (w.Put value) = Some (of_eventual (opened_put tag at.0 view ticket value))
opened_eventual tag at view ticket w.Move = Some (of_eventual_move (started tag view.key))

abbrev pub opened_call : Bool → Tag → DcId → View → Stamp → Work → Option Taken
opened_call strong tag at view ticket work = if strong then opened_strong tag at view ticket work else opened_eventual tag at view ticket work

-- the call is begun, and ends at once
abbrev pub ends_at_once : Proxy → Call → KeyId → Work → Reply → Done Proxy
ends_at_once proxy call key work reply = record {
  actor = record proxy { begun = call.seq };
  posts = [];
  marks = k.Begin call key work ∷ k.End call reply ∷ [];
}

abbrev pub ticket_marks : Call → Stamp → Work → List Mark
ticket_marks call ticket work = if draws_ticket work then k.Ticket call ticket ∷ [] else []

-- the call lives under the handle, and sends its first requests
abbrev pub enters : Proxy → Call → Handle → KeyId → Work → Stamp → Taken → Done Proxy
enters proxy call handle key work ticket taken = record {
  actor = record proxy { begun = call.seq; seen = if draws_ticket work then ticket.number else proxy.seen; calls = with_item proxy.calls handle taken.state };
  posts = taken.out.posts;
  marks = k.Begin call key work ∷ ticket_marks call ticket work;
}

abbrev pub first_tag : Call → Handle → Tag
first_tag call handle = record { call = call; slot = handle.slot; generation = handle.generation; phase = 1 }

-- the call under the handle, where its first step is told
abbrev pub enters_with : Bool → Proxy → Call → KeyId → Work → View → Handle → Done Proxy
enters_with strong proxy call key work view handle =
    option_map_or (enters proxy call handle key work (ticket_of proxy view call))
    (opened_call strong (first_tag call handle) proxy.at view (ticket_of proxy view call) work)
    (ends_at_once proxy call key work r.Outside)

-- with a free slot
abbrev pub starts_in : Bool → Proxy → Call → KeyId → Work → View → Handle → Done Proxy
starts_in strong proxy call key work view handle =
    if draws_ticket work && (proxy.seen == 18446744073709551615)
    then ends_at_once proxy call key work r.NumbersOut
    else enters_with strong proxy call key work view handle

abbrev pub starts_as : Bool → Proxy → Call → KeyId → Work → View → Done Proxy
starts_as strong proxy call key work view =
    if not (is_member work view proxy.at)
    then ends_at_once proxy call key work r.Outside
    else option_map_or (starts_in strong proxy call key work view) (next_handle proxy.calls) (ends_at_once proxy call key work r.Full)

-- a proxy of this number begins a call: Outside, Full and NumbersOut are told at once, in this order
unfoldable pub starts : Bool → ℕ → Proxy → KeyId → Work → Done Proxy
starts strong number proxy key work =
    starts_as strong proxy (record { proxy = number; seq = proxy.begun + 1 }) key work (view_at proxy.views key)

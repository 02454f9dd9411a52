-- Of no concern to a reader of the rule: how a proxy's steps come about in parts, for the contracts of the functions that make them.
use Rattle.std.specs.Prelude.{ℕ, ◌+◌, ◌==◌, ◌&&◌, not, List, [], ◌∷◌, ◌++◌, Option, Some, None, Result, Ok, Err, if◌then◌else◌}
use Rattle.std.specs.Option.{option_map_or}
use Rattle.span_base.specs.declared.ids.Call.{Call}
use Rattle.wire_msg.specs.declared.message.Message.{Message}
use Rattle.wire_msg.specs.declared.outputs.View.{View}
use Rattle.wire_msg.specs.declared.outputs.Reply.{Reply}
use Rattle.wire_msg.specs.declared.outputs.Reply.TheVariants as r
use Rattle.wire_msg.specs.Outputs.{Step, nothing_out}
use Rattle.slot_pool.specs.declared.handles.Handle.{Handle}
use Rattle.slot_pool.specs.Slots.{Slot, next_handle, after_write, after_take}
use Rattle.ticket_rules.specs.declared.stamp.Stamp.{Stamp}
use Rattle.run_marks.specs.declared.mark.Work.{Work}
use Rattle.run_marks.specs.declared.mark.Mark.{Mark}
use Rattle.run_marks.specs.declared.mark.Mark.TheVariants as k
use Rattle.world_core.specs.declared.live.LiveCall.{LiveCall}
use Rattle.world_core.specs.declared.beginning.Beginning.{Beginning}
use Rattle.world_core.specs.State.{Proxy, view_at}
use Rattle.world_core.specs.Calls.{Taken, take, key_of_call}
use Rattle.world_core.specs.Starting.{Done, is_member, draws_ticket}
use Rattle.world_core.specs.Step.{seen_with, views_with, ticket_marks, end_marks}

-- what a live call makes of a message
abbrev pub taken_by : LiveCall → Message → List View → ℕ → Taken
taken_by call message views seen = take call message (view_at views (key_of_call call)) seen

-- the calls after the one under the handle took the message
abbrev pub written : List (Slot LiveCall) → Handle → Taken → Step (List (Slot LiveCall))
written calls handle taken = record { state = after_write calls handle taken.state; out = taken.out }

-- the calls, and what is put out, once the call under the handle, if it is live, took the message
abbrev pub taken_under : List (Slot LiveCall) → Handle → Message → List View → ℕ → Option LiveCall → Step (List (Slot LiveCall))
taken_under calls handle message views seen None = record { state = calls; out = nothing_out }
taken_under calls handle message views seen (Some call) = written calls handle (taken_by call message views seen)

-- the calls without the one that has ended
abbrev pub calls_left : List (Slot LiveCall) → Handle → Option Reply → List (Slot LiveCall)
calls_left calls handle None = calls
calls_left calls handle (Some reply) = after_take calls handle

-- a proxy that has learned, and whose calls took the message
abbrev pub finished : Proxy → Handle → Call → Step (List (Slot LiveCall)) → Done Proxy
finished proxy handle call step = record {
  actor = record proxy {
    seen = seen_with proxy.seen step.out.ticket;
    views = views_with proxy.views step.out.view;
    calls = calls_left step.state handle step.out.end;
  };
  posts = step.out.posts;
  marks = ticket_marks call step.out.ticket ++ end_marks call step.out.end;
}

-- the handle under which a call enters, unless no number is left for its ticket
abbrev pub numbered : Proxy → Work → Handle → Result Handle Reply
numbered proxy work handle = if draws_ticket work && (proxy.seen == 18446744073709551615) then Err r.NumbersOut else Ok handle

-- the handle under which a call enters, or why it ends at once
abbrev pub way_in : Proxy → View → Work → Result Handle Reply
way_in proxy view work =
    if not (is_member work view proxy.at) then Err r.Outside else option_map_or (numbered proxy work) (next_handle proxy.calls) (Err r.Full)

-- a call that ends as it begins
abbrev pub at_once : ℕ → Mark → Call → Reply → Beginning
at_once seen begin call reply = record { call = None; seen = seen; effects = record { posts = []; marks = begin ∷ k.End call reply ∷ [] } }

-- the ticket that a call draws under a view
abbrev pub ticket_under : View → ℕ → Call → Stamp
ticket_under view seen call = record { epoch = view.epoch; number = seen + 1; proxy = call.proxy; seq = call.seq }

-- the ticket of a call whose work draws one
abbrev pub drawn_ticket : View → ℕ → Call → Work → Option Stamp
drawn_ticket view seen call work = if draws_ticket work then Some (ticket_under view seen call) else None

-- a call that enters the pool with its first step
abbrev pub beginning_of : ℕ → Mark → Call → Option Stamp → Taken → Beginning
beginning_of seen begin call ticket taken = record {
  call = Some taken.state;
  seen = seen_with seen ticket;
  effects = record { posts = taken.out.posts; marks = begin ∷ ticket_marks call ticket };
}

-- One step of the store: what one event does.
use Rattle.std.specs.Prelude.{ℕ, ◌+◌, ◌==◌, nat_lt, not, Bool, true, false, if◌then◌else◌, List, [], ◌∷◌, ◌++◌, length, slice_set, slice_get, Option, Some, None, Result, Ok, Err}
use Rattle.std.specs.List.{position}
use Rattle.std.specs.Option.{option_map_or}
use Rattle.span_base.specs.declared.ids.Call.{Call}
use Rattle.span_base.specs.declared.ids.KeyId.{KeyId}
use Rattle.span_base.specs.declared.words.What.TheVariants.{Messages, FrameBytes, Epochs}
use Rattle.ticket_rules.specs.declared.stamp.Stamp.{Stamp}
use Rattle.wire_msg.specs.declared.actor.Actor.{Actor}
use Rattle.wire_msg.specs.declared.message.Message.{Message}
use Rattle.wire_msg.specs.declared.outputs.Post.{Post}
use Rattle.wire_msg.specs.declared.outputs.View.{View}
use Rattle.wire_msg.specs.declared.outputs.Reply.{Reply}
use Rattle.wire_msg.specs.Sizes.{bulk_of}
use Rattle.wire_msg.specs.Posts.{tag_of}
use Rattle.wire_msg.specs.Outputs.{Step}
use Rattle.wire_msg.specs.declared.actor.Actor.TheVariants as to
use Rattle.wire_msg.specs.declared.outputs.Reply.TheVariants as r
use Rattle.slot_pool.specs.declared.handles.Handle.{Handle}
use Rattle.slot_pool.specs.Slots.{Slot, Content, Empty, Holds, Retired, handle_of, item_at, after_write, after_take}
use Rattle.replica_core.specs.Rule as replica
use Rattle.epoch_directory.specs.declared.table.SetPolicy.{SetPolicy}
use Rattle.epoch_directory.specs.State as directory
use Rattle.epoch_directory.specs.Step as directory_step
use Rattle.epoch_directory.specs.declared.table.PublishFault.{PublishFault}
use Rattle.epoch_directory.specs.declared.table.PublishFault.TheVariants as fault
use Rattle.epoch_directory.specs.Tables.{table_fault}
use Rattle.epoch_directory.specs.Tables as directory_tables
use Rattle.run_marks.specs.declared.mark.Work.{Work}
use Rattle.run_marks.specs.declared.mark.Mark.{Mark}
use Rattle.run_marks.specs.declared.mark.Work.TheVariants as w
use Rattle.run_marks.specs.declared.mark.NoEpochCause.TheVariants as cause
use Rattle.run_marks.specs.declared.mark.Mark.TheVariants as k
use Rattle.world_core.specs.declared.live.LiveCall.{LiveCall}
use Rattle.world_core.specs.declared.live.LiveCall.TheVariants.{Strong, Eventual, StrongMove, EventualMove}
use Rattle.world_core.specs.declared.event.Event.{Event}
use Rattle.world_core.specs.declared.event.Event.TheVariants.{Start, Deliver, StopReplica, StopProxy, GiveUp, Publish}
use Rattle.world_core.specs.declared.event.StepFault.{StepFault}
use Rattle.world_core.specs.declared.event.StepFault.TheVariants.{NoActor, NoKey, WrongMode, NoMessage, NoCall, Limit}
use Rattle.world_core.specs.State.{Proxy, Replica, Store, replica_at, proxy_at, view_at}
use Rattle.world_core.specs.Knowing.{learned}
use Rattle.world_core.specs.Calls.{Taken, take, tag_of_call, key_of_call}
use Rattle.world_core.specs.Starting.{Done, starts}

-- the state after an event, the event's marks, and what it sent
pub record Happening : Type 0 where
  pub store : Store
  pub marks : List Mark
  pub posts : List Post

-- what an event makes of a state, or why it is refused
abbrev pub Outcome : Type 0
Outcome = Result Happening StepFault

-- nothing happens
abbrev pub nothing : Store → Outcome
nothing store = Ok (record { store = store; marks = []; posts = [] })

-- the greatest number of messages, and of bytes of their frames
abbrev pub message_limit : ℕ
message_limit = 4000000

abbrev pub byte_limit : ℕ
byte_limit = 536870912

-- these are sent too
abbrev pub with_sent : Store → List Post → List Mark → Happening
with_sent store posts marks = record { store = record store { sent = store.sent ++ posts }; marks = marks; posts = posts }

-- these are sent too, where they don't pass a limit: the number of messages is tried first
abbrev pub sends : Store → List Post → List Mark → Outcome
sends store posts marks =
    if nat_lt message_limit (length store.sent + length posts) then Err (Limit Messages (length store.sent + length posts))
    else if nat_lt byte_limit ((bulk_of store.sent).bytes + (bulk_of posts).bytes) then Err (Limit FrameBytes ((bulk_of store.sent).bytes + (bulk_of posts).bytes))
    else Ok (with_sent store posts marks)

abbrev pub with_proxy : Store → ℕ → Proxy → Store
with_proxy store p proxy = record store { proxies = slice_set store.proxies p proxy }

abbrev pub with_replica : Store → ℕ → Replica → Store
with_replica store d at = record store { replicas = slice_set store.replicas d at }

-- what a proxy did
abbrev pub proxy_did : Store → ℕ → Done Proxy → Outcome
proxy_did store p did = sends (with_proxy store p did.actor) did.posts did.marks

-- the key's set is strong
abbrev pub is_strong_key : Store → KeyId → Bool
is_strong_key store key = directory.is_strong_set store.directory (directory.set_of store.directory key)

-- the work is one that keys of this mode have
abbrev pub fits_mode : Bool → Work → Bool
fits_mode strong w.Read = strong
fits_mode strong (w.Write value) = strong
fits_mode strong w.Get = not strong
fits_mode strong w.GetAny = not strong
fits_mode strong (w.Put value) = not strong
fits_mode strong w.Move = true

-- a proxy that isn't stopped is to begin a call
abbrev pub start_at : Store → ℕ → KeyId → Work → Outcome
start_at store p key work =
    if not (nat_lt key.0 (length store.directory.sets)) then Err NoKey
    else if not (fits_mode (is_strong_key store key) work) then Err WrongMode
    else proxy_did store p (starts (is_strong_key store key) p (proxy_at store p) key work)

-- the proxy of this number is to begin a call
abbrev pub start : Store → ℕ → ℕ → Work → Outcome
start store p key work =
    if not (nat_lt p (length store.proxies)) then Err NoActor
    else if (proxy_at store p).stopped then nothing store
    else start_at store p (record { 0 = key }) work

-- a replica takes a message
abbrev pub replica_takes : Store → ℕ → Message → Step replica.State → Outcome
replica_takes store d message step =
    sends (with_replica store d (record { stopped = false; state = step.state })) step.out.posts []

-- the directory takes a message
abbrev pub directory_takes : Store → Step directory.State → Outcome
directory_takes store step = sends (record store { directory = step.state }) step.out.posts []

-- the greatest number seen, once a ticket is drawn
abbrev pub seen_with : ℕ → Option Stamp → ℕ
seen_with seen None = seen
seen_with seen (Some ticket) = ticket.number

-- what is known of the keys, once a move has opened an epoch
abbrev pub views_with : List View → Option View → List View
views_with views None = views
views_with views (Some view) = slice_set views view.key.0 view

-- the live calls, once one has gone on or has ended
abbrev pub calls_with : List (Slot LiveCall) → Handle → LiveCall → Option Reply → List (Slot LiveCall)
calls_with calls handle call None = after_write calls handle call
calls_with calls handle call (Some reply) = after_take calls handle

abbrev pub ticket_marks : Call → Option Stamp → List Mark
ticket_marks call None = []
ticket_marks call (Some ticket) = k.Ticket call ticket ∷ []

abbrev pub end_marks : Call → Option Reply → List Mark
end_marks call None = []
end_marks call (Some reply) = k.End call reply ∷ []

-- a proxy after a call under this handle took a message of the call: only one with the call's own tag counts
abbrev pub call_did : Proxy → Handle → Call → Taken → Done Proxy
call_did proxy handle call taken = record {
  actor = record proxy {
    seen = seen_with proxy.seen taken.out.ticket;
    views = views_with proxy.views taken.out.view;
    calls = calls_with proxy.calls handle taken.state taken.out.end;
  };
  posts = taken.out.posts;
  marks = ticket_marks call taken.out.ticket ++ end_marks call taken.out.end;
}

-- the handle under which the message's call would be live
abbrev pub handle_in : Message → Handle
handle_in message = record { slot = (tag_of message).slot; generation = (tag_of message).generation }

-- a live call of a proxy, which has learned what the message shows, takes it
abbrev pub call_takes : Proxy → Message → LiveCall → Done Proxy
call_takes proxy message call =
    call_did proxy (handle_in message) (tag_of message).call (take call message (view_at proxy.views (key_of_call call)) proxy.seen)

-- no call takes the message
abbrev pub only_learns : Proxy → Done Proxy
only_learns proxy = record { actor = proxy; posts = []; marks = [] }

abbrev pub proxy_takes_as : Proxy → Message → Done Proxy
proxy_takes_as proxy message = option_map_or (call_takes proxy message) (item_at proxy.calls (handle_in message)) (only_learns proxy)

-- a proxy takes a message: it learns what the message shows, and then the message's call takes it, if it is live
unfoldable pub proxy_takes : Proxy → Message → Done Proxy
proxy_takes proxy message = proxy_takes_as (learned proxy message) message

-- an actor takes a message, unless it is stopped
abbrev pub deliver_to : Store → Actor → Message → Outcome
deliver_to store (to.Replica d) message =
    if (replica_at store d).stopped then nothing store else replica_takes store d message (replica.step (replica_at store d).state message)
deliver_to store to.Directory message = directory_takes store (directory_step.step store.directory message)
deliver_to store (to.Proxy p) message = if (proxy_at store p).stopped then nothing store else proxy_did store p (proxy_takes (proxy_at store p) message)

abbrev pub deliver : Store → ℕ → Outcome
deliver store n = option_map_or (λ post. deliver_to store post.to post.message) (slice_get store.sent n) (Err (NoMessage (length store.sent)))

abbrev pub stop_replica : Store → ℕ → Outcome
stop_replica store d =
    if not (nat_lt d (length store.replicas)) then Err NoActor
    else nothing (with_replica store d (record { stopped = true; state = (replica_at store d).state }))

abbrev pub stop_proxy : Store → ℕ → Outcome
stop_proxy store p =
    if not (nat_lt p (length store.proxies)) then Err NoActor
    else nothing (with_proxy store p (record (proxy_at store p) { stopped = true }))

-- the slot holds the live call with this number
abbrev pub holds_call : ℕ → Content LiveCall → Bool
holds_call seq Empty = false
holds_call seq (Holds call) = (tag_of_call call).call.seq == seq
holds_call seq Retired = false

-- the handle of the proxy's live call with this number
abbrev pub handle_of_call : List (Slot LiveCall) → ℕ → Option Handle
handle_of_call calls seq = option_map_or (λ number. Some (handle_of calls number)) (position (λ slot. holds_call seq slot.content) calls) None

-- a live call that may be given up: a freeze that a move of an eventual key has begun isn't left half done
abbrev pub may_give_up : LiveCall → Bool
may_give_up (Strong call) = true
may_give_up (Eventual call) = true
may_give_up (StrongMove call) = true
may_give_up (EventualMove call) = call.phase.tag.phase == 1

abbrev pub gives_up : Store → ℕ → Handle → LiveCall → Outcome
gives_up store p handle call =
    if may_give_up call
    then Ok (record {
      store = with_proxy store p (record (proxy_at store p) { calls = after_take (proxy_at store p).calls handle });
      marks = k.End (tag_of_call call).call r.GivenUp ∷ [];
      posts = [];
    })
    else Err NoCall

abbrev pub give_up_under : Store → ℕ → Handle → Outcome
give_up_under store p handle = option_map_or (gives_up store p handle) (item_at (proxy_at store p).calls handle) (Err NoCall)

abbrev pub give_up : Store → ℕ → ℕ → Outcome
give_up store p seq =
    if not (nat_lt p (length store.proxies)) then Err NoActor
    else if (proxy_at store p).stopped then nothing store
    else option_map_or (give_up_under store p) (handle_of_call (proxy_at store p).calls seq) (Err NoCall)

-- a table that opens no epoch; only these two faults are ever a table's
abbrev pub opens_none : Store → PublishFault → Outcome
opens_none store (fault.MissingSet set) = Ok (record { store = store; marks = k.NoEpoch (cause.MissingSet set) ∷ []; posts = [] })
opens_none store (fault.NotQuorum set) = Ok (record { store = store; marks = k.NoEpoch (cause.NotQuorum set) ∷ []; posts = [] })
opens_none store _ = nothing store

-- a table opens the next epoch, unless something is wrong with it
abbrev pub judged : Store → List SetPolicy → Outcome
judged store table =
    option_map_or (opens_none store) (table_fault store.directory table)
    (Ok (record {
      store = record store { directory = directory_tables.after_publish store.directory table };
      marks = k.Epoch (directory.latest store.directory + 1) ∷ [];
      posts = [];
    }))

abbrev pub publish : Store → List SetPolicy → Outcome
publish store table = if directory.latest store.directory == 1000 then Err (Limit Epochs 1001) else judged store table

-- what an event does
unfoldable pub step : Store → Event → Outcome
step store (Start proxy key work) = start store proxy key work
step store (Deliver message) = deliver store message
step store (StopReplica number) = stop_replica store number
step store (StopProxy number) = stop_proxy store number
step store (GiveUp proxy seq) = give_up store proxy seq
step store (Publish table) = publish store table

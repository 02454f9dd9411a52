-- The rule of eventual calls.
use Rattle.std.specs.Prelude.{ℕ, ◌+◌, Bool, false, ◌&&◌, ◌==◌, nat_le, max, if◌then◌else◌, List, [], map, length, None, Some}
use Rattle.std.specs.Option.{option_map_or}
use Rattle.span_base.specs.declared.ids.DcId.{DcId}
use Rattle.span_base.specs.declared.dc_set.DcSet.{DcSet}
use Rattle.span_base.specs.DcSet.{bits_of, no_centre, insert, centres_of}
use Rattle.span_base.specs.PolicyParts.{faults_of, replicas_of, primary_of}
use Rattle.ticket_rules.specs.declared.stamp.Stamp.{Stamp}
use Rattle.wire_msg.specs.declared.tag.Tag.{Tag}
use Rattle.wire_msg.specs.declared.actor.Actor.TheVariants.{Replica}
use Rattle.wire_msg.specs.declared.message.Message.{Message}
use Rattle.wire_msg.specs.declared.message.Message.TheVariants.{Read, Push, Lookup, Have, Yes, Gone}
use Rattle.wire_msg.specs.declared.outputs.Post.{Post}
use Rattle.wire_msg.specs.declared.outputs.View.{View}
use Rattle.wire_msg.specs.declared.outputs.Reply.{Reply}
use Rattle.wire_msg.specs.declared.outputs.Reply.TheVariants.{Value, Stored, Moved}
use Rattle.wire_msg.specs.Outputs.{nothing_out, only_posts, Step}
use Rattle.wire_msg.specs.Posts.{to_directory}
use Rattle.call_phase.specs.declared.phase.Phase.{Phase}
use Rattle.call_phase.specs.Counting.{opened, counts, with_good, with_bad, next_tag}
use Rattle.call_phase.specs.Requests.{posts_to}
use Rattle.relay_proxy.specs.declared.stage.Stage.{Stage}
use Rattle.relay_proxy.specs.declared.stage.Stage.TheVariants.{Getting, Putting, Ended}
use Rattle.relay_proxy.specs.Routes.{directs_below, onward_of}
use Rattle.relay_proxy.specs.State.{State}

-- whom a get asks: every replica, or the member's primary alone
abbrev pub asked_of : View → ℕ → Bool → DcSet
asked_of view at any = if any then replicas_of view.policy else option_map_or (insert no_centre) (primary_of view.policy at) no_centre

-- a get asks them for what they keep
abbrev pub opened_get : Tag → ℕ → View → Bool → Step State
opened_get tag at view any = record {
  state = record { key = view.key; stage = Getting; f = faults_of view.policy; phase = opened tag (asked_of view at any); gone = 0 };
  out = only_posts (posts_to (asked_of view at any) (Read tag view.key view.epoch));
}

-- the message of a put to the replica p
abbrev pub push_to : Tag → ℕ → View → Stamp → List ℕ → ℕ → Post
push_to tag at view stamp value p = record { to = Replica p; message = Push tag view.key stamp (onward_of view.policy at p) value }

-- the messages of a put to the replicas below n
abbrev pub pushes_below : Tag → ℕ → View → Stamp → List ℕ → ℕ → List Post
pushes_below tag at view stamp value n = map (push_to tag at view stamp value) (directs_below view.policy at n)

-- a put goes to each direct replica of the member, in rising order
abbrev pub opened_put : Tag → ℕ → View → Stamp → List ℕ → Step State
opened_put tag at view stamp value = record {
  state = record { key = view.key; stage = Putting stamp; f = faults_of view.policy; phase = opened tag (replicas_of view.policy); gone = 0 };
  out = only_posts (pushes_below tag at view stamp value 16);
}

-- the call as it stands, with nothing put out
abbrev pub stays : State → Step State
stays call = record { state = call; out = nothing_out }

-- the call goes on with another phase
abbrev pub goes_on : State → Phase → ℕ → Step State
goes_on call phase gone = stays (record { key = call.key; stage = call.stage; f = call.f; phase = phase; gone = gone })

-- the call after its end
abbrev pub ended : State → State
ended call = record { key = call.key; stage = Ended; f = call.f; phase = call.phase; gone = call.gone }

-- the call ends
abbrev pub ends : State → Reply → Step State
ends call reply = record { state = ended call; out = record { posts = []; ticket = None; view = None; end = Some reply } }

-- the key is looked up in the next phase
abbrev pub look_up : State → Message
look_up call = Lookup (next_tag call.phase.tag) call.key

-- the call ends since the key moved on, which is looked up
abbrev pub moves : State → ℕ → Step State
moves call epoch = record { state = ended call; out = record { posts = to_directory (look_up call); ticket = None; view = None; end = Some (Moved epoch) } }

-- the first version ends a get
abbrev pub on_have : Stage → State → Tag → DcId → Stamp → List ℕ → Step State
on_have Getting call tag replica version value = if counts call.phase tag replica then ends call (Value version value) else stays call
on_have (Putting stamp) call tag replica version value = stays call
on_have Ended call tag replica version value = stays call

-- f + 1 replicas did as they were asked
abbrev pub is_stored : ℕ → Phase → Bool
is_stored f phase = nat_le (f + 1) (length (centres_of phase.good))

-- the put after the replica stored its value: f + 1 that did end it
abbrev pub stored_at : State → DcId → Stamp → Step State
stored_at call replica stamp =
    if is_stored call.f (with_good call.phase replica)
    then ends call (Stored stamp)
    else goes_on call (with_good call.phase replica) call.gone

-- a replica did as it was asked
abbrev pub on_yes : Stage → State → Tag → DcId → Step State
on_yes Getting call tag replica = stays call
on_yes (Putting stamp) call tag replica = if counts call.phase tag replica then stored_at call replica stamp else stays call
on_yes Ended call tag replica = stays call

-- every replica that was asked refused
abbrev pub all_refused : Phase → Bool
all_refused phase = bits_of phase.bad == bits_of phase.asked

-- the get after the epoch was over at the replica: it moves on once that is so at every one
abbrev pub refused_at : State → DcId → ℕ → Step State
refused_at call replica epoch =
    if all_refused (with_bad call.phase replica)
    then moves call (max call.gone epoch)
    else goes_on call (with_bad call.phase replica) (max call.gone epoch)

-- the epoch is over at a replica; that moves a put on at once
abbrev pub on_gone : Stage → State → Tag → DcId → ℕ → Step State
on_gone Getting call tag replica epoch = if counts call.phase tag replica then refused_at call replica epoch else stays call
on_gone (Putting stamp) call tag replica epoch = if counts call.phase tag replica then moves call epoch else stays call
on_gone Ended call tag replica epoch = stays call

-- a call moves on where the epoch is over at this replica
abbrev pub moves_by : Stage → State → Tag → DcId → Bool
moves_by Getting call tag replica = counts call.phase tag replica && all_refused (with_bad call.phase replica)
moves_by (Putting stamp) call tag replica = counts call.phase tag replica
moves_by Ended call tag replica = false

-- a call takes a message
abbrev pub step : State → Message → Step State
step call (Have tag replica version mark value) = on_have call.stage call tag replica version value
step call (Yes tag replica) = on_yes call.stage call tag replica
step call (Gone tag replica epoch) = on_gone call.stage call tag replica epoch
step call message = stays call

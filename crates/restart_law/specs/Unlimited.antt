-- The store where nothing limits its messages: neither their number nor the bytes of their frames.
use Rattle.std.specs.Prelude.{ℕ, ◌+◌, ◌≤◌, nat_lt, not, false, if◌then◌else◌, List, [], ◌∷◌, length, slice_get, Ok, Err}
use Rattle.std.specs.Option.{option_map_or}
use Rattle.span_base.specs.declared.ids.KeyId.{KeyId}
use Rattle.span_base.specs.declared.words.What.TheVariants.{Messages, FrameBytes}
use Rattle.wire_msg.specs.declared.actor.Actor.{Actor}
use Rattle.wire_msg.specs.declared.actor.Actor.TheVariants as to
use Rattle.wire_msg.specs.declared.message.Message.{Message}
use Rattle.wire_msg.specs.Outputs.{Step}
use Rattle.wire_msg.specs.Sizes.{bulk_of}
use Rattle.replica_core.specs.Rule as replica
use Rattle.epoch_directory.specs.State as directory
use Rattle.epoch_directory.specs.Step as directory_step
use Rattle.run_marks.specs.declared.mark.Work.{Work}
use Rattle.world_core.specs.declared.event.Header.{Header}
use Rattle.world_core.specs.declared.event.Event.{Event}
use Rattle.world_core.specs.declared.event.Event.TheVariants.{Start, Deliver}
use Rattle.world_core.specs.declared.event.StepFault.TheVariants.{NoActor, NoKey, WrongMode, NoMessage, Limit}
use Rattle.world_core.specs.State.{Proxy, Store, opening, replica_at, proxy_at}
use Rattle.world_core.specs.Starting.{Done, starts}
use Rattle.world_core.specs.Step.{Outcome, nothing, with_sent, with_proxy, with_replica, is_strong_key, fits_mode, proxy_takes, message_limit, byte_limit, step}
use Rattle.world_core.specs.Run.{Run, nothing_ran, ran, store_after}

-- what a proxy did
abbrev pub proxy_does : Store → ℕ → Done Proxy → Outcome
proxy_does store p done = Ok (with_sent (with_proxy store p done.actor) done.posts done.marks)

-- a proxy that isn't stopped is to begin a call
abbrev pub start_at : Store → ℕ → KeyId → Work → Outcome
start_at store p key work =
    if not (nat_lt key.0 (length store.directory.sets)) then Err NoKey
    else if not (fits_mode (is_strong_key store key) work) then Err WrongMode
    else proxy_does store p (starts (is_strong_key store key) p (proxy_at store p) key work)

-- the proxy of this number is to begin a call
abbrev pub start : Store → ℕ → ℕ → Work → Outcome
start store p key work =
    if not (nat_lt p (length store.proxies)) then Err NoActor
    else if (proxy_at store p).stopped then nothing store
    else start_at store p (record { 0 = key }) work

-- a replica takes a message
abbrev pub replica_takes : Store → ℕ → Step replica.State → Outcome
replica_takes store d step = Ok (with_sent (with_replica store d (record { stopped = false; state = step.state })) step.out.posts [])

-- the directory takes a message
abbrev pub directory_takes : Store → Step directory.State → Outcome
directory_takes store step = Ok (with_sent (record store { directory = step.state }) step.out.posts [])

-- an actor takes a message, unless it is stopped
abbrev pub deliver_to : Store → Actor → Message → Outcome
deliver_to store (to.Replica d) message =
    if (replica_at store d).stopped then nothing store else replica_takes store d (replica.step (replica_at store d).state message)
deliver_to store to.Directory message = directory_takes store (directory_step.step store.directory message)
deliver_to store (to.Proxy p) message = if (proxy_at store p).stopped then nothing store else proxy_does store p (proxy_takes (proxy_at store p) message)

abbrev pub deliver : Store → ℕ → Outcome
deliver store n = option_map_or (λ post. deliver_to store post.to post.message) (slice_get store.sent n) (Err (NoMessage (length store.sent)))

-- what an event does: the other events send nothing
unfoldable pub unlimited_step : Store → Event → Outcome
unlimited_step store (Start proxy key work) = start store proxy key work
unlimited_step store (Deliver message) = deliver store message
unlimited_step store event = step store event

-- the run of these events from a state
unfoldable pub unlimited_run : List Event → Store → Run
unlimited_run [] store = nothing_ran store
unlimited_run (event ∷ events) store = ran store (unlimited_step store event) (unlimited_run events (store_after store (unlimited_step store event)))

-- the run of these events from the state that the header opens
abbrev pub unlimited_run_of : Header → List Event → Run
unlimited_run_of header events = unlimited_run events (opening header)

-- the messages that were sent pass no limit
pub record IsWithinLimits (store : Store) : Type 0 where
  pub few : length store.sent ≤ message_limit
  pub small : (bulk_of store.sent).bytes ≤ byte_limit

-- what happens, unless its messages would pass a limit: their number is tried first
abbrev pub unless_limited : Store → Outcome → Outcome
unless_limited store (Err fault) = Err fault
unless_limited store (Ok it) =
    if nat_lt message_limit (length store.sent + length it.posts) then Err (Limit Messages (length store.sent + length it.posts))
    else if nat_lt byte_limit ((bulk_of store.sent).bytes + (bulk_of it.posts).bytes) then Err (Limit FrameBytes ((bulk_of store.sent).bytes + (bulk_of it.posts).bytes))
    else Ok it

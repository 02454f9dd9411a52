-- What is true of every store that the code keeps.
use Rattle.std.specs.Prelude.{◌≡◌, ℕ, ◌+◌, ◌≤◌, nat_lt, if◌then◌else◌, List, ◌++◌, length, Option, Some, None, Result, Ok, Err}
use Rattle.std.specs.List.{All}
use Rattle.span_base.specs.declared.words.What.TheVariants.{Messages, FrameBytes}
use Rattle.wire_msg.specs.declared.outputs.Post.{Post}
use Rattle.wire_msg.specs.declared.outputs.Bulk.{Bulk}
use Rattle.wire_msg.specs.Lawful.{AreLawful}
use Rattle.wire_msg.specs.Sizes.{bulk_of}
use Rattle.world_core.specs.declared.event.StepFault.{StepFault}
use Rattle.world_core.specs.declared.event.StepFault.TheVariants.{Limit, NoMemory}
use Rattle.run_marks.specs.declared.mark.Mark.{Mark}
use Rattle.world_core.specs.State.{Proxy, Replica, Store}
use Rattle.world_core.specs.Starting.{Done}
use Rattle.world_core.specs.Step.{message_limit, byte_limit}
use Rattle.world_core.specs.Proxies.{AreOfKeysBelow}

-- a proxy that knows so many keys, and has begun no more calls than there were events
pub record FitsProxy (keys events : ℕ) (proxy : Proxy) : Type 0 where
  pub views : length proxy.views ≡ keys
  pub begun : proxy.begun ≤ events

-- a replica that keeps so many keys
abbrev pub FitsReplica : ℕ → Replica → Type 0
FitsReplica keys replica = length replica.state.kept ≡ keys

-- the messages that were sent are lawful, of so many keys, and no more than may be
pub record AreSent (keys : ℕ) (sent : List Post) : Type 0 where
  pub lawful : AreLawful sent
  pub of_keys : AreOfKeysBelow keys sent
  pub few : (bulk_of sent).posts ≤ message_limit
  pub small : (bulk_of sent).bytes ≤ byte_limit

-- what is true of every store after so many events
pub record IsStore (store : Store) (events : ℕ) : Type 0 where
  pub proxies : All (FitsProxy (length store.directory.sets) events) store.proxies
  pub replicas : All (FitsReplica (length store.directory.sets)) store.replicas
  pub few_proxies : length store.proxies ≤ 64
  pub few_replicas : length store.replicas ≤ 16
  pub sent : AreSent (length store.directory.sets) store.sent
  pub few_events : events ≤ 1000000

-- the limit that messages of this bulk would pass: their number is tried first
abbrev pub limit_passed : List Post → Bulk → Option StepFault
limit_passed sent bulk =
    if nat_lt message_limit (length sent + bulk.posts) then Some (Limit Messages (length sent + bulk.posts))
    else if nat_lt byte_limit ((bulk_of sent).bytes + bulk.bytes) then Some (Limit FrameBytes ((bulk_of sent).bytes + bulk.bytes))
    else None

-- how making room for them ends
abbrev pub RoomEnds : List Post → Bulk → Result (Unit {0}) StepFault → Type 0
RoomEnds sent bulk (Ok done) = limit_passed sent bulk ≡ None
RoomEnds sent bulk (Err (NoMemory error)) = Unit {0}
RoomEnds sent bulk (Err fault) = limit_passed sent bulk ≡ Some fault

-- How an actor's part in an event ends: it becomes so and sends these, or a limit would be passed
-- and nothing changes; want of memory changes nothing either.
abbrev pub ActorEnds : {A : Type 0} → Done A → A → A → List Post → List Post → Result (List Mark) StepFault → Type 0
ActorEnds done old new sent now (Ok marks) = (new ≡ done.actor) × (now ≡ sent ++ done.posts) × (marks ≡ done.marks) × (limit_passed sent (bulk_of done.posts) ≡ None)
ActorEnds done old new sent now (Err (NoMemory error)) = (new ≡ old) × (now ≡ sent)
ActorEnds done old new sent now (Err fault) = (limit_passed sent (bulk_of done.posts) ≡ Some fault) × (new ≡ old) × (now ≡ sent)

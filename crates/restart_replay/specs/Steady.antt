-- Stores whose replicas stand on journals that never fail. Only inner contracts cite it.
use Rattle.std.specs.Prelude.{ℕ, ◌≡◌, ◌*◌, ◌<◌, ◌≤◌, false, IsTrue, List, length, Result, Ok, Err, IfSome}
use Rattle.std.specs.List.{All}
use Rattle.wire_msg.specs.declared.message.Message.{Message}
use Rattle.replica_core.specs.Rule.{request_key}
use Rattle.run_marks.specs.declared.mark.Mark.{Mark}
use Rattle.world_core.specs.declared.event.StepFault.{StepFault}
use Rattle.world_core.specs.declared.event.StepFault.TheVariants.{Taker, NoMemory}
use Rattle.world_core.specs.State.{Store}
use Rattle.world_core.specs.Step.{Happening, Outcome}
use Rattle.world_core.specs.Stores.{FitsReplica}
use Rattle.world_core.specs.Run.{MayHappen}
use Rattle.world_core.specs.Ends.{Journal}
use Rattle.schedule_text.specs.declared.kept_event.KeptEvent.{KeptEvent}
use Rattle.schedule_text.specs.declared.kept_event.KeptEvent.TheVariants.{Event, Crash}
use Rattle.restart_replay.specs.declared.store.KeptStore.{KeptStore}

-- the disk never fails, and the journal has at most 4,148 bytes for each of so many events
pub record IsSound (taken : ℕ) (journal : Journal) : Type 0 where
  pub is_open : journal.shut ≡ false
  pub calm : IsTrue journal.calm
  pub small : journal.size ≤ 4148 * taken

-- so it is for each replica; the replicas and the keys are as many as the header says
pub record IsSteady (store : KeptStore) : Type 0 where
  pub few : store.taken ≤ 1000000
  pub steps : store.cloud.events ≤ store.taken
  pub replicas : length store.cloud.store.replicas ≡ store.replicas
  pub seats : length store.cloud.journals ≡ store.replicas
  pub few_replicas : store.replicas ≤ 16
  pub keys : length store.cloud.store.directory.sets ≡ store.keys
  pub few_keys : store.keys ≤ 1000
  pub kept : All (FitsReplica store.keys) store.cloud.store.replicas
  pub journals : All (IsSound store.taken) store.cloud.journals

-- the message is no request, or one for a key below this number
abbrev pub IsForKeyBelow : ℕ → Message → Type 0
IsForKeyBelow keys message = IfSome (request_key message) (λ key. key.0 < keys)

-- an event of the store may happen in this state; a crash is at one of the four calls of the disk
abbrev pub KeptMayHappen : Store → KeptEvent → Type 0
KeptMayHappen store (Event event) = MayHappen store event
KeptMayHappen store (Crash message call new) = (1 ≤ call) × (call ≤ 4)

-- the event is taken as the definition takes it
pub record Happens (old new : Store) (outcome : Outcome) (marks : List Mark) : Type 0 where
  pub happening : Happening
  pub taken : outcome ≡ Ok happening
  pub marks_are : marks ≡ happening.marks
  pub store_is : new ≡ happening.store

-- it is taken where the definition takes it, and refused as the definition refuses it, but for want of memory
abbrev pub EventEnds : Store → Store → Outcome → Result (List Mark) StepFault → Type 0
EventEnds old new outcome (Ok marks) = Happens old new outcome marks
EventEnds old new outcome (Err (Taker fault)) = ⊥
EventEnds old new outcome (Err (NoMemory error)) = Unit {0}
EventEnds old new outcome (Err fault) = outcome ≡ Err fault

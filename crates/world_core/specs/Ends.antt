-- How a step of the code ends, beside what the definition says of it.
use Rattle.std.specs.Prelude.{◌≡◌, ℕ, ◌+◌, ◌≤◌, Bool, true, false, if◌then◌else◌, IsTrue, List, [], slice_set, slice_get, slice_index_or, Option, Some, None, Result, Ok, Err}
use Rattle.std.specs.Option.{option_map_or}
use Rattle.span_base.specs.Counts.{Rose}
use Rattle.wire_msg.specs.declared.actor.Actor.{Actor}
use Rattle.wire_msg.specs.declared.actor.Actor.TheVariants as to
use Rattle.wire_msg.specs.declared.message.Message.{Message}
use Rattle.wire_msg.specs.declared.outputs.Post.{Post}
use Rattle.wire_msg.specs.declared.outputs.Outputs.{Outputs}
use Rattle.wire_msg.specs.Outputs.{Step, IsMade}
use Rattle.replica_core.specs.declared.journal.TakeFault.{TakeFault}
use Rattle.replica_core.specs.declared.journal.TakeFault.TheVariants as take
use Rattle.replica_core.specs.Taking.{record_size, IsTooMuch}
use Rattle.replica_core.specs.Rule as replica
use Rattle.epoch_directory.specs.declared.table.SetPolicy.{SetPolicy}
use Rattle.epoch_directory.specs.State as directory
use Rattle.wire_msg.specs.Sizes.{bulk_of}
use Rattle.run_marks.specs.declared.mark.Mark.{Mark}
use Rattle.world_core.specs.declared.event.Event.{Event}
use Rattle.world_core.specs.declared.event.Event.TheVariants.{Deliver}
use Rattle.world_core.specs.declared.event.StepFault.{StepFault}
use Rattle.world_core.specs.declared.event.StepFault.TheVariants.{Taker, NoMemory}
use Rattle.world_core.specs.State.{Store, replica_at}
use Rattle.world_core.specs.Starting.{Done}
use Rattle.world_core.specs.Step.{Happening, Outcome, publish, step}
use Rattle.world_core.specs.Stores.{limit_passed, ActorEnds}

-- what a contract sees of the disk of a replica: how often it failed, whether the replica takes
-- nothing more for that, whether the disk never fails, and the bytes of the journal
pub record Journal : Type 0 where
  pub faults : ℕ
  pub shut : Bool
  pub calm : Bool
  pub size : ℕ

-- stands for the journal of a replica that isn't there
abbrev pub no_journal : Journal
no_journal = record { faults = 0; shut = true; calm = true; size = 0 }

-- what a contract sees of a store: its state, its replicas' journals, and how many events it took
pub record Seen : Type 0 where
  pub store : Store
  pub journals : List Journal
  pub events : ℕ

-- the message for a replica that isn't stopped
abbrev pub taken_by_replica : Store → Actor → Message → Option (ℕ × Message)
taken_by_replica store (to.Replica d) message = if (replica_at store d).stopped then None else Some (d, message)
taken_by_replica store to.Directory message = None
taken_by_replica store (to.Proxy p) message = None

-- the replica that takes the event's message, and the message
abbrev pub replica_asked : Store → Event → Option (ℕ × Message)
replica_asked store (Deliver n) = option_map_or (λ post. taken_by_replica store post.to post.message) (slice_get store.sent n) None
replica_asked store _ = None

-- how a message is written to a journal, or why not. Want of memory is told in another way
abbrev pub Journals : Journal → Journal → Message → Option TakeFault → Type 0
Journals old new message None =
    (old.shut ≡ false) × (new.shut ≡ false) × (old.size ≤ new.size) × (new.size ≤ old.size + record_size message) × (old.faults ≤ new.faults)
    × ((bytes : ℕ) → IsTooMuch old.size message bytes → ⊥) × (IsTrue old.calm → IsTrue new.calm)
Journals old new message (Some take.Shut) = (old.shut ≡ true) × (new ≡ old)
Journals old new message (Some (take.Full bytes)) = (old.shut ≡ false) × IsTooMuch old.size message bytes × (new ≡ old)
Journals old new message (Some take.DiskFault) =
    (old.shut ≡ false) × (old.calm ≡ false) × (new.shut ≡ true) × Rose old.faults new.faults × (new.size ≡ old.size)
    × ((bytes : ℕ) → IsTooMuch old.size message bytes → ⊥)
Journals old new message (Some (take.NoMemory error)) = ⊥

-- how the take of a replica ends that makes this step: its state, what it puts out, and its journal
abbrev pub TakeEnds : Step replica.State → replica.State → replica.State → Journal → Journal → Message → Outputs → Result (Unit {0}) StepFault → Type 0
TakeEnds made old new was journal message out (Ok done) = IsMade made new out × Journals was journal message None
TakeEnds made old new was journal message out (Err (Taker fault)) = (new ≡ old) × Journals was journal message (Some fault)
TakeEnds made old new was journal message out (Err (NoMemory error)) = (new ≡ old) × (journal ≡ was)
TakeEnds made old new was journal message out (Err fault) = ⊥

-- how a replica's part in an event ends, as that of any actor; and what becomes of its journal
abbrev pub TakerEnds : Done replica.State → replica.State → replica.State → Journal → Journal → Message → List Post → List Post → Result (List Mark) StepFault → Type 0
TakerEnds done old new was journal message sent now (Ok marks) = ActorEnds done old new sent now (Ok marks) × Journals was journal message None
TakerEnds done old new was journal message sent now (Err (Taker fault)) = (limit_passed sent (bulk_of done.posts) ≡ None) × (new ≡ old) × (now ≡ sent) × Journals was journal message (Some fault)
TakerEnds done old new was journal message sent now (Err fault) = ActorEnds done old new sent now (Err fault) × (journal ≡ was)

-- the journal of the replica that takes a message, if one does; the others stay as they are
abbrev pub JournalsFor : Option (ℕ × Message) → List Journal → List Journal → Option TakeFault → Type 0
JournalsFor None old new None = new ≡ old
JournalsFor None old new (Some fault) = ⊥
JournalsFor (Some asked) old new fault =
    (journal : Journal) × (new ≡ slice_set old asked.0 journal) × Journals (slice_index_or old asked.0 no_journal) journal asked.1 fault

-- the definition takes the event so, and the journals go on with it
pub record Takes (old new : Seen) (asked : Option (ℕ × Message)) (outcome : Outcome) (marks : List Mark) : Type 0 where
  pub happening : Happening
  pub taken : outcome ≡ Ok happening
  pub marks_are : marks ≡ happening.marks
  pub store_is : new.store ≡ happening.store
  pub events_are : new.events ≡ old.events + 1
  pub journals : JournalsFor asked old.journals new.journals None

-- the definition takes the event, and the replica that is asked doesn't
pub record Fails (old new : Seen) (asked : Option (ℕ × Message)) (outcome : Outcome) (fault : TakeFault) : Type 0 where
  pub happening : Happening
  pub taken : outcome ≡ Ok happening
  pub store_is : new.store ≡ old.store
  pub events_are : new.events ≡ old.events
  pub journals : JournalsFor asked old.journals new.journals (Some fault)

-- An event that asks this replica is taken where the definition takes it, and refused as the
-- definition refuses it. Only the replica's disk may keep one that the definition takes from being
-- taken; and, at any time, want of memory, which changes nothing.
abbrev pub EndsAs : Seen → Seen → Option (ℕ × Message) → Outcome → Result (List Mark) StepFault → Type 0
EndsAs old new asked outcome (Ok marks) = Takes old new asked outcome marks
EndsAs old new asked outcome (Err (Taker fault)) = Fails old new asked outcome fault
EndsAs old new asked outcome (Err (NoMemory error)) = new ≡ old
EndsAs old new asked outcome (Err fault) = (outcome ≡ Err fault) × (new ≡ old)

abbrev pub StepEnds : Seen → Seen → Event → Result (List Mark) StepFault → Type 0
StepEnds old new event result = EndsAs old new (replica_asked old.store event) (step old.store event) result

-- how publishing a table ends for the directory, whatever the rest of the store is
abbrev pub Publishes : directory.State → List SetPolicy → directory.State → Result (List Mark) StepFault → Type 0
Publishes old table new (Ok marks) = (s : Store) → s.directory ≡ old → publish s table ≡ Ok (record { store = record s { directory = new }; marks = marks; posts = [] })
Publishes old table new (Err (NoMemory error)) = new ≡ old
Publishes old table new (Err fault) = ((s : Store) → s.directory ≡ old → publish s table ≡ Err fault) × (new ≡ old)

-- A replica that is opened again after its machine stopped in a call of the disk.
use Rattle.std.specs.Prelude.{ℕ, ◌≡◌, ◌+◌, ◌≤◌, Bool, ◌&&◌, nat_le, if◌then◌else◌, List, length}
use Rattle.wire_msg.specs.declared.message.Message.{Message}
use Rattle.wire_msg.specs.Fields.{kind_of}
use Rattle.replica_core.specs.Rule.{State, opening_state, step}
use Rattle.replica_core.specs.Taking.{record_size}
use Rattle.replica_journal.specs.declared.replay.Place.{Place}
use Rattle.replica_journal.specs.Disk.{History, IsLawfulHistory, bytes_of}
use Rattle.replica_journal.specs.Memory.{crashed}
use Rattle.replica_journal.specs.Records.{HasRecords, records_of, state_after}

-- whether the message is kept where the disk's call of this number was the last one: a journal has it,
-- its record was safe, and what was written since then isn't lost
abbrev pub is_kept : Message → ℕ → Bool → Bool
is_kept message call new = nat_le 2 (kind_of message) && nat_le (kind_of message) 8 && nat_le 3 call && new

-- the state of the replica after that
abbrev pub stopped : State → Message → ℕ → Bool → State
stopped state message call new = if is_kept message call new then (step state message).state else state

-- an image keeps a state by the records of some messages, which take at most so many bytes
pub record Holds (number keys : ℕ) (image : List ℕ) (state : State) (limit : ℕ) : Type 0 where
  pub messages : List Message
  pub held : HasRecords keys image messages
  pub made : state ≡ state_after (opening_state number keys) messages
  pub short : length (records_of messages) ≤ limit

-- the disk of a replica in this state, once it failed in the call of this number: what either crash leaves of it
abbrev pub KeepsStopped : State → Place → Message → ℕ → History → Type 0
KeepsStopped state place message call history =
    IsLawfulHistory history → (new : Bool) → Holds state.number (length state.kept) (bytes_of (crashed new history)) (stopped state message call new) (place.gate + record_size message)

-- the replica is as an image keeps it
pub record Reopens (number keys : ℕ) (image : List ℕ) (state : State) (place : Place) : Type 0 where
  pub messages : List Message
  pub held : HasRecords keys image messages
  pub made : state ≡ state_after (opening_state number keys) messages
  pub gate : place.gate ≡ length (records_of messages)

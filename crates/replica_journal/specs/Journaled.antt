-- A replica whose journal lies on a disk.
use Rattle.std.specs.Prelude.{◌≡◌, ◌≤◌, Bool, false, ⊤, List, length, Option, Some, None, Result, Ok, Err}
use Rattle.wire_msg.specs.declared.message.Message.{Message}
use Rattle.replica_core.specs.Rule.{State, opening_state}
use Rattle.replica_journal.specs.declared.replay.Place.{Place}
use Rattle.replica_journal.specs.declared.opening.Opened.{Opened}
use Rattle.replica_journal.specs.declared.open_fault.OpenCause.{OpenCause}
use Rattle.replica_journal.specs.declared.open_fault.OpenFault.{OpenFault}
use Rattle.replica_journal.specs.Disk.{History}
use Rattle.replica_journal.specs.Records.{IsAtRest, state_after}

-- the disk, the replica's state, where the journal ends, and whether nothing is taken any more
pub record Journaled (D : Type 0) : Type 0 where
  pub disk : D
  pub state : State
  pub place : Place
  pub shut : Bool

-- the disk is at rest with messages that made this state
pub record IsKeptBy (history : History) (state : State) (place : Place) : Type 0 where
  pub messages : List Message
  pub rest : IsAtRest (length state.kept) history place.gate messages
  pub count : place.records ≡ length messages
  pub made : state ≡ state_after (opening_state state.number (length state.kept)) messages

-- the same of what a disk tells, if it does
abbrev pub IsKeptIn : Option History → State → Place → Type 0
IsKeptIn None state place = ⊤
IsKeptIn (Some history) state place = IsKeptBy history state place

-- the journal keeps the state, unless the disk failed
pub record IsJournaled (told : Option History) (state : State) (place : Place) (shut : Bool) : Type 0 where
  pub limit : place.gate ≤ 9223372036854775807
  pub few : place.records ≤ place.gate
  pub kept : shut ≡ false → IsKeptIn told state place

module _ {D : Type 0} where
  -- the disk that an opening gives, in the replica or beside the cause
  abbrev pub disk_of : Result (Journaled D) (OpenFault D) → D
  disk_of (Ok opened) = opened.disk
  disk_of (Err fault) = fault.disk

  -- what the opening answers, without the disk
  abbrev pub opened_of : Result (Journaled D) (OpenFault D) → Result Opened OpenCause
  opened_of (Ok opened) = Ok (record { replica = opened.state; place = opened.place })
  opened_of (Err fault) = Err fault.cause

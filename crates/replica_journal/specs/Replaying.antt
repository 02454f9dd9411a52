-- What the records of a journal make of a replica, one after the other.
use Rattle.std.specs.Prelude.{ℕ, ◌≡◌, ◌<◌, ◌⊎◌, ⊤, List, [], ◌∷◌, length, take, Option, Some, None, Result, Ok, Err}
use Rattle.std.specs.List.{AllByRecursion}
use Rattle.wire_msg.specs.declared.message.Message.{Message}
use Rattle.replica_core.specs.Rule.{State}
use Rattle.replica_journal.specs.declared.open_fault.OpenCause.{OpenCause}
use Rattle.replica_journal.specs.declared.open_fault.OpenCause.TheVariants.{NoMemory, DiskFault, Damaged}
use Rattle.replica_journal.specs.declared.replay.Place.{Place}
use Rattle.replica_journal.specs.Disk.{History, bytes_of}
use Rattle.replica_journal.specs.Records.{IsRecord, IsJournal, IsDamagedAt, records_of, state_after}

-- so many bytes are told, which are more than one or a closed gate alone
abbrev pub IsEnd : Option History → ℕ → Type 0
IsEnd None end = ⊤
IsEnd (Some history) end = (end ≡ length (bytes_of history)) × ((1 < end) ⊎ (bytes_of history ≡ 0 ∷ []))

-- the bytes before this place are the open records of so many messages, which made this state of the one at first
pub record IsReplayed (keys : ℕ) (bytes : List ℕ) (start now : State) (place count : ℕ) : Type 0 where
  pub messages : List Message
  pub front : take place bytes ≡ records_of messages
  pub at : place ≡ length (records_of messages)
  pub records : AllByRecursion (IsRecord keys) messages
  pub number : count ≡ length messages
  pub state : now ≡ state_after start messages
  pub inside : place < length bytes

abbrev pub IsReplayedOf : Option History → ℕ → State → State → ℕ → ℕ → Type 0
IsReplayedOf None keys start now place count = ⊤
IsReplayedOf (Some history) keys start now place count = IsReplayed keys (bytes_of history) start now place count

-- the whole journal is the open records of so many messages up to this place, which made this state of the one at first
pub record IsWhole (keys : ℕ) (bytes : List ℕ) (start now : State) (place : Place) : Type 0 where
  pub messages : List Message
  pub journal : IsJournal keys bytes messages
  pub at : place.gate ≡ length (records_of messages)
  pub number : place.records ≡ length messages
  pub state : now ≡ state_after start messages

-- what replaying the bytes answers
abbrev pub Replays : ℕ → List ℕ → State → State → Result Place OpenCause → Type 0
Replays keys bytes start now (Ok place) = IsWhole keys bytes start now place
Replays keys bytes start now (Err (NoMemory error)) = ⊤
Replays keys bytes start now (Err DiskFault) = ⊤
Replays keys bytes start now (Err (Damaged at)) = IsDamagedAt keys bytes at

abbrev pub ReplaysOf : Option History → ℕ → State → State → Result Place OpenCause → Type 0
ReplaysOf None keys start now result = ⊤
ReplaysOf (Some history) keys start now result = Replays keys (bytes_of history) start now result

-- What taking a message leaves of a journal.
use Rattle.std.specs.Prelude.{ℕ, ◌≡◌, ◌+◌, ◌⊎◌, ⊤, List, [], ◌∷◌, ◌++◌, length, alloc_error, Option, Some, None, Result, Ok, Err, OnOk}
use Rattle.span_base.specs.declared.sink.DeviceFault.{DeviceFault}
use Rattle.span_base.specs.declared.sink.DeviceFault.TheVariants as device
use Rattle.wire_msg.specs.declared.message.Message.{Message}
use Rattle.wire_msg.specs.Laws.{FitsBytes}
use Rattle.replica_core.specs.declared.journal.TakeFault.{TakeFault}
use Rattle.replica_core.specs.declared.journal.TakeFault.TheVariants as take_fault
use Rattle.replica_core.specs.Rule.{State, step}
use Rattle.replica_core.specs.Taking.{record_size}
use Rattle.replica_journal.specs.declared.disk.Failed.{Failed}
use Rattle.replica_journal.specs.declared.replay.Place.{Place}
use Rattle.replica_journal.specs.Disk.{History, GoesOn, AtEachMoment, IsImage, IsLawfulHistory}
use Rattle.replica_journal.specs.Records.{Keeps, body_of}
use Rattle.replica_journal.specs.Steps.{Appends}

-- the image keeps this state of a replica
abbrev pub KeepsState : State → List ℕ → Type 0
KeepsState state image = Keeps state.number (length state.kept) image state

-- the image keeps the state that the message found, or the one that it makes
abbrev pub KeepsEither : State → Message → List ℕ → Type 0
KeepsEither state message image = KeepsState state image ⊎ Keeps state.number (length state.kept) image (step state message).state

-- a disk whose journal kept a state, and what was told of it after a message was to be taken
pub record IsTaken (before after : History) (state : State) (message : Message) (result : Result (Unit {0}) TakeFault) : Type 0 where
  pub on : GoesOn before after
  pub lawful : IsLawfulHistory before → IsLawfulHistory after
  -- a crash at each moment leaves the state from before or the one after the message
  pub moments : AtEachMoment before after (KeepsEither state message)
  -- once it is taken, a crash leaves the one after it
  pub done : OnOk result ((image : List ℕ) → IsImage after image → Keeps state.number (length state.kept) image (step state message).state)

-- the same of what a disk tells, if it does
abbrev pub Takes : Option History → Option History → State → Message → Result (Unit {0}) TakeFault → Type 0
Takes None new state message result = new ≡ None
Takes (Some before) new state message result = (after : History) × (new ≡ Some after) × IsTaken before after state message result

-- whatever a crash leaves of the disk, if that is told, keeps one of two states of a replica
abbrev pub LeavesEither : Option History → State → State → Type 0
LeavesEither None state state' = ⊤
LeavesEither (Some history) state state' = (image : List ℕ) → IsImage history image → KeepsState state image ⊎ Keeps state.number (length state.kept) image state'

-- where the journal ends once the message is taken
abbrev pub place_after : Place → Message → Place
place_after place message = record { gate = place.gate + record_size message; records = place.records + 1 }

-- the answer of a take by that of an append
abbrev pub taken_by : Result (Unit {0}) DeviceFault → Result (Unit {0}) TakeFault
taken_by (Ok done) = Ok tt
taken_by (Err device.Failed) = Err take_fault.DiskFault
taken_by (Err device.NoMemory) = Err (take_fault.NoMemory alloc_error)

-- memory ran out
abbrev pub IsWanting : Result (Unit {0}) TakeFault → Type 0
IsWanting (Ok done) = ⊥
IsWanting (Err (take_fault.NoMemory error)) = ⊤
IsWanting (Err take_fault.DiskFault) = ⊥
IsWanting (Err take_fault.Shut) = ⊥
IsWanting (Err (take_fault.Full bytes)) = ⊥

-- the record of the message was spelled, and the disk's calls were those that append it
pub record LogCalls {D : Type 0} (W : D → D → ℕ → List ℕ → Result (Unit {0}) DeviceFault → Type 0) (S : D → D → Result (Unit {0}) Failed → Type 0)
    (gate : ℕ) (message : Message) (old new : D) (result : Result (Unit {0}) TakeFault) : Type 0 where
  pub fits : FitsBytes message
  pub answer : Result (Unit {0}) DeviceFault
  pub calls : Appends W S gate (body_of message ++ 0 ∷ []) old new answer
  pub ends : result ≡ taken_by answer

-- what the disk had to do for a message that the journal keeps: nothing where memory ran out before
abbrev pub Logs : {D : Type 0} → (D → D → ℕ → List ℕ → Result (Unit {0}) DeviceFault → Type 0) → (D → D → Result (Unit {0}) Failed → Type 0)
    → ℕ → Message → D → D → Result (Unit {0}) TakeFault → Type 0
Logs W S gate message old new result = (IsWanting result × (new ≡ old)) ⊎ LogCalls W S gate message old new result

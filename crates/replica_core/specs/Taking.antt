-- How the take of a replica that keeps a journal may end.
use Rattle.std.specs.Prelude.{◌≡◌, ℕ, ◌+◌, ◌<◌, ◌≤◌, Bool, true, false, Result, Ok, Err}
use Rattle.wire_msg.specs.declared.message.Message.{Message}
use Rattle.wire_msg.specs.Fields.{kind_of}
use Rattle.wire_msg.specs.Sizes.{frame_size}
use Rattle.replica_core.specs.declared.journal.TakeFault.{TakeFault}
use Rattle.replica_core.specs.declared.journal.TakeFault.TheVariants.{NoMemory, DiskFault, Shut, Full}

-- the bytes of a message's record in a journal: 3, and its frame
abbrev pub record_size : Message → ℕ
record_size message = 3 + frame_size message

-- the journal keeps messages of this kind: those that can change what is kept
abbrev pub IsLogged : Message → Type 0
IsLogged message = (2 ≤ kind_of message) × (kind_of message ≤ 8)

-- the journal would have this many bytes with the message's record, and that is too many
abbrev pub IsTooMuch : ℕ → Message → ℕ → Type 0
IsTooMuch size message bytes = IsLogged message × (bytes ≡ size + record_size message) × (4294967295 < bytes)

-- whether it is a fault of the disk
abbrev pub is_disk_fault : {T : Type 0} → Result T TakeFault → Bool
is_disk_fault (Ok value) = false
is_disk_fault (Err (NoMemory error)) = false
is_disk_fault (Err DiskFault) = true
is_disk_fault (Err Shut) = false
is_disk_fault (Err (Full bytes)) = false

-- the message was refused before the disk had anything to do
abbrev pub IsRefusal : {T : Type 0} → Result T TakeFault → Type 0
IsRefusal (Ok value) = ⊥
IsRefusal (Err (NoMemory error)) = Unit {0}
IsRefusal (Err DiskFault) = ⊥
IsRefusal (Err Shut) = Unit {0}
IsRefusal (Err (Full bytes)) = Unit {0}

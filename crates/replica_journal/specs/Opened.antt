-- What opening a journal answers, and what it leaves of the disk.
use Rattle.std.specs.Prelude.{ℕ, ◌≡◌, ⊤, List, length, Option, Some, None, Result, Ok, Err}
use Rattle.wire_msg.specs.declared.message.Message.{Message}
use Rattle.replica_core.specs.Rule.{opening_state}
use Rattle.replica_journal.specs.declared.open_fault.OpenCause.{OpenCause}
use Rattle.replica_journal.specs.declared.open_fault.OpenCause.TheVariants.{NoMemory, DiskFault, Damaged}
use Rattle.replica_journal.specs.declared.opening.Opened.{Opened}
use Rattle.replica_journal.specs.Disk.{History, GoesOn, AtEachMoment, IsLawfulHistory, bytes_of}
use Rattle.replica_journal.specs.Records.{HasRecords, IsAtRest, IsDamagedAt, state_after}
use Rattle.replica_journal.specs.Beginning.{IsNoWorse}

-- The replica took the messages that the bytes hold, in their order, and the disk is at rest with them.
pub record IsOpened (number keys : ℕ) (before after : History) (opened : Opened) : Type 0 where
  pub messages : List Message
  pub held : HasRecords keys (bytes_of before) messages
  pub rest : IsAtRest keys after opened.place.gate messages
  pub count : opened.place.records ≡ length messages
  pub state : opened.replica ≡ state_after (opening_state number keys) messages

abbrev pub IsAnswered : ℕ → ℕ → History → History → Result Opened OpenCause → Type 0
IsAnswered number keys before after (Ok opened) = IsOpened number keys before after opened
IsAnswered number keys before after (Err (NoMemory error)) = ⊤
IsAnswered number keys before after (Err DiskFault) = ⊤
IsAnswered number keys before after (Err (Damaged at)) = IsDamagedAt keys (bytes_of before) at

pub record IsOpening (number keys : ℕ) (before after : History) (result : Result Opened OpenCause) : Type 0 where
  pub on : GoesOn before after
  pub lawful : IsLawfulHistory before → IsLawfulHistory after
  pub moments : AtEachMoment before after (IsNoWorse before)
  pub answer : IsAnswered number keys before after result

-- the same of what a disk tells, if it does
abbrev pub Opens : ℕ → ℕ → Option History → Option History → Result Opened OpenCause → Type 0
Opens number keys None new result = new ≡ None
Opens number keys (Some before) new result = (after : History) × (new ≡ Some after) × IsOpening number keys before after result

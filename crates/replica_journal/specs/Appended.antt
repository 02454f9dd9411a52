-- What appending a message's record to a journal leaves.
use Rattle.std.specs.Prelude.{ℕ, ◌+◌, List, [], ◌∷◌, ◌++◌, Result, OnOk, IsErrOf}
use Rattle.span_base.specs.declared.sink.DeviceFault.{DeviceFault}
use Rattle.span_base.specs.declared.sink.DeviceFault.TheVariants.{NoMemory}
use Rattle.wire_msg.specs.declared.message.Message.{Message}
use Rattle.replica_journal.specs.Disk.{History, GoesOn, AtEachMoment, IsLawfulHistory}
use Rattle.replica_journal.specs.Records.{IsAtRest, IsBeforeOrAfter}

-- A disk that was at rest with these messages, and what was told of it after one more was to be
-- appended, whose record takes so many bytes.
pub record Appended (keys : ℕ) (before after : History) (place size : ℕ) (messages : List Message) (message : Message) (result : Result (Unit {0}) DeviceFault) : Type 0 where
  pub on : GoesOn before after
  pub lawful : IsLawfulHistory before → IsLawfulHistory after
  -- a crash at each moment leaves the messages from before, with the new one or without it
  pub moments : AtEachMoment before after (IsBeforeOrAfter keys messages message)
  -- once it is done, a crash leaves the new one too
  pub done : OnOk result (IsAtRest keys after (place + size) (messages ++ message ∷ []))
  -- want of memory leaves the journal as it was
  pub undone : IsErrOf result NoMemory → IsAtRest keys after place messages

-- What a stream in memory holds.
use Rattle.std.specs.Prelude.{ℕ, ◌++◌, List, true, false, take, Result, Ok, Err}
use Rattle.span_base.specs.Calls.{CallRecord, after_call}
use Rattle.span_base.specs.declared.sink.DeviceFault.{DeviceFault}
use Rattle.span_base.specs.declared.sink.DeviceFault.TheVariants as device
use Rattle.replica_journal.specs.declared.disk.Failed.{Failed}
use Rattle.span_service.specs.Pieces.{without}

-- the pieces that it gives, what is left of them, the bytes that it took, and its calls
pub record HeldStream : Type 0 where
  pub all : List (List ℕ)
  pub left : List (List ℕ)
  pub taken : List ℕ
  pub calls : CallRecord

-- after a read with this answer
abbrev pub after_read : HeldStream → Result ℕ Failed → HeldStream
after_read held (Ok n) = record held { left = without n held.left; calls = after_call held.calls false }
after_read held (Err failed) = record held { calls = after_call held.calls true }

-- after a write of this piece with this answer
abbrev pub after_write : HeldStream → List ℕ → Result ℕ DeviceFault → HeldStream
after_write held piece (Ok n) = record held { taken = held.taken ++ take n piece; calls = after_call held.calls false }
after_write held piece (Err device.Failed) = record held { calls = after_call held.calls true }
after_write held piece (Err device.NoMemory) = record held { calls = after_call held.calls false }

-- What the shelves and sinks in memory hold.
use Rattle.std.specs.Prelude.{ℕ, ◌++◌, List, true, false, map, take, Result, Ok, Err}
use Rattle.span_base.specs.Counts.{next_count}
use Rattle.span_base.specs.Files.{Files}
use Rattle.span_base.specs.declared.entries.FileEntry.{FileEntry}
use Rattle.span_base.specs.declared.shelf.ShelfError.{ShelfError}
use Rattle.span_base.specs.declared.shelf.ShelfError.TheVariants as shelf
use Rattle.span_base.specs.declared.sink.DeviceFault.{DeviceFault}
use Rattle.span_base.specs.declared.sink.DeviceFault.TheVariants as sink
use Rattle.span_base.specs.Calls.{CallRecord, after_call}

-- the map that a list of entries is
abbrev pub files_of : List FileEntry → Files
files_of entries = map (λ (entry : FileEntry). (entry.name, entry.bytes)) entries

-- a shelf in memory: its files, how often one was absent, and its calls
pub record HeldShelf : Type 0 where
  pub files : Files
  pub absences : ℕ
  pub calls : CallRecord

-- a shelf in memory after a read with this answer
abbrev pub after_read : HeldShelf → Result ℕ ShelfError → HeldShelf
after_read held (Ok n) = record held { calls = after_call held.calls false }
after_read held (Err shelf.Absent) = record held { absences = next_count held.absences; calls = after_call held.calls false }
after_read held (Err shelf.Failed) = record held { calls = after_call held.calls true }
after_read held (Err shelf.NoMemory) = record held { calls = after_call held.calls false }

-- a sink in memory: the bytes that it took, and its calls
pub record HeldSink : Type 0 where
  pub taken : List ℕ
  pub calls : CallRecord

-- a sink in memory after a write of this piece with this answer
abbrev pub after_write : HeldSink → List ℕ → Result ℕ DeviceFault → HeldSink
after_write held piece (Ok n) = record held { taken = held.taken ++ take n piece; calls = after_call held.calls false }
after_write held piece (Err sink.Failed) = record held { calls = after_call held.calls true }
after_write held piece (Err sink.NoMemory) = record held { calls = after_call held.calls false }

-- How the opening of a journal may end.
use Rattle.std.specs.Prelude.{Bool, true, false, Result, Ok, Err}
use Rattle.replica_journal.specs.declared.open_fault.OpenCause.{OpenCause}
use Rattle.replica_journal.specs.declared.open_fault.OpenCause.TheVariants.{NoMemory, DiskFault, Damaged}

-- whether the disk failed
abbrev pub open_failed : {T : Type 0} → Result T OpenCause → Bool
open_failed (Ok value) = false
open_failed (Err (NoMemory error)) = false
open_failed (Err DiskFault) = true
open_failed (Err (Damaged at)) = false

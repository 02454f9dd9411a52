-- What a fault of a write is to who opens a journal.
use Rattle.std.specs.Prelude.{alloc_error}
use Rattle.span_base.specs.declared.sink.DeviceFault.{DeviceFault}
use Rattle.span_base.specs.declared.sink.DeviceFault.TheVariants as device
use Rattle.replica_journal.specs.declared.open_fault.OpenCause.{OpenCause}
use Rattle.replica_journal.specs.declared.open_fault.OpenCause.TheVariants as cause

abbrev pub cause_of : DeviceFault → OpenCause
cause_of device.Failed = cause.DiskFault
cause_of device.NoMemory = cause.NoMemory alloc_error

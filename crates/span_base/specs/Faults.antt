-- What a fault of the shelf is called by who reads a whole file.
use Rattle.span_base.specs.declared.reading.FileFault.{FileFault}
use Rattle.span_base.specs.declared.reading.FileFault.TheVariants as file
use Rattle.span_base.specs.declared.shelf.ShelfError.{ShelfError}
use Rattle.span_base.specs.declared.shelf.ShelfError.TheVariants as shelf

-- the fault of the whole for a fault of one read
abbrev pub fault_of : ShelfError → FileFault
fault_of shelf.Absent = file.Absent
fault_of shelf.Failed = file.ReadFault
fault_of shelf.NoMemory = file.NoMemory

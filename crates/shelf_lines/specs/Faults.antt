-- What a fault of the shelf is called by who reads lines.
use Rattle.shelf_lines.specs.declared.limits.LinesFault.{LinesFault}
use Rattle.shelf_lines.specs.declared.limits.LinesFault.TheVariants as lines
use Rattle.span_base.specs.declared.shelf.ShelfError.{ShelfError}
use Rattle.span_base.specs.declared.shelf.ShelfError.TheVariants as shelf

-- the fault of the reader for a fault of one read
abbrev pub fault_of : ShelfError → LinesFault
fault_of shelf.Absent = lines.Absent
fault_of shelf.Failed = lines.ReadFault
fault_of shelf.NoMemory = lines.NoMemory

-- How a fault of the tables, of the sets or of memory is told.
use Rattle.std.specs.Prelude.{ℕ}
use Rattle.span_base.specs.declared.words.Cause.TheVariants as cause
use Rattle.price_tables.specs.declared.fault.TableFault.{TableFault}
use Rattle.price_tables.specs.declared.fault.TableFault.TheVariants as table
use Rattle.workload.specs.declared.fault.LoadFault.{LoadFault}
use Rattle.workload.specs.declared.fault.LoadFault.TheVariants as load
use Rattle.workload.specs.declared.fault.Gap.{Gap}
use Rattle.workload.specs.declared.fault.Gap.TheVariants as gap
use Rattle.world_text.specs.declared.fault.Fault.TheVariants.{Bad, Limit}
use Rattle.world_text.specs.declared.fault.Refusal.{Refusal}
use Rattle.world_text.specs.declared.fault.Refusal.TheVariants as refusal
use Rattle.world_text.specs.declared.fault.WorldFault.{WorldFault}
use Rattle.world_text.specs.declared.fault.WorldFault.TheVariants as world

-- the refusal of a centre or a link
abbrev pub table_refusal : TableFault → Refusal
table_refusal (table.Limit what number) = refusal.Fault (Limit what number)
table_refusal table.Twice = refusal.Fault (Bad cause.Twice)
table_refusal table.UnknownFrom = refusal.Fault (Bad cause.Unknown)
table_refusal table.UnknownTo = refusal.Fault (Bad cause.Unknown)
table_refusal (table.NoMemory e) = refusal.NoMemory e

-- the refusal of a set or a member
abbrev pub load_refusal : LoadFault → Refusal
load_refusal (load.Limit what number) = refusal.Fault (Limit what number)
load_refusal load.Unknown = refusal.Fault (Bad cause.Unknown)
load_refusal load.Twice = refusal.Fault (Bad cause.Twice)
load_refusal (load.NoMemory e) = refusal.NoMemory e

-- the refusal of a world with a gap
abbrev pub gap_refusal : Gap → Refusal
gap_refusal (gap.NoLink from to) = refusal.Fault (Bad cause.Link)
gap_refusal (gap.NoMember set) = refusal.Fault (Bad cause.Members)

-- a refusal with its line
abbrev pub at_line : ℕ → Refusal → WorldFault
at_line line (refusal.Fault (Bad cause)) = world.Bad line cause
at_line line (refusal.Fault (Limit what number)) = world.Limit line what number
at_line line (refusal.NoMemory e) = world.NoMemory e

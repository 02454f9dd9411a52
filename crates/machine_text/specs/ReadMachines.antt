-- What a machine file says, or the first fault with its line: `span-machines,1`, then `unit,U`, then
-- one record for each centre of the world, in its order, and nothing more.
use Rattle.std.specs.Prelude.{◌≡◌, ℕ, ◌+◌, List, [], ◌∷◌, length, Result, Ok, Err}
use Rattle.csv.specs.Reading.{records, default_config, strip_bom}
use Rattle.span_base.specs.declared.words.What.{What}
use Rattle.price_tables.specs.declared.prices.Centre.{Centre}
use Rattle.workload.specs.World.{Lists}
use Rattle.machine_text.specs.declared.fault.Fault.{Fault}
use Rattle.machine_text.specs.declared.fault.Fault.TheVariants.{Bad, Limit}
use Rattle.machine_text.specs.declared.fault.MachineFault.{MachineFault}
use Rattle.machine_text.specs.declared.fault.MachineFault.TheVariants as refused
use Rattle.machine_text.specs.declared.machines.Machine.{Machine}
use Rattle.machine_text.specs.Machines.{Fleet}
use Rattle.machine_text.specs.Spelled.{Record, ◌>>=◌, opening_of, unit_of, machine_of}

-- a line, and the fault there
abbrev pub LineFault : Type 0
LineFault = ℕ × Fault

-- what a record spells, and the records after it, or the fault with the record's line
abbrev pub before : {X : Type 0} → ℕ → List Record → Result X Fault → Result (X × List Record) LineFault
before line rest (Ok x) = Ok (x, rest)
before line rest (Err fault) = Err (line, fault)

-- the first of the records as what it has to spell, and the records after it: where there is none,
-- the line after the last record is at fault
unfoldable pub next_as : {X : Type 0} → (Record → Result X Fault) → ℕ → List Record → Result (X × List Record) LineFault
next_as spelled line [] = Err (line, Bad)
next_as spelled line (r ∷ rs) = before line rs (spelled r)

-- the records of the machines of these centres, from this line on, and the records after them
unfoldable pub machines_at : ℕ → List Centre → List Record → Result (List Machine × List Record) LineFault
machines_at line [] records = Ok ([], records)
machines_at line (c ∷ cs) records = do
  first ← next_as (machine_of c.name) line records
  others ← machines_at (line + 1) cs first.1
  Ok (first.0 ∷ others.0, others.1)

-- no record is left, or the first that is too many is at fault
unfoldable pub ended : ℕ → List Record → Result (Unit {0}) LineFault
ended line [] = Ok tt
ended line (r ∷ rs) = Err (line, Bad)

-- what records say
unfoldable pub machines_in : Lists → List Record → Result Fleet LineFault
machines_in w records = do
  opened ← next_as opening_of 1 records
  unit ← next_as unit_of 2 opened.1
  machines ← machines_at 3 w.centres unit.1
  _ ← ended (3 + length w.centres) machines.1
  Ok (record { unit = unit.0; each = machines.0 })

-- what a text in CSV says: its records are what the `csv` crate reads with its defaults and no header
-- row, a byte order mark at the start skipped
abbrev pub machines_say : Lists → List ℕ → Result Fleet LineFault
machines_say w text = machines_in w (records default_config (strip_bom text))

-- what a text says that is refused at a line: as no record of its form, or for a number above a limit
abbrev pub refused_at : ℕ → Result Fleet LineFault
refused_at line = Err (line, Bad)

abbrev pub refused_above : ℕ → What → ℕ → Result Fleet LineFault
refused_above line what number = Err (line, Limit what number)

-- the refusal of a record at a line
abbrev pub at_line : ℕ → Fault → MachineFault
at_line line Bad = refused.Bad line
at_line line (Limit what number) = refused.Limit line what number

-- what was read is what a text says
abbrev pub Reads : Result Fleet LineFault → Result Fleet MachineFault → Type 0
Reads says (Ok fleet) = says ≡ Ok fleet
Reads says (Err (refused.Bad line)) = says ≡ refused_at line
Reads says (Err (refused.Limit line what number)) = says ≡ refused_above line what number
Reads says (Err (refused.NoMemory e)) = Unit {0}

-- What the records of a world say, or the first fault with its line.
use Rattle.std.specs.Prelude.{◌≡◌, ℕ, ◌+◌, Bool, nat_lt, if◌then◌else◌, List, [], ◌∷◌, length, map, Option, Some, None, is_some, Result, Ok, Err}
use Rattle.std.specs.List.{list_all, range_with_len}
use Rattle.span_base.specs.declared.words.Cause.{Cause}
use Rattle.span_base.specs.declared.words.Cause.TheVariants as cause
use Rattle.span_base.specs.declared.words.What.{What}
use Rattle.price_tables.specs.Tables.{Tabled, count_of, link_at}
use Rattle.workload.specs.declared.rules.AccessSet.{AccessSet}
use Rattle.workload.specs.World.{Lists, world_of}
use Rattle.world_text.specs.declared.fault.Fault.{Fault}
use Rattle.world_text.specs.declared.fault.Fault.TheVariants.{Bad, Limit}
use Rattle.world_text.specs.declared.fault.WorldFault.{WorldFault}
use Rattle.world_text.specs.declared.fault.WorldFault.TheVariants as world
use Rattle.world_text.specs.declared.kinds.Version.{Version}
use Rattle.world_text.specs.declared.draft.Draft.{Draft}
use Rattle.world_text.specs.Records.{Record, records_in}
use Rattle.world_text.specs.Judged.{judged, nothing_read}

-- every pair of centres has a link
unfoldable pub all_linked : Tabled → Bool
all_linked t = list_all (λ from. list_all (λ to. is_some (link_at t from to)) (range_with_len 0 (count_of t))) (range_with_len 0 (count_of t))

-- every set has a member
unfoldable pub all_used : List AccessSet → Bool
all_used sets = list_all (λ set. nat_lt 0 (length set.members)) sets

-- the world after the last record
abbrev pub world_in : Option Version → Draft → Result Lists Fault
world_in None d = Err (Bad cause.Version)
world_in (Some version) d =
    if all_linked d.tables then (if all_used d.load then Ok (world_of d.tables d.load) else Err (Bad cause.Members))
    else Err (Bad cause.Link)

unfoldable pub completed : Draft → Result Lists Fault
completed d = world_in d.version d

-- a line, and the fault there
abbrev pub LineFault : Type 0
LineFault = ℕ × Fault

-- an entry of a world: a record, or None for a table of which no record can be made, since its keys
-- aren't those of its kind
abbrev pub Entry : Type 0
Entry = Option Record

abbrev pub entry_judged : Draft → Entry → Result Draft Fault
entry_judged d None = Err (Bad cause.Key)
entry_judged d (Some fields) = judged d fields

-- the world that these entries make of a draft, the first of them at this line
unfoldable pub read_from : ℕ → Draft → List Entry → Result Lists LineFault
read_from line d [] = at_end (completed d)
  where
    at_end : Result Lists Fault → Result Lists LineFault
    at_end (Ok w) = Ok w
    at_end (Err fault) = Err (line, fault)
read_from line d (e ∷ es) = go_on (entry_judged d e) (λ next. read_from (line + 1) next es)
  where
    go_on : Result Draft Fault → (Draft → Result Lists LineFault) → Result Lists LineFault
    go_on (Ok next) more = more next
    go_on (Err fault) more = Err (line, fault)

-- the world of these entries, and of these records
abbrev pub read_entries : List Entry → Result Lists LineFault
read_entries entries = read_from 1 nothing_read entries

abbrev pub read_records : List Record → Result Lists LineFault
read_records records = read_entries (map Some records)

-- what a text says in CSV
abbrev pub csv_says : List ℕ → Result Lists LineFault
csv_says text = read_records (records_in text)

-- what a text says that is refused at a line: for a cause, or for a number above a limit
abbrev pub refused_for : ℕ → Cause → Result Lists LineFault
refused_for line cause = Err (line, Bad cause)

abbrev pub refused_above : ℕ → What → ℕ → Result Lists LineFault
refused_above line what number = Err (line, Limit what number)

-- what was read is what a text says
abbrev pub Reads : Result Lists LineFault → Result Lists WorldFault → Type 0
Reads says (Ok w) = says ≡ Ok w
Reads says (Err (world.Bad line cause)) = says ≡ refused_for line cause
Reads says (Err (world.Limit line what number)) = says ≡ refused_above line what number
Reads says (Err (world.NoMemory e)) = Unit {0}

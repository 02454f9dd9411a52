-- The records of a text, and those in which a world is printed.
use Rattle.std.specs.Prelude.{ℕ, ◌==◌, if◌then◌else◌, List, [], ◌∷◌, ◌++◌, map, codes}
use Rattle.std.specs.List.{flat_map, list_all, range_with_len}
use Rattle.std.specs.Fmt.{decimal}
use Rattle.csv.specs.Reading.{records, default_config, strip_bom}
use Rattle.csv.specs.Writing.{row_text, default_writer}
use Rattle.price_tables.specs.declared.prices.Centre.{Centre}
use Rattle.price_tables.specs.declared.prices.Fare.{Fare}
use Rattle.workload.specs.declared.rules.Demand.{Demand}
use Rattle.workload.specs.declared.rules.AccessSet.{AccessSet}
use Rattle.workload.specs.Modes.{word_of}
use Rattle.workload.specs.World.{Lists, name_of, fare_of, centre_count}
use Rattle.world_text.specs.declared.kinds.Version.{Version}
use Rattle.world_text.specs.declared.kinds.Version.TheVariants as version

-- a record of a world's text: its fields, each a list of bytes
abbrev pub Record : Type 0
Record = List (List ℕ)

-- the records of a text in CSV: what the `csv` crate reads with its defaults and no header row, a
-- byte order mark at the start skipped
unfoldable pub records_in : List ℕ → List Record
records_in text = records default_config (strip_bom text)

-- the version in which a world is printed: the first where every set asks for one provider
abbrev pub printed_version : Lists → Version
printed_version w = if list_all (λ s. s.rule.providers == 1) w.sets then version.One else version.Two

-- the record that begins a world
abbrev pub version_record : Version → Record
version_record version.One = codes "span" ∷ codes "1" ∷ []
version_record version.Two = codes "span" ∷ codes "2" ∷ []

-- the record of a centre
abbrev pub centre_record : Centre → Record
centre_record c =
    codes "dc" ∷ c.name ∷ c.provider ∷ decimal c.price.store ∷ decimal c.price.get ∷ decimal c.price.put ∷ []

-- the record of a link
abbrev pub link_record : List ℕ → List ℕ → Fare → Record
link_record from to fare = codes "link" ∷ from ∷ to ∷ decimal fare.transfer ∷ decimal fare.latency ∷ []

-- the records of the links from a centre, in the order of the centres they go to
abbrev pub links_from : Lists → ℕ → List Record
links_from w from =
    map (λ to. link_record (name_of w from) (name_of w to) (fare_of w from to)) (range_with_len 0 (centre_count w))

-- the records of all links, in lexicographic order of the numbers of their two centres
abbrev pub link_records : Lists → List Record
link_records w = flat_map (links_from w) (range_with_len 0 (centre_count w))

-- the field of a set that says how many providers it asks for, in the second version
abbrev pub providers_field : Version → ℕ → Record
providers_field version.One providers = []
providers_field version.Two providers = decimal providers ∷ []

-- the record of a set
abbrev pub set_record : Version → AccessSet → Record
set_record v s =
    codes "set" ∷ s.name ∷ word_of s.rule.mode ∷ decimal s.rule.f ∷ decimal s.rule.read_slo
    ∷ decimal s.rule.write_slo ∷ decimal s.rule.stored ∷ decimal s.rule.object ∷ providers_field v s.rule.providers

-- the record of a member of a set
abbrev pub use_record : Lists → AccessSet → Demand → Record
use_record w s m = codes "use" ∷ s.name ∷ name_of w m.dc.0 ∷ decimal m.gets ∷ decimal m.puts ∷ []

-- the records of all members, in the order of their sets
abbrev pub use_records : Lists → List Record
use_records w = flat_map (λ s. map (use_record w s) s.members) w.sets

-- the records of a world: its centres, links, sets and members
abbrev pub records_of : Lists → List Record
records_of w =
    version_record (printed_version w)
    ∷ ((map centre_record w.centres ++ link_records w) ++ map (set_record (printed_version w)) w.sets) ++ use_records w

-- the text of a world: its records as the `csv` crate writes them, with a line feed after each
unfoldable pub world_text : Lists → List ℕ
world_text w = flat_map (row_text default_writer) (records_of w)

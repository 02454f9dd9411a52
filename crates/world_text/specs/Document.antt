-- The document of a world in TOML: its tables, each with its keys in rising order.
use Rattle.std.specs.Prelude.{ℕ, pos, List, [], ◌∷◌, map, codes}
use Rattle.std.specs.List.{flat_map, range_with_len}
use Rattle.price_tables.specs.declared.prices.Centre.{Centre}
use Rattle.price_tables.specs.declared.prices.Fare.{Fare}
use Rattle.toml.specs.Data.{Data, string, integer, array, table, Items, no_items, item, Members, no_members, member}
use Rattle.workload.specs.declared.rules.Demand.{Demand}
use Rattle.workload.specs.declared.rules.AccessSet.{AccessSet}
use Rattle.workload.specs.Modes.{word_of}
use Rattle.workload.specs.World.{Lists, name_of, fare_of, centre_count}
use Rattle.world_text.specs.declared.kinds.Version.{Version}
use Rattle.world_text.specs.declared.kinds.Version.TheVariants as version
use Rattle.world_text.specs.Records.{printed_version}

-- a number as a value
abbrev pub number : ℕ → Data
number n = integer (pos n)

-- an array of these tables
unfoldable pub items_of : List Members → Items
items_of [] = no_items
items_of (t ∷ ts) = item (table t) (items_of ts)

abbrev pub tables : List Members → Data
tables ts = array (items_of ts)

-- the number of a version
abbrev pub version_number : Version → ℕ
version_number version.One = 1
version_number version.Two = 2

-- the table of a centre
abbrev pub centre_table : Centre → Members
centre_table c =
    member (codes "get") (number c.price.get)
    (member (codes "name") (string c.name)
    (member (codes "provider") (string c.provider)
    (member (codes "put") (number c.price.put)
    (member (codes "store") (number c.price.store) no_members))))

-- the table of a link
abbrev pub link_table : List ℕ → List ℕ → Fare → Members
link_table from to fare =
    member (codes "from") (string from)
    (member (codes "latency") (number fare.latency)
    (member (codes "to") (string to)
    (member (codes "transfer") (number fare.transfer) no_members)))

-- the tables of the links from a centre, and those of all links
abbrev pub link_tables_from : Lists → ℕ → List Members
link_tables_from w from =
    map (λ to. link_table (name_of w from) (name_of w to) (fare_of w from to)) (range_with_len 0 (centre_count w))

abbrev pub link_tables : Lists → List Members
link_tables w = flat_map (link_tables_from w) (range_with_len 0 (centre_count w))

-- the table of a set: in the second version it tells the number of providers
abbrev pub set_table : Version → AccessSet → Members
set_table version.One s =
    member (codes "f") (number s.rule.f)
    (member (codes "mode") (string (word_of s.rule.mode))
    (member (codes "name") (string s.name)
    (member (codes "object") (number s.rule.object)
    (member (codes "read") (number s.rule.read_slo)
    (member (codes "stored") (number s.rule.stored)
    (member (codes "write") (number s.rule.write_slo) no_members))))))
set_table version.Two s =
    member (codes "f") (number s.rule.f)
    (member (codes "mode") (string (word_of s.rule.mode))
    (member (codes "name") (string s.name)
    (member (codes "object") (number s.rule.object)
    (member (codes "providers") (number s.rule.providers)
    (member (codes "read") (number s.rule.read_slo)
    (member (codes "stored") (number s.rule.stored)
    (member (codes "write") (number s.rule.write_slo) no_members)))))))

-- the table of a member of a set, and those of all members
abbrev pub use_table : Lists → AccessSet → Demand → Members
use_table w s m =
    member (codes "dc") (string (name_of w m.dc.0))
    (member (codes "gets") (number m.gets)
    (member (codes "puts") (number m.puts)
    (member (codes "set") (string s.name) no_members)))

abbrev pub use_tables : Lists → List Members
use_tables w = flat_map (λ s. map (use_table w s) s.members) w.sets

-- the document of a world
unfoldable pub document_of : Lists → Members
document_of w =
    member (codes "dc") (tables (map centre_table w.centres))
    (member (codes "link") (tables (link_tables w))
    (member (codes "set") (tables (map (set_table (printed_version w)) w.sets))
    (member (codes "span") (number (version_number (printed_version w)))
    (member (codes "use") (tables (use_tables w)) no_members))))

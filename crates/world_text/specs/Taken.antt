-- How entries are taken one after the other, and how the tables of a document are seen as entries.
use Rattle.std.specs.Prelude.{◌≡◌, ℕ, List, ◌∷◌, ◌++◌, map, codes, Some, None, Err}
use Rattle.std.specs.Option.{unwrap_or}
use Rattle.toml.specs.Data.{Data, table, Members, get_member}
use Rattle.toml.specs.View.{view}
use Rattle.toml.specs.declared.value.Value.{Value}
use Rattle.world_text.specs.declared.draft.Draft.{Draft}
use Rattle.world_text.specs.declared.fault.WorldFault.{WorldFault}
use Rattle.world_text.specs.declared.kinds.Kind.{Kind}
use Rattle.world_text.specs.declared.kinds.Kind.TheVariants as kind
use Rattle.world_text.specs.declared.kinds.Version.{Version}
use Rattle.world_text.specs.declared.kinds.Version.TheVariants as version
use Rattle.world_text.specs.declared.toml_tables.Field.{Field}
use Rattle.world_text.specs.declared.toml_tables.Field.TheVariants.{Text, Number}
use Rattle.world_text.specs.declared.toml_tables.Arrays.{Arrays}
use Rattle.world_text.specs.Records.{Record}
use Rattle.world_text.specs.ReadWorld.{Entry, read_from, Reads}
use Rattle.world_text.specs.Spelled.{version_of}
use Rattle.world_text.specs.Toml.{Key, a_text, a_number, table_record, first_record, version_told}

-- these entries lead from a draft at a line to another, whatever comes after them
abbrev pub Leads : List Entry → (from : ℕ) → Draft → (to : ℕ) → Draft → Type 0
Leads entries from old to new = (more : List Entry) → read_from from old (entries ++ more) ≡ read_from to new more

-- these entries are refused, whatever comes after them
abbrev pub IsRefused : List Entry → ℕ → Draft → WorldFault → Type 0
IsRefused entries line d e = (more : List Entry) → Reads (read_from line d (entries ++ more)) (Err e)

-- a key of the code
abbrev pub key_of : Field → Key
key_of (Text key) = a_text key.now
key_of (Number key) = a_number key.now

-- the entry of a value that should be a table of a kind
abbrev pub data_entry : Version → Kind → Data → Entry
data_entry version k (table t) = table_record version k t
data_entry version k _ = None

abbrev pub entry_of : Version → Kind → Value → Entry
entry_of version k value = data_entry version k (view value)

-- the entries of these arrays of tables, in the order of the kinds
abbrev pub array_entries : Version → Arrays → List Entry
array_entries version arrays =
    ((map (entry_of version kind.Centre) arrays.centres.now ++ map (entry_of version kind.Link) arrays.links.now) ++ map (entry_of version kind.Set) arrays.sets.now)
    ++ map (entry_of version kind.Use) arrays.uses.now

-- the version that a draft was told, or the first
abbrev pub version_in : Draft → Version
version_in d = unwrap_or d.version version.One

-- the first record of a document, and its entries where these are its arrays
abbrev pub first_of : Members → Record
first_of t = first_record (get_member (codes "span") t)

abbrev pub tables_entries : Members → Arrays → List Entry
tables_entries t arrays = Some (first_of t) ∷ array_entries (version_told (version_of (first_of t))) arrays

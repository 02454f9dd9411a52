-- The records of a world in TOML: those of its tables, in the order of the kinds.
use Rattle.std.specs.Prelude.{ℕ, ◌+◌, ◌==◌, if◌then◌else◌, List, [], ◌∷◌, ◌++◌, length, map, codes, Option, Some, None, option_map, Result, Ok, Err}
use Rattle.std.specs.Fmt.{signed_decimal}
use Rattle.std.specs.Str.{is_utf8}
use Rattle.span_base.specs.declared.words.Cause.TheVariants as cause
use Rattle.workload.specs.World.{Lists}
use Rattle.toml.specs.Parse.{parse_document}
use Rattle.toml.specs.Data.{Data, string, integer, array, table, Items, no_items, item, Members, no_members, member, get_member}
use Rattle.world_text.specs.declared.kinds.Kind.{Kind}
use Rattle.world_text.specs.declared.kinds.Kind.TheVariants as kind
use Rattle.world_text.specs.declared.kinds.Version.{Version}
use Rattle.world_text.specs.declared.kinds.Version.TheVariants as version
use Rattle.world_text.specs.declared.fault.Fault.{Fault}
use Rattle.world_text.specs.declared.fault.Fault.TheVariants.{Bad}
use Rattle.world_text.specs.Records.{Record}
use Rattle.world_text.specs.Spelled.{version_of}
use Rattle.world_text.specs.ReadWorld.{Entry, LineFault, read_entries}

-- how many keys a table has
unfoldable pub key_count : Members → ℕ
key_count no_members = 0
key_count (member key value more) = key_count more + 1

-- the word of a kind: the key of its array of tables, and the first field of its records
abbrev pub kind_word : Kind → List ℕ
kind_word kind.Centre = codes "dc"
kind_word kind.Link = codes "link"
kind_word kind.Set = codes "set"
kind_word kind.Use = codes "use"

-- a key of a table, and whether its value is a string or an integer
pub data Key : Type 0 where
  a_text : List ℕ → Key
  a_number : List ℕ → Key

-- the keys of a set in each version
abbrev pub set_keys : Version → List Key
set_keys version.One =
    a_text (codes "name") ∷ a_text (codes "mode") ∷ a_number (codes "f") ∷ a_number (codes "read") ∷ a_number (codes "write")
    ∷ a_number (codes "stored") ∷ a_number (codes "object") ∷ []
set_keys version.Two =
    a_text (codes "name") ∷ a_text (codes "mode") ∷ a_number (codes "f") ∷ a_number (codes "read") ∷ a_number (codes "write")
    ∷ a_number (codes "stored") ∷ a_number (codes "object") ∷ a_number (codes "providers") ∷ []

-- the keys of a table of a kind, in the order of the fields of a record
abbrev pub keys_of : Version → Kind → List Key
keys_of v kind.Centre = a_text (codes "name") ∷ a_text (codes "provider") ∷ a_number (codes "store") ∷ a_number (codes "get") ∷ a_number (codes "put") ∷ []
keys_of v kind.Link = a_text (codes "from") ∷ a_text (codes "to") ∷ a_number (codes "transfer") ∷ a_number (codes "latency") ∷ []
keys_of v kind.Set = set_keys v
keys_of v kind.Use = a_text (codes "set") ∷ a_text (codes "dc") ∷ a_number (codes "gets") ∷ a_number (codes "puts") ∷ []

-- the bytes of a string, and an integer in decimal, with its sign where it is negative
abbrev pub text_in : Option Data → Option (List ℕ)
text_in (Some (string bytes)) = Some bytes
text_in _ = None

abbrev pub number_in : Option Data → Option (List ℕ)
number_in (Some (integer z)) = Some (signed_decimal z)
number_in _ = None

-- the field that a table has at a key, where its value is of the right kind
abbrev pub field_at : Members → Key → Option (List ℕ)
field_at t (a_text key) = text_in (get_member key t)
field_at t (a_number key) = number_in (get_member key t)

-- a field before others, where all are there
abbrev pub with_field : Option (List ℕ) → Option Record → Option Record
with_field (Some field) (Some fields) = Some (field ∷ fields)
with_field _ _ = None

-- the fields that a table has at these keys
unfoldable pub fields_at : Members → List Key → Option Record
fields_at t [] = Some []
fields_at t (key ∷ keys) = with_field (field_at t key) (fields_at t keys)

-- the record of a table of a kind, or None where a key is missing, unknown or of the wrong kind of
-- value: it has as many keys as it should, and all of these
unfoldable pub table_record : Version → Kind → Members → Option Record
table_record v k t =
    if key_count t == length (keys_of v k) then option_map (λ fields. kind_word k ∷ fields) (fields_at t (keys_of v k))
    else None

-- an item before others, where all are tables
abbrev pub with_table : Data → Option (List Members) → Option (List Members)
with_table (table t) (Some ts) = Some (t ∷ ts)
with_table _ _ = None

-- the items of an array, where all are tables
unfoldable pub tables_in : Items → Option (List Members)
tables_in no_items = Some []
tables_in (item d ds) = with_table d (tables_in ds)

-- the tables at a top key; an absent array is empty
abbrev pub tables_at : Option Data → Option (List Members)
tables_at None = Some []
tables_at (Some (array items)) = tables_in items
tables_at (Some _) = None

-- how many values there are, none or one
abbrev pub how_many : Option Data → ℕ
how_many (Some value) = 1
how_many None = 0

-- what `span` says: the first record; a value that is no integer leaves it without its second field
abbrev pub first_record : Option Data → Record
first_record (Some (integer z)) = codes "span" ∷ signed_decimal z ∷ []
first_record _ = codes "span" ∷ []

-- the version that the first record tells; where it tells none it is refused, and no later one matters
abbrev pub version_told : Result Version Fault → Version
version_told (Ok v) = v
version_told (Err fault) = version.One

-- the entries of these tables
abbrev pub entries_in : Version → Record → (centres links sets uses : List Members) → List Entry
entries_in v first centres links sets uses =
    Some first
    ∷ ((map (table_record v kind.Centre) centres ++ map (table_record v kind.Link) links) ++ map (table_record v kind.Set) sets)
    ++ map (table_record v kind.Use) uses

-- the same, where each top key has tables
abbrev pub entries_of : Record → (centres links sets uses : Option (List Members)) → Option (List Entry)
entries_of first (Some centres) (Some links) (Some sets) (Some uses) =
    Some (entries_in (version_told (version_of first)) first centres links sets uses)
entries_of first _ _ _ _ = None

-- the value at a top key, and how many of the top keys that a world may have are there
abbrev pub at_top : Members → Kind → Option Data
at_top t k = get_member (kind_word k) t

abbrev pub known_keys : Members → ℕ
known_keys t =
    how_many (get_member (codes "span") t) + how_many (at_top t kind.Centre) + how_many (at_top t kind.Link)
    + how_many (at_top t kind.Set) + how_many (at_top t kind.Use)

-- the entries of a document, or None where it has an unknown top key, or one without tables
unfoldable pub document_entries : Members → Option (List Entry)
document_entries t =
    if key_count t == known_keys t
    then entries_of (first_record (get_member (codes "span") t))
    (tables_at (at_top t kind.Centre)) (tables_at (at_top t kind.Link)) (tables_at (at_top t kind.Set)) (tables_at (at_top t kind.Use))
    else None

-- what a document says
abbrev pub entries_say : Option (List Entry) → Result Lists LineFault
entries_say (Some entries) = read_entries entries
entries_say None = Err (0, Bad cause.Key)

abbrev pub document_says : Option Members → Result Lists LineFault
document_says (Some t) = entries_say (document_entries t)
document_says None = Err (0, Bad cause.Toml)

-- what a text says in TOML: what the document says that the `toml` crate reads; bytes that are no
-- UTF-8 are none
abbrev pub toml_says : List ℕ → Result Lists LineFault
toml_says bytes = if is_utf8 bytes then document_says (parse_document bytes) else Err (0, Bad cause.Toml)

-- The document of a world says that world: its tables give the records of the world.
use Rattle.std.proofs.Common.{◌≡◌, ℕ, lit<, List, [], ◌∷◌, ◌++◌, map, Option, Some, Ok, refl, sym, ap, ◌∙◌}
use Rattle.std.specs.List.{flat_map, range_with_len}
use Rattle.std.proofs.lemmas.Fmt.{decimal_digit}
use Rattle.std.proofs.lemmas.List.{map-append}
use Rattle.price_tables.specs.declared.prices.Centre.{Centre}
use Rattle.price_tables.specs.declared.prices.Fare.{Fare}
use Rattle.std.specs.Prelude.{codes}
use Rattle.toml.specs.Data.{Members, member, no_members}
use Rattle.workload.specs.declared.rules.Demand.{Demand}
use Rattle.workload.specs.declared.rules.AccessSet.{AccessSet}
use Rattle.workload.specs.World.{Lists, IsComplete, IsNamed, name_of, fare_of, centre_count}
use Rattle.world_text.specs.declared.kinds.Kind.{Kind}
use Rattle.world_text.specs.declared.kinds.Kind.TheVariants as kind
use Rattle.world_text.specs.declared.kinds.Version.{Version}
use Rattle.world_text.specs.declared.kinds.Version.TheVariants as version
use Rattle.world_text.specs.Records.{Record, printed_version, version_record, centre_record, link_record, links_from, link_records, set_record, use_record, use_records}
use Rattle.world_text.specs.Toml.{key_count, fields_at, table_record, tables_in, first_record, version_told, entries_of, entries_in, document_entries, document_says, entries_say}
use Rattle.world_text.specs.Document.{number, tables, version_number, items_of, centre_table, link_table, link_tables_from, link_tables, set_table, use_table, use_tables, document_of}
use Rattle.world_text.proofs.FieldsRead.{version_read}
use Rattle.world_text.proofs.WorldRead.{world_read}

-- the items of an array of tables are those tables
items_are : (ts : List Members) → tables_in (items_of ts) ≡ Some ts
unfolding tables_in items_of
items_are [] = refl
items_are (t ∷ ts) = rw (items_are ts) refl

-- the record of each table
centre_is : (v : Version) (c : Centre) → table_record v kind.Centre (centre_table c) ≡ Some (centre_record c)
unfolding table_record key_count fields_at
centre_is v c = refl

link_is : (v : Version) (from to : List ℕ) (fare : Fare) → table_record v kind.Link (link_table from to fare) ≡ Some (link_record from to fare)
unfolding table_record key_count fields_at
link_is v from to fare = refl

set_is : (v : Version) (s : AccessSet) → table_record v kind.Set (set_table v s) ≡ Some (set_record v s)
unfolding table_record key_count fields_at
set_is version.One s = refl
set_is version.Two s = refl

use_is : (v : Version) (w : Lists) (s : AccessSet) (m : Demand) → table_record v kind.Use (use_table w s m) ≡ Some (use_record w s m)
unfolding table_record key_count fields_at
use_is v w s m = refl

-- the records of tables that are made one by one, and list by list
module _ (v : Version) (k : Kind) where
  told : {X : Type 0} (t : X → Members) (r : X → Record) → ((x : X) → table_record v k (t x) ≡ Some (r x)) → (xs : List X) → map (table_record v k) (map t xs) ≡ map Some (map r xs)
  told t r is [] = refl
  told t r is (x ∷ xs) = rw (is x, told t r is xs) refl

  told_all : {X : Type 0} (t : X → List Members) (r : X → List Record) → ((x : X) → map (table_record v k) (t x) ≡ map Some (r x)) → (xs : List X) → map (table_record v k) (flat_map t xs) ≡ map Some (flat_map r xs)
  told_all t r is [] = refl
  told_all t r is (x ∷ xs) =
      map-append (table_record v k) (t x) (flat_map t xs)
      ∙ rw (is x, told_all t r is xs) (sym (map-append Some (r x) (flat_map r xs)))

links_are : (v : Version) (w : Lists) → map (table_record v kind.Link) (link_tables w) ≡ map Some (link_records w)
links_are v w =
    told_all v kind.Link (link_tables_from w) (links_from w)
    (λ from. told v kind.Link
    (λ (to : ℕ). link_table (name_of w from) (name_of w to) (fare_of w from to))
    (λ (to : ℕ). link_record (name_of w from) (name_of w to) (fare_of w from to))
    (λ to. link_is v (name_of w from) (name_of w to) (fare_of w from to)) (range_with_len 0 (centre_count w)))
    (range_with_len 0 (centre_count w))

uses_are : (v : Version) (w : Lists) → map (table_record v kind.Use) (use_tables w) ≡ map Some (use_records w)
uses_are v w =
    told_all v kind.Use (λ (s : AccessSet). map (use_table w s) s.members) (λ (s : AccessSet). map (use_record w s) s.members)
    (λ s. told v kind.Use (use_table w s) (use_record w s) (use_is v w s) s.members) w.sets

-- the entries of the four lists
entries_are : (v : Version) (first : Record) (w : Lists)
    → entries_in v first (map centre_table w.centres) (link_tables w) (map (set_table v) w.sets) (use_tables w)
    ≡ map Some (first ∷ ((map centre_record w.centres ++ link_records w) ++ map (set_record v) w.sets) ++ use_records w)
entries_are v first w =
    let centres = told v kind.Centre centre_table centre_record (centre_is v) w.centres in
    let sets = told v kind.Set (set_table v) (set_record v) (set_is v) w.sets in
    rw (
      centres,
      links_are v w,
      sets,
      uses_are v w,
      map-append Some ((map centre_record w.centres ++ link_records w) ++ map (set_record v) w.sets) (use_records w),
      map-append Some (map centre_record w.centres ++ link_records w) (map (set_record v) w.sets),
      map-append Some (map centre_record w.centres) (link_records w),
    ) refl

-- the first record, of a version that is told by its number
first_told : (v : Version) → first_record (Some (number (version_number v))) ≡ version_record v
first_told version.One = rw (decimal_digit 1 (lit< tt)) refl
first_told version.Two = rw (decimal_digit 2 (lit< tt)) refl

-- the entries of a document, where each top key has tables
entries_of_is : (v : Version) (first : Record) (a b c d : Option (List Members)) (xs ys zs us : List Members) → first ≡ version_record v → a ≡ Some xs → b ≡ Some ys → c ≡ Some zs → d ≡ Some us
    → entries_of first a b c d ≡ Some (entries_in v (version_record v) xs ys zs us)
entries_of_is v first a b c d xs ys zs us is ea eb ec ed =
    rw (is, ea, eb, ec, ed) (ap (λ (u : Version). Some (entries_in u (version_record v) xs ys zs us)) (ap version_told (version_read v)))

-- the document of a world as one of this version
abbrev document_in : Version → Lists → Members
document_in v w =
    member (codes "dc") (tables (map centre_table w.centres))
    (member (codes "link") (tables (link_tables w))
    (member (codes "set") (tables (map (set_table v) w.sets))
    (member (codes "span") (number (version_number v))
    (member (codes "use") (tables (use_tables w)) no_members))))

document_is : (v : Version) (w : Lists) → document_entries (document_in v w) ≡ Some (entries_in v (version_record v) (map centre_table w.centres) (link_tables w) (map (set_table v) w.sets) (use_tables w))
unfolding document_entries key_count
document_is version.One w =
    entries_of_is version.One (first_record (Some (number (version_number version.One)))) (tables_in (items_of (map centre_table w.centres))) (tables_in (items_of (link_tables w))) (tables_in (items_of (map (set_table version.One) w.sets))) (tables_in (items_of (use_tables w)))
    (map centre_table w.centres) (link_tables w) (map (set_table version.One) w.sets) (use_tables w)
    (first_told version.One) (items_are (map centre_table w.centres)) (items_are (link_tables w)) (items_are (map (set_table version.One) w.sets)) (items_are (use_tables w))
document_is version.Two w =
    entries_of_is version.Two (first_record (Some (number (version_number version.Two)))) (tables_in (items_of (map centre_table w.centres))) (tables_in (items_of (link_tables w))) (tables_in (items_of (map (set_table version.Two) w.sets))) (tables_in (items_of (use_tables w)))
    (map centre_table w.centres) (link_tables w) (map (set_table version.Two) w.sets) (use_tables w)
    (first_told version.Two) (items_are (map centre_table w.centres)) (items_are (link_tables w)) (items_are (map (set_table version.Two) w.sets)) (items_are (use_tables w))

pub document_read : (w : Lists) → IsComplete w → IsNamed w → document_says (Some (document_of w)) ≡ Ok w
unfolding document_of
document_read w complete named =
    let v : Version = printed_version w in
    ap entries_say (document_is v w ∙ ap Some (entries_are v (version_record v) w)) ∙ world_read w complete named

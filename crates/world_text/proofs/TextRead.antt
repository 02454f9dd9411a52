-- The text of a world says that world.
use Rattle.std.proofs.Common.{◌≡◌, ℕ, List, [], ◌∷◌, ◌++◌, map, Ok, All, refl, sym, ap, ◌∙◌}
use Rattle.std.specs.List.{flat_map, range_with_len}
use Rattle.std.proofs.lemmas.List.Elements.{All-nil, All-cons, All-append}
use Rattle.csv.specs.Reading.{strip_bom}
use Rattle.price_tables.specs.declared.prices.Centre.{Centre}
use Rattle.workload.specs.declared.rules.AccessSet.{AccessSet}
use Rattle.workload.specs.World.{Lists, IsComplete, IsNamed, centre_count, fare_of}
use Rattle.world_text.specs.declared.kinds.Version.{Version}
use Rattle.world_text.specs.declared.kinds.Version.TheVariants as version
use Rattle.workload.specs.World.{name_of}
use Rattle.world_text.specs.Records.{Record, printed_version, version_record, centre_record, link_record, links_from, link_records, set_record, use_record, use_records, records_of, world_text}
use Rattle.world_text.specs.ReadWorld.{csv_says}
use Rattle.world_text.specs.Written.{IsReadBack, MemoryWriter, Adds, text_of, written}
use Rattle.world_text.proofs.CsvText.{text_says}
use Rattle.world_text.proofs.Printing.{adds_more}
use Rattle.world_text.proofs.WorldRead.{world_read}

-- records of items, each of which is read back, and lists of such records
all_map : {X : Type 0} (f : X → Record) → ((x : X) → IsReadBack (f x)) → (xs : List X) → All IsReadBack (map f xs)
all_map f h [] = All-nil IsReadBack
all_map f h (x ∷ xs) = All-cons IsReadBack (f x) (map f xs) (h x) (all_map f h xs)

all_flat : {X : Type 0} (f : X → List Record) → ((x : X) → All IsReadBack (f x)) → (xs : List X) → All IsReadBack (flat_map f xs)
all_flat f h [] = All-nil IsReadBack
all_flat f h (x ∷ xs) = All-append IsReadBack (f x) (flat_map f xs) (h x) (all_flat f h xs)

version_back : (v : Version) → IsReadBack (version_record v)
unfolding strip_bom
version_back version.One = refl
version_back version.Two = refl

centre_back : (c : Centre) → IsReadBack (centre_record c)
unfolding strip_bom
centre_back c = refl

links_back : (w : Lists) (from : ℕ) → All IsReadBack (links_from w from)
unfolding strip_bom
links_back w from = all_map (λ to. link_record (name_of w from) (name_of w to) (fare_of w from to)) (λ to. refl) (range_with_len 0 (centre_count w))

set_back : (v : Version) (s : AccessSet) → IsReadBack (set_record v s)
unfolding strip_bom
set_back v s = refl

uses_back : (w : Lists) (s : AccessSet) → All IsReadBack (map (use_record w s) s.members)
unfolding strip_bom
uses_back w s = all_map (use_record w s) (λ m. refl) s.members

records_back : (w : Lists) → All IsReadBack (records_of w)
records_back w =
    let v : Version = printed_version w in
    let centres : List Record = map centre_record w.centres in
    let sets : List Record = map (set_record v) w.sets in
    All-cons IsReadBack (version_record v) (((centres ++ link_records w) ++ sets) ++ use_records w) (version_back v)
    (All-append IsReadBack ((centres ++ link_records w) ++ sets) (use_records w)
    (All-append IsReadBack (centres ++ link_records w) sets
    (All-append IsReadBack centres (link_records w) (all_map centre_record centre_back w.centres) (all_flat (links_from w) (links_back w) (range_with_len 0 (centre_count w))))
    (all_map (set_record v) (set_back v) w.sets))
    (all_flat (λ (s : AccessSet). map (use_record w s) s.members) (uses_back w) w.sets))

pub world_text_is : (w : Lists) → world_text w ≡ text_of (records_of w)
unfolding world_text text_of
world_text_is w = refl

pub world_text_read : (w : Lists) → IsComplete w → IsNamed w → csv_says (world_text w) ≡ Ok w
world_text_read w complete named = rw (world_text_is w, text_says (records_of w) (records_back w)) (world_read w complete named)

-- what is written where the parts of a world are printed one after the other
pub whole_text : (w : Lists) (v : Version) (start first centres links sets last : MemoryWriter) → v ≡ printed_version w → written start ≡ []
    → Adds start first (version_record v ∷ []) → Adds first centres (map centre_record w.centres) → Adds centres links (link_records w)
    → Adds links sets (map (set_record v) w.sets) → Adds sets last (use_records w) → written last ≡ world_text w
whole_text w v start first centres links sets last is empty a b c d e =
    let body : List Record = ((map centre_record w.centres ++ link_records w) ++ map (set_record v) w.sets) ++ use_records w in
    let links_too : Adds first links (map centre_record w.centres ++ link_records w) = adds_more first centres links (map centre_record w.centres) (link_records w) b c in
    let sets_too : Adds first sets ((map centre_record w.centres ++ link_records w) ++ map (set_record v) w.sets) =
    adds_more first links sets (map centre_record w.centres ++ link_records w) (map (set_record v) w.sets) links_too d in
    let after_first : Adds first last body = adds_more first sets last ((map centre_record w.centres ++ link_records w) ++ map (set_record v) w.sets) (use_records w) sets_too e in
    let all : Adds start last (version_record v ∷ body) = adds_more start first last (version_record v ∷ []) body a after_first in
    all.text
    ∙ ap (λ t. t ++ text_of (version_record v ∷ body)) empty
    ∙ ap (λ x. text_of (version_record x ∷ ((map centre_record w.centres ++ link_records w) ++ map (set_record x) w.sets) ++ use_records w)) is
    ∙ sym (world_text_is w)

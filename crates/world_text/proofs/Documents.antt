-- The entries of a document.
use Rattle.std.proofs.Common.{◌≡◌, Bool, true, false, ℕ, ◌+◌, List, [], ◌∷◌, ◌++◌, Result, Ok, Err, Option, Some, None, IsSome, refl, ◌∙◌}
use Rattle.std.specs.Prelude.{◌==◌, if◌then◌else◌}
use Rattle.std.proofs.lemmas.List.{append-nil}
use Rattle.toml.specs.Data.{Members}
use Rattle.toml.specs.View.{items_view}
use Rattle.toml.specs.declared.value.Value.{Value}
use Rattle.world_text.specs.declared.fault.Fault.{Fault}
use Rattle.world_text.specs.declared.draft.Draft.{Draft}
use Rattle.world_text.specs.declared.kinds.Kind.TheVariants as kind
use Rattle.world_text.specs.declared.kinds.Version.{Version}
use Rattle.world_text.specs.declared.toml_tables.Arrays.{Arrays}
use Rattle.world_text.specs.Records.{Record}
use Rattle.world_text.specs.ReadWorld.{read_from}
use Rattle.world_text.specs.Steps.{◌>>=◌}
use Rattle.world_text.specs.Judged.{judged, nothing_read}
use Rattle.world_text.specs.Spelled.{version_of}
use Rattle.world_text.specs.Toml.{key_count, known_keys, at_top, tables_at, tables_in, version_told, entries_of, document_entries, entries_say}
use Rattle.world_text.specs.Taken.{array_entries, first_of, tables_entries, version_in}
use Rattle.world_text.proofs.Members.{record_entries}
use Rattle.world_text.proofs.Taking.{taken_from}

-- a document with an unknown top key has none
pub unknown_key : (t : Members) (known : Bool) → known ≡ (key_count t == known_keys t) → known ≡ false → document_entries t ≡ None
unfolding document_entries
unknown_key t known is e = rw (← is, e) refl

-- nor has one where a top key has no array of tables alone
either_none : {A : Type 0} (test : Bool) (x : Option A) → x ≡ None → (if test then x else None) ≡ None
either_none true x e = e
either_none false x e = refl

module _ (first : Record) where
  no_links : (a c d : Option (List Members)) → entries_of first a None c d ≡ None
  no_links None c d = refl
  no_links (Some a) c d = refl

  no_sets : (a b d : Option (List Members)) → entries_of first a b None d ≡ None
  no_sets None b d = refl
  no_sets (Some a) None d = refl
  no_sets (Some a) (Some b) d = refl

  no_uses : (a b c : Option (List Members)) → entries_of first a b c None ≡ None
  no_uses None b c = refl
  no_uses (Some a) None c = refl
  no_uses (Some a) (Some b) None = refl
  no_uses (Some a) (Some b) (Some c) = refl

pub without_centres : (t : Members) → tables_at (at_top t kind.Centre) ≡ None → document_entries t ≡ None
unfolding document_entries
without_centres t e = either_none (key_count t == known_keys t) _ (rw e refl)

pub without_links : (t : Members) → tables_at (at_top t kind.Link) ≡ None → document_entries t ≡ None
unfolding document_entries
without_links t e = either_none (key_count t == known_keys t) _ (rw e (no_links (first_of t) _ _ _))

pub without_sets : (t : Members) → tables_at (at_top t kind.Set) ≡ None → document_entries t ≡ None
unfolding document_entries
without_sets t e = either_none (key_count t == known_keys t) _ (rw e (no_sets (first_of t) _ _ _))

pub without_uses : (t : Members) → tables_at (at_top t kind.Use) ≡ None → document_entries t ≡ None
unfolding document_entries
without_uses t e = either_none (key_count t == known_keys t) _ (rw e (no_uses (first_of t) _ _ _))

-- these values are the tables at a top key
abbrev pub AreAt : Option (List Members) → List Value → Type 0
AreAt at values = (at ≡ tables_in (items_view values)) × IsSome (tables_in (items_view values))

value_of : {A : Type 0} (o : Option A) → IsSome o → (x : A) × (o ≡ Some x)
value_of None h = absurd (cc h)
value_of (Some x) h = (x, refl)

all_there : (first : Record) (a b c d : Option (List Members)) (arrays : Arrays)
    → AreAt a arrays.centres.now → AreAt b arrays.links.now → AreAt c arrays.sets.now → AreAt d arrays.uses.now
    → entries_of first a b c d ≡ Some (Some first ∷ array_entries (version_told (version_of first)) arrays)
all_there first a b c d arrays at_a at_b at_c at_d =
    let (centres, is_a) = value_of (tables_in (items_view arrays.centres.now)) at_a.1 in
    let (links, is_b) = value_of (tables_in (items_view arrays.links.now)) at_b.1 in
    let (sets, is_c) = value_of (tables_in (items_view arrays.sets.now)) at_c.1 in
    let (uses, is_d) = value_of (tables_in (items_view arrays.uses.now)) at_d.1 in
    let version = version_told (version_of first) in
    rw (
      at_a.0 ∙ is_a,
      at_b.0 ∙ is_b,
      at_c.0 ∙ is_c,
      at_d.0 ∙ is_d,
      record_entries version kind.Centre arrays.centres.now centres is_a,
      record_entries version kind.Link arrays.links.now links is_b,
      record_entries version kind.Set arrays.sets.now sets is_c,
      record_entries version kind.Use arrays.uses.now uses is_d,
    )

pub entries_there : (t : Members) (known : Bool) (arrays : Arrays) → known ≡ (key_count t == known_keys t) → known ≡ true
    → AreAt (tables_at (at_top t kind.Centre)) arrays.centres.now → AreAt (tables_at (at_top t kind.Link)) arrays.links.now
    → AreAt (tables_at (at_top t kind.Set)) arrays.sets.now → AreAt (tables_at (at_top t kind.Use)) arrays.uses.now
    → document_entries t ≡ Some (tables_entries t arrays)
unfolding document_entries
entries_there t known arrays is e a b c d = rw (← is, e) (all_there (first_of t) _ _ _ _ arrays a b c d)

-- what a document says is what its first record and then its tables make of a fresh draft
pub document_from : (t : Members) (arrays : Arrays) (d : Draft) (row : Record) → document_entries t ≡ Some (tables_entries t arrays) → d ≡ nothing_read → row ≡ first_of t
    → entries_say (document_entries t) ≡ read_from 1 d (Some row ∷ array_entries (version_told (version_of row)) arrays)
document_from t arrays d row entries fresh is = rw (entries, fresh, is) refl

-- the version that a first record tells, where it is taken
told_version : (r : Result Version Fault) (d next : Draft) → (r >>= λ v. Ok (record d { version = Some v })) ≡ Ok next → version_told r ≡ version_in next
told_version (Ok v) d next taken = let same : record d { version = Some v } ≡ next = cc in rw (← same) refl
told_version (Err fault) d next taken = absurd (cc taken)

version_is : (d next : Draft) (row : Record) → d ≡ nothing_read → judged d row ≡ Ok next → version_told (version_of row) ≡ version_in next
unfolding judged
version_is d next row fresh taken = told_version (version_of row) nothing_read next (rw fresh at taken)

-- and then what its tables make of the draft after the first record
pub tables_from : (t : Members) (arrays : Arrays) (d next : Draft) (row : Record) (line : ℕ) → document_entries t ≡ Some (tables_entries t arrays) → d ≡ nothing_read → row ≡ first_of t
    → judged d row ≡ Ok next → line ≡ 1 + 1 → entries_say (document_entries t) ≡ read_from line next (array_entries (version_in next) arrays ++ [])
tables_from t arrays d next row line entries fresh is taken second =
    document_from t arrays d row entries fresh is
    ∙ taken_from 1 d next (Some row) (array_entries (version_told (version_of row)) arrays) taken
    ∙ rw (append-nil, second, version_is d next row fresh taken) refl

-- The fields of a table, one after the other.
use Rattle.std.proofs.Common.{◌≡◌, ◌≢◌, ℕ, ◌+◌, ◌<◌, ◌≤◌, Bool, true, false, List, [], ◌∷◌, ◌++◌, length, map, drop, get_or, Option, Some, None, option_map, refl, sym, ap, ◌∙◌, append_assoc}
use Rattle.std.specs.Prelude.{◌==◌}
use Rattle.std.proofs.lemmas.List.{append-nil, drop_more, drop_all, length-map}
use Rattle.std.proofs.lemmas.Bool.Decides.{Decides-eqb}
use Rattle.toml.specs.Data.{Members}
use Rattle.world_text.specs.declared.kinds.Kind.{Kind}
use Rattle.world_text.specs.declared.kinds.Version.{Version}
use Rattle.world_text.specs.declared.toml_tables.Field.{Field}
use Rattle.world_text.specs.declared.toml_tables.Field.TheVariants.{Text}
use Rattle.world_text.specs.Records.{Record}
use Rattle.world_text.specs.Toml.{key_count, field_at, fields_at, with_field, table_record, keys_of, kind_word}
use Rattle.world_text.specs.Taken.{key_of}
use Rattle.world_text.proofs.FieldTests.{no_field}

-- a table with another number of keys than its kind has no record
pub other_count : (version : Version) (k : Kind) (t : Members) (count : ℕ) (keys : List Field) → count ≡ key_count t → map key_of keys ≡ keys_of version k → count ≢ length keys → table_record version k t ≡ None
unfolding table_record
other_count version k t count keys counted are other = by (key_count t == length (keys_of version k)) refl
  where
    by : (b : Bool) → (key_count t == length (keys_of version k)) ≡ b → table_record version k t ≡ None
    by true e =
        let same : key_count t ≡ length (keys_of version k) = (Decides-eqb (key_count t) (length (keys_of version k))).0 e in
        absurd (other (counted ∙ same ∙ sym (ap length are) ∙ length-map keys key_of))
    by false e = rw e refl

-- with as many its record is the kind's word before its fields, where it has these
pub same_count : (version : Version) (k : Kind) (t : Members) (count : ℕ) (keys : List Field) → count ≡ key_count t → map key_of keys ≡ keys_of version k → count ≡ length keys
    → table_record version k t ≡ option_map (λ fields. kind_word k ∷ fields) (fields_at t (map key_of keys))
unfolding table_record
same_count version k t count keys counted are same = by (key_count t == length (keys_of version k)) refl
  where
    equal : key_count t ≡ length (keys_of version k)
    equal = sym counted ∙ same ∙ sym (length-map keys key_of) ∙ ap length are

    by : (b : Bool) → (key_count t == length (keys_of version k)) ≡ b → table_record version k t ≡ option_map (λ fields. kind_word k ∷ fields) (fields_at t (map key_of keys))
    by true e = rw (e, are) refl
    by false e = absurd (cc (e, (Decides-eqb (key_count t) (length (keys_of version k))).1 equal))

-- fields before those that are left
abbrev pub joined : Record → Option Record → Option Record
joined front rest = option_map (λ more. front ++ more) rest

joined_one : (front : Record) (field : List ℕ) (rest : Option Record) → joined front (with_field (Some field) rest) ≡ joined (front ++ field ∷ []) rest
joined_one front field None = refl
joined_one front field (Some more) = rw append_assoc refl

joined_none : (front : Record) (rest : Option Record) → joined front (with_field None rest) ≡ None
joined_none front None = refl
joined_none front (Some more) = refl

-- what stands for a key past the end
abbrev pub no_key : Field
no_key = Text no_field

module _ (t : Members) (front : Record) (keys : List Field) (i : ℕ) where
  next : i < length keys → fields_at t (map key_of (drop i keys)) ≡ with_field (field_at t (key_of (get_or keys i no_key))) (fields_at t (map key_of (drop (i + 1) keys)))
  unfolding fields_at
  next within = rw (drop_more keys i no_key within) refl

  pub left_none : i < length keys → None ≡ field_at t (key_of (get_or keys i no_key)) → joined front (fields_at t (map key_of (drop i keys))) ≡ None
  left_none within none = rw (next within, ← none) (joined_none front (fields_at t (map key_of (drop (i + 1) keys))))

  pub left_one : (field : List ℕ) → i < length keys → Some field ≡ field_at t (key_of (get_or keys i no_key))
      → joined front (fields_at t (map key_of (drop i keys))) ≡ joined (front ++ field ∷ []) (fields_at t (map key_of (drop (i + 1) keys)))
  left_one field within one = rw (next within, ← one) (joined_one front field (fields_at t (map key_of (drop (i + 1) keys))))

pub left_all : (t : Members) (front : Record) (keys : List Field) (i : ℕ) → length keys ≤ i → joined front (fields_at t (map key_of (drop i keys))) ≡ Some front
unfolding fields_at
left_all t front keys i past = rw (drop_all i keys past) (ap Some (append-nil front))

-- A text to which records are added.
use Rattle.std.proofs.Common.{◌≡◌, ◌≢◌, ℕ, ◌+◌, ◌<◌, ◌≤◌, ◌∙◌, true, false, List, [], ◌∷◌, ◌++◌, length, map, take, get_or, refl, sym, ap, subst, arith, append_assoc}
use Rattle.std.specs.List.{flat_map, range_with_len}
use Rattle.std.proofs.lemmas.List.{append-nil, map-append, take_more, take_all}
use Rattle.std.proofs.lemmas.List.FromFn.{length-range_with_len, get_or-range_with_len}
use Rattle.std.proofs.lemmas.List.Concat.{flat_map-append}
use Rattle.csv.specs.Writing.{row_text, default_writer, with_flexible, field_text, fields_text, escaped, is_blank, writer_setup, fields_written, has_written}
use Rattle.csv.specs.declared.writer.QuoteStyle.TheVariants as style
use Rattle.world_text.specs.Records.{Record}
use Rattle.world_text.specs.Written.{MemoryWriter, IsBetween, Adds, text_of, written}
use Rattle.world_text.proofs.CsvText.{text_of-append, text_of-one}

-- records of different lengths are written as those of one length
escaped_same : (xs : List ℕ) → escaped (with_flexible default_writer true) xs ≡ escaped default_writer xs
unfolding escaped
escaped_same [] = refl
escaped_same (x ∷ xs) = rw (escaped_same xs) refl

field_same : (x : List ℕ) → field_text (with_flexible default_writer true) x ≡ field_text default_writer x
field_same x = rw (escaped_same x) refl

fields_same : (fields : List (List ℕ)) → fields_text (with_flexible default_writer true) fields ≡ fields_text default_writer fields
unfolding fields_text
fields_same [] = refl
fields_same (x ∷ xs) = rw (field_same x, fields_same xs) refl

pub row_same : (row : Record) → row_text (with_flexible default_writer true) row ≡ row_text default_writer row
unfolding is_blank
row_same [] = refl
row_same (x ∷ []) = rw (field_same x, fields_same []) refl
row_same (x ∷ y ∷ xs) = rw (field_same x, fields_same (y ∷ xs)) refl

-- no record yet
pub adds_none : (w : MemoryWriter) → IsBetween w → Adds w w []
unfolding text_of
adds_none w h = record { between = h; text = sym (append-nil (written w)) }

-- records after others
pub adds_more : (a b c : MemoryWriter) (rows more : List Record) → Adds a b rows → Adds b c more → Adds a c (rows ++ more)
adds_more a b c rows more first then = record {
  between = then.between;
  text =
      then.text ∙ ap (λ t. t ++ text_of more) first.text ∙ append_assoc (written a) (text_of rows) (text_of more)
      ∙ ap (λ t. written a ++ t) (sym (text_of-append rows more));
}

adds_same : (a b : MemoryWriter) (rows same : List Record) → rows ≡ same → Adds a b rows → Adds a b same
adds_same a b rows same e h = subst (Adds a b) e h

-- the record of one more item
pub adds_next : {X : Type 0} (f : X → Record) (xs : List X) (i : ℕ) (d x : X) (a b c : MemoryWriter) → i < length xs → get_or xs i d ≡ x
    → Adds a b (map f (take i xs)) → Adds b c (f x ∷ []) → Adds a c (map f (take (i + 1) xs))
adds_next f xs i d x a b c within is first then =
    adds_same a c (map f (take i xs) ++ f x ∷ []) (map f (take (i + 1) xs))
    (ap (λ y. map f (take i xs) ++ f y ∷ []) (sym is) ∙ sym (map-append f (take i xs) (get_or xs i d ∷ [])) ∙ ap (map f) (sym (take_more xs i d within)))
    (adds_more a b c (map f (take i xs)) (f x ∷ []) first then)

-- the records of one more item
pub adds_next_all : {X : Type 0} (f : X → List Record) (xs : List X) (i : ℕ) (d x : X) (a b c : MemoryWriter) → i < length xs → get_or xs i d ≡ x
    → Adds a b (flat_map f (take i xs)) → Adds b c (f x) → Adds a c (flat_map f (take (i + 1) xs))
adds_next_all f xs i d x a b c within is first then =
    adds_same a c (flat_map f (take i xs) ++ f x) (flat_map f (take (i + 1) xs))
    (ap (λ y. flat_map f (take i xs) ++ f y) (sym is)
    ∙ ap (λ t. flat_map f (take i xs) ++ t) (sym (append-nil (f (get_or xs i d))))
    ∙ sym (flat_map-append f (take i xs) (get_or xs i d ∷ [])) ∙ ap (flat_map f) (sym (take_more xs i d within)))
    (adds_more a b c (flat_map f (take i xs)) (f x) first then)

-- no item is left
pub adds_all : {X : Type 0} (f : X → Record) (xs : List X) (i : ℕ) (a b : MemoryWriter) → length xs ≤ i → Adds a b (map f (take i xs)) → Adds a b (map f xs)
adds_all f xs i a b past h = adds_same a b (map f (take i xs)) (map f xs) (ap (map f) (take_all i xs past)) h

pub adds_every : {X : Type 0} (f : X → List Record) (xs : List X) (i : ℕ) (a b : MemoryWriter) → length xs ≤ i → Adds a b (flat_map f (take i xs)) → Adds a b (flat_map f xs)
adds_every f xs i a b past h = adds_same a b (flat_map f (take i xs)) (flat_map f xs) (ap (flat_map f) (take_all i xs past)) h

-- the numbers below n
pub below_range : (n i : ℕ) → i < n → i < length (range_with_len 0 n)
below_range n i low = omega (arith, length-range_with_len 0 n)

pub at_range : (n i : ℕ) → i < n → get_or (range_with_len 0 n) i 0 ≡ i
at_range n i low = omega (arith, get_or-range_with_len 0 n i 0 low)

pub past_range : (n i : ℕ) → n ≤ i → length (range_with_len 0 n) ≤ i
past_range n i past = omega (arith, length-range_with_len 0 n)

-- what a writer says of a record that it wrote
pub record_added : (old new : MemoryWriter) (row : Record) → IsBetween old
    → ((writer_setup old).style ≢ style.NonNumeric → written new ≡ written old ++ row_text (writer_setup old) row)
    → fields_written new ≡ 0 → has_written new ≡ false → writer_setup new ≡ writer_setup old → Adds old new (row ∷ [])
record_added old new row h bytes ended clean setup = record {
  between = record { setup = setup ∙ h.setup; no_field = ended; nothing_shown = clean };
  text =
      bytes (rw h.setup (λ e. cc e))
      ∙ ap (λ s. written old ++ row_text s row) h.setup
      ∙ ap (λ t. written old ++ t) (row_same row ∙ sym (text_of-one row));
}

-- The records of a text that is made of records are those records.
use Rattle.std.proofs.Common.{◌≡◌, ℕ, ◌+◌, ◌≤◌, ◌∙◌, Bool, true, false, cond, ◌&&◌, ◌==◌, List, [], ◌∷◌, ◌++◌, length, map, zero, suc, refl, ap, arith, All, append_assoc}
use Rattle.std.specs.List.{list_any}
use Rattle.std.proofs.lemmas.List.{length-append, append-nil}
use Rattle.std.proofs.lemmas.List.Concat.{flat_map-append}
use Rattle.std.proofs.lemmas.List.Elements.{All-head, All-tail}
use Rattle.csv.specs.Machine.{next_record}
use Rattle.csv.specs.Reading.{default_config, records_from, strip_bom, is_bom}
use Rattle.csv.specs.Writing.{default_writer, field_text, fields_text, needs_byte, escaped, is_blank, read_back, row_body, row_text}
use Rattle.csv.specs.declared.parser.State.TheVariants as st
use Rattle.csv.proofs.RoundTrip.{read-write}
use Rattle.world_text.specs.Records.{Record, records_in}
use Rattle.world_text.specs.Written.{IsReadBack, text_of}

-- the text of these records, and of one more
pub text_of-append : (rows more : List Record) → text_of (rows ++ more) ≡ text_of rows ++ text_of more
unfolding text_of
text_of-append rows more = flat_map-append (row_text default_writer) rows more

pub text_of-one : (row : Record) → text_of (row ∷ []) ≡ row_text default_writer row
unfolding text_of
text_of-one row = append-nil (row_text default_writer row)

-- as many records are read as there are, with any more turns
rows_read : (rows : List Record) (turns : ℕ) → length rows ≤ turns → records_from default_config turns st.StartRecord (text_of rows) ≡ map read_back rows
unfolding records_from next_record text_of
rows_read [] zero h = refl
rows_read [] (suc n) h = refl
rows_read (row ∷ rows) zero h = absurd (omega arith)
rows_read (row ∷ rows) (suc n) h = rw (read-write row (text_of rows)) (ap (λ (t : List Record). read_back row ∷ t) (rows_read rows n (omega arith)))

-- a record's text has a byte at least
row_shows : (row : Record) → 1 ≤ length (row_text default_writer row)
row_shows row =
    let marks : List ℕ = cond (is_blank default_writer row) (34 ∷ 34 ∷ []) [] in
    let line : List ℕ = 10 ∷ [] in
    omega (arith, length-append (row_body default_writer row) (marks ++ line), length-append marks line)

rows_fit : (rows : List Record) → length rows ≤ length (text_of rows)
unfolding text_of
rows_fit [] = omega arith
rows_fit (row ∷ rows) = omega (arith, row_shows row, rows_fit rows, length-append (row_text default_writer row) (text_of rows))

back : (rows : List Record) → All IsReadBack rows → map read_back rows ≡ rows
back [] h = refl
back (row ∷ rows) h = one row (All-head IsReadBack row rows h) (back rows (All-tail IsReadBack row rows h))
  where
    one : (row : Record) → IsReadBack row → map read_back rows ≡ rows → map read_back (row ∷ rows) ≡ row ∷ rows
    one [] h e = absurd h
    one (x ∷ xs) h e = ap (λ (t : List Record). (x ∷ xs) ∷ t) e

-- bytes that go on with a comma begin with a mark only if they do before it
both_false : (a b : Bool) → b ≡ false → (a && b) ≡ false
both_false true b e = e
both_false false b e = refl

stripped : (b : Bool) (a c d : ℕ) (rest tail : List ℕ) → cond b rest (a ∷ c ∷ d ∷ rest) ≡ a ∷ c ∷ d ∷ rest → cond b (rest ++ tail) (a ∷ c ∷ d ∷ (rest ++ tail)) ≡ a ∷ c ∷ d ∷ (rest ++ tail)
stripped true a c d rest tail e = absurd (omega (arith, ap length e))
stripped false a c d rest tail e = refl

unmarked : (x tail : List ℕ) → strip_bom x ≡ x → strip_bom (x ++ (44 ∷ tail)) ≡ x ++ (44 ∷ tail)
unfolding strip_bom
unmarked [] [] h = refl
unmarked [] (t ∷ []) h = refl
unmarked [] (t ∷ u ∷ tail) h = refl
unmarked (a ∷ []) [] h = refl
unmarked (a ∷ []) (t ∷ tail) h = rw (both_false (a == 0xEF) false refl) refl
unmarked (a ∷ b ∷ []) tail h = rw (both_false ((a == 0xEF) && (b == 0xBB)) false refl) refl
unmarked (a ∷ b ∷ c ∷ rest) tail h = stripped (is_bom a b c) a b c rest (44 ∷ tail) h

-- nor do bytes that begin with a quote
quote_unmarked : (xs : List ℕ) → strip_bom (34 ∷ xs) ≡ 34 ∷ xs
unfolding strip_bom
quote_unmarked [] = refl
quote_unmarked (a ∷ []) = refl
quote_unmarked (a ∷ b ∷ xs) = refl

field_unmarked : (x tail : List ℕ) → strip_bom x ≡ x → strip_bom (field_text default_writer x ++ (44 ∷ tail)) ≡ field_text default_writer x ++ (44 ∷ tail)
field_unmarked x tail h = by (list_any (needs_byte default_writer) x)
  where
    by : (b : Bool) → strip_bom (cond b (34 ∷ (escaped default_writer x ++ (34 ∷ []))) x ++ (44 ∷ tail)) ≡ cond b (34 ∷ (escaped default_writer x ++ (34 ∷ []))) x ++ (44 ∷ tail)
    by true = quote_unmarked ((escaped default_writer x ++ (34 ∷ [])) ++ (44 ∷ tail))
    by false = unmarked x tail h

text_unmarked : (rows : List Record) → All IsReadBack rows → strip_bom (text_of rows) ≡ text_of rows
unfolding strip_bom fields_text is_blank text_of
text_unmarked [] h = refl
text_unmarked (row ∷ rows) h = one row (All-head IsReadBack row rows h)
  where
    one : (row : Record) → IsReadBack row → strip_bom (row_text default_writer row ++ text_of rows) ≡ row_text default_writer row ++ text_of rows
    one [] h = absurd h
    one (x ∷ []) h = absurd h
    one (x ∷ y ∷ ys) h =
        let first : List ℕ = field_text default_writer x in
        let more : List ℕ = field_text default_writer y ++ fields_text default_writer ys in
        let e : row_text default_writer (x ∷ y ∷ ys) ++ text_of rows ≡ first ++ (44 ∷ (more ++ (10 ∷ text_of rows))) =
        append_assoc (first ++ (44 ∷ more)) (10 ∷ []) (text_of rows) ∙ append_assoc first (44 ∷ more) (10 ∷ text_of rows) in
        rw e (field_unmarked x (more ++ (10 ∷ text_of rows)) h)

pub text_says : (rows : List Record) → All IsReadBack rows → records_in (text_of rows) ≡ rows
unfolding records_in
text_says rows h =
    rw (text_unmarked rows h) (rows_read rows (length (text_of rows) + 1) (omega (arith, rows_fit rows)) ∙ back rows h)

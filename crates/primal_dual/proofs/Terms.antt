-- The terms of a table: the sizes of a part, of one more, of one written over.
use Rattle.std.proofs.Common.{◌≡◌, ℕ, ◌+◌, ◌-◌, ◌<◌, ◌≤◌, pos, List, [], ◌∷◌, ◌++◌, length, get_or, set, take, drop, unsigned_abs, ap, sym, subst, arith, length-set}
use Rattle.std.specs.Prelude.{slice_range}
use Rattle.std.specs.List.{All}
use Rattle.std.proofs.lemmas.List.Sums.{sum_by-take-le, sum_by-take-drop, sum_by-set, sum_by_more, sum_by_push}
use Rattle.std.proofs.lemmas.List.Elements.{All-set, All-push, All-weaker}
use Rattle.std.proofs.Math.Nat.{le_trans}
use Rattle.zero_one.specs.declared.rows.Row.{Row}
use Rattle.zero_one.specs.Rows.{weight_of, row_weight, KnowsItsVars}
use Rattle.zero_one.specs.declared.rows.Entry.{Entry}
use Rattle.bound_cert.specs.Sizes.{coefs_size}
use Rattle.primal_dual.specs.declared.table.Term.{Term}
use Rattle.primal_dual.specs.declared.table.Span.{Span}
use Rattle.primal_dual.specs.Tables.{terms_size, AreKnown, LiesWithin}

abbrev pub no_entry : Entry
no_entry = record { var = 0; coef = pos 0 }

-- the size of a term
abbrev pub size : Term → ℕ
size t = unsigned_abs t.coef

pub part_size : (terms : List Term) (begin end : ℕ) → terms_size (slice_range terms begin end) ≤ terms_size terms
part_size terms begin end =
    let front = sum_by-take-le size (drop begin terms) (end - begin) in
    let rest = sum_by-take-drop size terms begin in
    omega (arith, front, rest)

-- one more entry of a row
pub entry_more : (entries : List Entry) (i : ℕ) → i < length entries → coefs_size (take (i + 1) entries) ≡ coefs_size (take i entries) + unsigned_abs (get_or entries i no_entry).coef
entry_more entries i h = sum_by_more (λ (e : Entry). unsigned_abs e.coef) entries i no_entry h

-- a term at the end
pub size_push : (terms : List Term) (t : Term) → terms_size (terms ++ t ∷ []) ≡ terms_size terms + unsigned_abs t.coef
size_push terms t = sum_by_push size terms t

pub known_push : (others : ℕ) (terms : List Term) (t : Term) → AreKnown others terms → t.other < others → AreKnown others (terms ++ t ∷ [])
known_push others terms t known here = All-push (λ (t : Term). t.other < others) terms t known here

-- a term written over
pub size_set : (terms : List Term) (at : ℕ) (t : Term) → at < length terms → terms_size (set terms at t) ≤ terms_size terms + unsigned_abs t.coef
size_set terms at t h = omega (arith, sum_by-set size terms at t t h)

pub known_set : (others : ℕ) (terms : List Term) (at : ℕ) (t : Term) → t.other < others → AreKnown others terms → AreKnown others (set terms at t)
known_set others terms at t here known = All-set (λ (t : Term). t.other < others) terms at t here known

pub within_set : (terms : List Term) (at : ℕ) (t : Term) (spans : List Span) (line : ℕ) (span : Span) → LiesWithin (length terms) span → All (LiesWithin (length terms)) spans → All (LiesWithin (length (set terms at t))) (set spans line span)
within_set terms at t spans line span here within =
    subst (λ n. All (LiesWithin n) (set spans line span)) (sym (length-set terms at t)) (All-set (LiesWithin (length terms)) spans line span here within)

-- spans within some terms are within more of them
pub within_more : (m n : ℕ) (spans : List Span) → m ≤ n → All (LiesWithin m) spans → All (LiesWithin n) spans
within_more m n spans more within =
    All-weaker (LiesWithin m) (LiesWithin n) (λ span lies. (lies.0, le_trans lies.1 more)) spans within

-- one more row
pub row_more : (rows : List Row) (i : ℕ) (row : Row) → i < length rows → row ≡ get_or rows i row → weight_of (take i rows) + coefs_size row.entries ≤ weight_of (take (i + 1) rows)
row_more rows i row h is =
    let more = sum_by_more row_weight rows i row h in
    let weight : row_weight (get_or rows i row) ≡ row_weight row = ap row_weight (sym is) in
    omega (arith, more, weight)

pub row_knows : (n : ℕ) (rows : List Row) (i : ℕ) (row : Row) → i < length rows → row ≡ get_or rows i row → All (KnowsItsVars n) rows → KnowsItsVars n row
row_knows n rows i row h is known = subst (KnowsItsVars n) (sym is) (known i row h)

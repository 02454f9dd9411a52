-- How columns are filled, term by term and row by row.
use Rattle.std.proofs.Common.{◌≡◌, ℕ, ◌+◌, ◌^◌, ◌<◌, ◌≤◌, pos, unsigned_abs, List, [], ◌∷◌, ◌++◌, length, get_or, set, take, refl, subst, arith}
use Rattle.std.specs.List.{All}
use Rattle.std.proofs.lemmas.List.Elements.{All-nil, All-cons, All-append, All-set, All-weaker}
use Rattle.std.proofs.lemmas.List.Sums.{sum_by_push, sum_by_more}
use Rattle.zero_one.specs.declared.rows.Row.{Row}
use Rattle.zero_one.specs.Rows.{row_weight, weight_of}
use Rattle.bound_cert.specs.Sizes.{coefs_size}
use Rattle.dual_ascent.specs.declared.columns.Term.{Term}
use Rattle.dual_ascent.specs.Columns.{AreIn, AreLight, IsColumn}

-- the term past the end of a column
abbrev pub no_term : Term
no_term = record { row = 0; coef = pos 0 }

-- one term more in the column at a place
pub known_more : (rows : ℕ) (columns : List (List Term)) (v : ℕ) (d : List Term) (term : Term) → v < length columns → term.row < rows → All (AreIn rows) columns → All (AreIn rows) (set columns v (get_or columns v d ++ term ∷ []))
known_more rows columns v d term inside here all =
    let last : AreIn rows (term ∷ []) = All-cons (λ (t : Term). t.row < rows) term [] here (All-nil (λ (t : Term). t.row < rows)) in
    All-set (AreIn rows) columns v (get_or columns v d ++ term ∷ []) (All-append (λ (t : Term). t.row < rows) (get_or columns v d) (term ∷ []) (all v d inside) last) all

pub light_more : (size more : ℕ) (columns : List (List Term)) (v : ℕ) (d : List Term) (term : Term) → v < length columns → size + unsigned_abs term.coef ≤ more → All (AreLight size) columns → All (AreLight more) (set columns v (get_or columns v d ++ term ∷ []))
light_more size more columns v d term inside sizes all =
    let pushed = sum_by_push (λ (t : Term). unsigned_abs t.coef) (get_or columns v d) term in
    All-set (AreLight more) columns v (get_or columns v d ++ term ∷ []) (omega (arith, pushed, all v d inside, sizes))
    (All-weaker (AreLight size) (AreLight more) (λ column light. omega (arith, light, sizes)) columns all)

-- columns of this size are of any greater one
pub lighter : (size more : ℕ) (columns : List (List Term)) → size ≤ more → All (AreLight size) columns → All (AreLight more) columns
lighter size more columns less all = All-weaker (AreLight size) (AreLight more) (λ column light. omega (arith, light, less)) columns all

-- the coefficients of one row more
pub row_more : (rows : List Row) (i size : ℕ) (row : Row) → i < length rows → row ≡ get_or rows i row → size ≡ weight_of (take i rows) → size + coefs_size row.entries ≤ weight_of (take (i + 1) rows)
row_more rows i size row inside is sized =
    let more = sum_by_more row_weight rows i row inside in
    let here : row_weight (get_or rows i row) ≡ row_weight row = subst (λ (r : Row). row_weight r ≡ row_weight row) is refl in
    omega (arith, more, here, sized)

-- all rows have their terms in the columns
pub are_columns : (rows : ℕ) (columns : List (List Term)) (size : ℕ) → size ≤ 10 ^ 7 → All (AreIn rows) columns → All (AreLight size) columns → All (IsColumn rows) columns
are_columns rows columns size small known light = λ k d inside. record {
  known = known k d inside;
  light = omega (arith, light k d inside, small);
}

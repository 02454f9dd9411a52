-- A list with one line more: its places, and that each line in them was taken.
use Rattle.std.proofs.Common.{◌≡◌, ℕ, zero, suc, ◌<◌, ◌≤◌, ◌⊎◌, inl, inr, ℤ, ◌≤ℤ◌, ◌<ℤ◌, Bool, true, false, Some, List, [], ◌∷◌, ◌++◌, length, take, refl, sym, ap, ◌∙◌, subst, arith, length-append, T}
use Rattle.std.specs.Prelude.{slice_get, int_lt}
use Rattle.std.proofs.lemmas.Float.{T_from_true}
use Rattle.std.proofs.lemmas.Int.{by_lt_z}
use Rattle.std.proofs.lemmas.Bool.{cases_lt}
use Rattle.std.proofs.lemmas.List.{take-append-le}
use Rattle.std.proofs.lemmas.Option.{slice_get_within}
use Rattle.zero_one.specs.Contents.{Contents}
use Rattle.bound_cert.specs.declared.leaves.Line.{Line}
use Rattle.cert_checker.specs.Lines.{IsTaken, AreTaken}
use Rattle.cert_checker.proofs.Parsing.{get_here, take_here}

pub int_lt_true : (a b : ℤ) → int_lt a b ≡ true → a <ℤ b
int_lt_true a b e = record { lt = T_from_true (int_lt a b) e }

pub int_lt_false : (a b : ℤ) → int_lt a b ≡ false → b ≤ℤ a
int_lt_false a b e = by_lt_z a b (λ lt. absurd (let P : Bool → Type 0 = λ t. T t in subst P e lt.lt)) (λ ge. ge)

-- ---- the places of lines with one more

pub get_kept : {X : Type 0} (xs : List X) (x : X) (at : ℕ) → at < length xs → slice_get (xs ++ x ∷ []) at ≡ slice_get xs at
get_kept [] x at within = absurd (omega arith)
get_kept (y ∷ xs) x zero within = refl
get_kept (y ∷ xs) x (suc at) within = get_kept xs x at (omega arith)

-- a place of the longer list is one of the shorter, or the last
pub place : {X : Type 0} (xs : List X) (x : X) (at : ℕ) (y : X) → slice_get (xs ++ x ∷ []) at ≡ Some y → ((at < length xs) × (slice_get xs at ≡ Some y)) ⊎ ((at ≡ length xs) × (x ≡ y))
place xs x at y here =
    elim (cases_lt at (length xs)) [
      | inl lt ↦ inl (lt, sym (get_kept xs x at lt) ∙ here)
      | inr ge ↦
          let within = slice_get_within (xs ++ x ∷ []) at y here in
          let last : at ≡ length xs = omega (arith, within, length-append xs (x ∷ [])) in
          let e : Some x ≡ Some y = sym (get_here xs x []) ∙ ap (slice_get (xs ++ x ∷ [])) (sym last) ∙ here in
          inr (last, (cc))
    ]

pub AreTaken-push : (program : Contents) (lines : List Line) (line : Line) → AreTaken program lines → IsTaken program lines line → AreTaken program (lines ++ line ∷ [])
AreTaken-push program lines line taken next = λ at l here.
    elim (place lines line at l here) [
      | inl old ↦
          let short : at ≤ length lines = omega (arith, old.0) in
          let e : take at (lines ++ line ∷ []) ≡ take at lines = take-append-le at lines (line ∷ []) short in
          let P : List Line → Type 0 = λ ls. IsTaken program ls l in
          subst P (sym e) (taken at l old.1)
      | inr last ↦
          let e : lines ≡ take at (lines ++ line ∷ []) = sym (take_here lines line []) ∙ ap (λ n. take n (lines ++ line ∷ [])) (sym last.0) in
          let P : List Line → Type 0 = λ ls. IsTaken program ls l in
          let Q : Line → Type 0 = λ x. IsTaken program lines x in
          subst P e (subst Q last.1 next)
    ]

-- What a scan that found nothing says of all short leaves, and that what it finds fits.
use Rattle.std.proofs.Common.{◌≡◌, ℕ, zero, suc, ◌<◌, ◌≤◌, ◌^◌, Bool, true, false, Option, List, [], ◌∷◌, length, subst, sym, arith}
use Rattle.std.specs.Prelude.{IsTrue}
use Rattle.std.proofs.lemmas.List.Elements.{All-nil, All-cons, All-head}
use Rattle.zero_one.specs.declared.rows.Entry.{Entry}
use Rattle.zero_one.specs.Contents.{Contents}
use Rattle.bound_cert.specs.declared.leaves.Pair.{Pair}
use Rattle.bound_cert.specs.declared.leaves.Goal.{Goal}
use Rattle.bound_cert.specs.Leaves.{LeafFits}
use Rattle.bound_cert.specs.Closing.{HasShortForm}
use Rattle.dual_ascent.specs.Short.{EndsPath, NoShortEnds, NoRowRefutes, NoRowPrices, PriceEnds, no_row, one_row}

-- a test that failed isn't true
pub not_true : (b : Bool) → b ≡ false → IsTrue b → ⊥
not_true true e t = cc
not_true false e t = cc

pub fits_no_row : (program : Contents) (s : ℕ) → s ≤ 1 → LeafFits program (no_row s)
fits_no_row program s small =
    record {
      scale = omega arith;
      multipliers = All-nil (λ (pair : Pair). (1 ≤ pair.mult) × (pair.mult ≤ 10 ^ 30));
      rising = λ k h. absurd (omega arith);
      existing = All-nil (λ (pair : Pair). pair.row < length program.rows);
    }

pub fits_one_row : (program : Contents) (s : ℕ) (pair : Pair) → s ≤ 1 → 0 < pair.mult → pair.mult ≤ 10 ^ 24 → pair.row < length program.rows → LeafFits program (one_row s pair)
fits_one_row program s pair small some low exists =
    record {
      scale = omega arith;
      multipliers = All-cons (λ (pair : Pair). (1 ≤ pair.mult) × (pair.mult ≤ 10 ^ 30)) pair [] (omega arith, omega arith) (All-nil _);
      rising = λ k h. absurd (omega arith);
      existing = All-cons (λ (pair : Pair). pair.row < length program.rows) pair [] exists (All-nil _);
    }

-- a leaf of a short form that fits is one of those that were looked at
no_short : (program : Contents) (fixed : List (Option Bool)) (goal : Goal) → NoRowRefutes program fixed goal (length program.rows) → ¬ EndsPath program fixed goal (no_row 1) → NoRowPrices program fixed goal (length program.rows) → (s : ℕ) (pairs : List Pair) → LeafFits program (record { s = s; pairs = pairs }) → HasShortForm program s pairs → EndsPath program fixed goal (record { s = s; pairs = pairs }) → ⊥
no_short program fixed goal refutes costs prices zero [] fits form ends = form
no_short program fixed goal refutes costs prices zero (pair ∷ []) fits form ends =
    let exists : pair.row < length program.rows = All-head (λ (p : Pair). p.row < length program.rows) pair [] fits.existing in
    refutes pair.row exists (subst (λ (m : ℕ). EndsPath program fixed goal (one_row 0 (record { row = pair.row; mult = m }))) form ends)
no_short program fixed goal refutes costs prices zero (pair ∷ (next ∷ rest)) fits form ends = form
no_short program fixed goal refutes costs prices (suc zero) [] fits form ends = costs ends
no_short program fixed goal refutes costs prices (suc zero) (pair ∷ []) fits form ends =
    let exists : pair.row < length program.rows = All-head (λ (p : Pair). p.row < length program.rows) pair [] fits.existing in
    let range = All-head (λ (p : Pair). (1 ≤ p.mult) × (p.mult ≤ 10 ^ 30)) pair [] fits.multipliers in
    let Untaken : Entry → Type 0 = λ entry. ¬ PriceEnds program fixed goal pair.row entry in
    let untaken : Untaken form.1 = subst Untaken form.3 (prices pair.row exists form.0 form.1 form.2) in
    untaken (let e = form.4 in omega (arith, range.0), subst (λ (m : ℕ). EndsPath program fixed goal (one_row 1 (record { row = pair.row; mult = m }))) (sym form.4) ends)
no_short program fixed goal refutes costs prices (suc zero) (pair ∷ (next ∷ rest)) fits form ends = form
no_short program fixed goal refutes costs prices (suc (suc s)) pairs fits form ends = form

pub nothing_ends : (program : Contents) (fixed : List (Option Bool)) (goal : Goal) → NoRowRefutes program fixed goal (length program.rows) → ¬ EndsPath program fixed goal (no_row 1) → NoRowPrices program fixed goal (length program.rows) → NoShortEnds program fixed goal
nothing_ends program fixed goal refutes costs prices leaf short ends =
    no_short program fixed goal refutes costs prices leaf.s leaf.pairs short.fits short.form ends

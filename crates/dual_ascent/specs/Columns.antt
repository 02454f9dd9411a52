use Rattle.std.specs.Prelude.{ℕ, ◌<◌, ◌≤◌, ◌^◌, List, All, sum_by, unsigned_abs}
use Rattle.dual_ascent.specs.declared.columns.Term.{Term}

-- for how many variables there are columns, and in how many rows
pub record Extent : Type 0 where
  pub variables : ℕ
  pub rows : ℕ

-- the rows in which the terms stand are there
abbrev pub AreIn : ℕ → List Term → Type 0
AreIn rows terms = All (λ term. term.row < rows) terms

-- the absolute values of the coefficients, added up
abbrev pub terms_size : List Term → ℕ
terms_size terms = sum_by (λ term. unsigned_abs term.coef) terms

-- that is at most this
abbrev pub AreLight : ℕ → List Term → Type 0
AreLight size terms = terms_size terms ≤ size

-- the terms of one variable in a program of so many rows
pub record IsColumn (rows : ℕ) (terms : List Term) : Type 0 where
  pub known : AreIn rows terms
  pub light : AreLight (10 ^ 7) terms

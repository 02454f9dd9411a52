use Rattle.std.specs.Prelude.{ℕ, ◌<◌, ◌≤◌, ◌^◌, List, length, unsigned_abs, sum_by, All, slice_range}
use Rattle.primal_dual.specs.declared.table.Term.{Term}
use Rattle.primal_dual.specs.declared.table.Span.{Span}

-- the absolute values of the coefficients, added up
abbrev pub terms_size : List Term → ℕ
terms_size terms = sum_by (λ term. unsigned_abs term.coef) terms

-- the lines of the other side that the terms name are there
abbrev pub AreKnown : ℕ → List Term → Type 0
AreKnown others terms = All (λ term. term.other < others) terms

-- the span lies within so many terms
abbrev pub LiesWithin : ℕ → Span → Type 0
LiesWithin count span = (span.begin ≤ span.end) × (span.end ≤ count)

-- terms and the spans of lines in them, as they come from a program
pub record IsLaidOut (terms : List Term) (spans : List Span) (others : ℕ) : Type 0 where
  pub known : AreKnown others terms
  pub within : All (LiesWithin (length terms)) spans
  pub light : terms_size terms ≤ 10 ^ 7
  pub lines : length spans ≤ 16384
  pub few : others ≤ 16384

-- each line's coefficients are of at most this size
abbrev pub AreSized : List Term → ℕ → List Span → Type 0
AreSized terms size spans = All (λ span. terms_size (slice_range terms span.begin span.end) ≤ size) spans

-- a table of lines
pub record IsTable (terms : List Term) (spans : List Span) (others : ℕ) (size : ℕ) : Type 0 where
  pub laid : IsLaidOut terms spans others
  pub sized : AreSized terms size spans
  pub least : 1 ≤ size
  pub greatest : size ≤ 10 ^ 7

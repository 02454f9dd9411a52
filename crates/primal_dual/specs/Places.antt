use Rattle.std.specs.Prelude.{◌≡◌, ℕ, ◌^◌, ◌≤◌, ℤ, unsigned_abs, List, length, All}

-- where the anchors of a side stand, and where they stood when they were kept; the greatest place is the top
pub record Places : Type 0 where
  pub top : ℕ
  pub places : List ℕ
  pub kept : List ℕ

-- each place is within the top
abbrev pub AreWithin : ℕ → List ℕ → Type 0
AreWithin top places = All (λ place. place ≤ top) places

-- a force is held within 2^120
abbrev pub IsForce : ℤ → Type 0
IsForce force = unsigned_abs force ≤ 2 ^ 120

-- the anchors of a side
pub record AreAnchors (top : ℕ) (places : List ℕ) (kept : List ℕ) (forces : List ℤ) (still : ℕ) : Type 0 where
  pub high : top ≤ 2 ^ 100
  pub within : AreWithin top places
  pub kept_within : AreWithin top kept
  pub kept_count : length kept ≡ length places
  pub force_count : length forces ≡ length places
  pub forces_small : All IsForce forces
  pub still_count : still ≡ length places

-- the anchors have moved: as many stand below the same top, and what was kept stays
pub record HaveMoved (old new : Places) : Type 0 where
  pub top : new.top ≡ old.top
  pub count : length new.places ≡ length old.places
  pub kept : new.kept ≡ old.kept

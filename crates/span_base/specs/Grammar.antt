-- Where a text leaves a grammar. A grammar is a fact on texts, and a text the list of its bytes.
use Rattle.std.specs.Prelude.{ℕ, ◌+◌, ◌<◌, ◌≤◌, List, ◌++◌, length, take}

-- some text that begins so is of the grammar
abbrev pub CanGoOn : (List ℕ → Type 0) → List ℕ → Type 0
CanGoOn Grammar front = (rest : List ℕ) × Grammar (front ++ rest)

-- the text is not of the grammar, and this is the first place at which it can't go on: its
-- length where it ends too early
pub record BreaksAt (Grammar : List ℕ → Type 0) (text : List ℕ) (place : ℕ) : Type 0 where
  pub faulty : ¬ Grammar text
  pub within : place ≤ length text
  pub before : CanGoOn Grammar (take place text)
  pub there : place < length text → ¬ CanGoOn Grammar (take (place + 1) text)

-- Pieces of bytes that are given one after another.
use Rattle.std.specs.Prelude.{ℕ, List, [], ◌∷◌, drop}

-- what is left of pieces, where so many are passed and so many bytes of the next one are used
abbrev pub left_behind : ℕ → List (List ℕ) → List (List ℕ)
left_behind used [] = []
left_behind used (piece ∷ pieces) = drop used piece ∷ pieces

abbrev pub left_of : List (List ℕ) → ℕ → ℕ → List (List ℕ)
left_of pieces passed used = left_behind used (drop passed pieces)

-- without the pieces in front that have nothing left
abbrev pub trimmed : List (List ℕ) → List (List ℕ)
trimmed [] = []
trimmed ([] ∷ pieces) = trimmed pieces
trimmed ((byte ∷ piece) ∷ pieces) = (byte ∷ piece) ∷ pieces

-- the front piece, or nothing where there is none
abbrev pub front_of : List (List ℕ) → List ℕ
front_of [] = []
front_of (piece ∷ pieces) = piece

-- the first piece that has something left, or nothing where there is none
abbrev pub first_of : List (List ℕ) → List ℕ
first_of pieces = front_of (trimmed pieces)

-- the pieces without the first n bytes of the first one that has something left
abbrev pub without : ℕ → List (List ℕ) → List (List ℕ)
without n pieces = left_behind n (trimmed pieces)

-- pieces, and what is left of them
pub record HeldPieces : Type 0 where
  pub all : List (List ℕ)
  pub left : List (List ℕ)

-- What is left of a text that is read piece by piece.
use Rattle.std.specs.Prelude.{ℕ, ◌+◌, if◌then◌else◌, Bool, List, [], ◌∷◌, length, Option, Some, None}
use Rattle.std.specs.Borrow.{Bor}
use Rattle.schedule_text.specs.declared.words.Words.{Words}
use Rattle.schedule_text.specs.Words.{split_at, entries_of, first_of, behind}

-- the pieces that are left: none, where no byte ended the one before
abbrev pub pieces : ℕ → Option (Bor (List ℕ)) → List (List ℕ)
pieces byte None = []
pieces byte (Some text) = split_at byte text.now

-- how much is left: a text of no bytes is a piece too
abbrev pub bytes : Option (Bor (List ℕ)) → ℕ
bytes None = 0
bytes (Some text) = length text.now + 1

-- the words of the entries that are left; where words aren't joined, the line is one entry
abbrev pub entries_in : Bool → List (List ℕ) → List (List (List ℕ))
entries_in joined words = if joined then entries_of words else words ∷ []

abbrev pub entries : Words → List (List (List ℕ))
entries words = entries_in words.joined (pieces 32 words.rest)

-- the words that are left of the entry that is being read, and the entries behind it
abbrev pub entry : Words → List (List ℕ)
entry words = first_of (entries words)

abbrev pub beyond : Words → List (List (List ℕ))
beyond words = behind (entries words)

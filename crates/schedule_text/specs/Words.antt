-- How a text falls into lines, a line into words, and a word into parts.
use Rattle.std.specs.Prelude.{ℕ, ◌==◌, Bool, nat_eq, if◌then◌else◌, List, [], ◌∷◌, codes, Option, Some, None}
use Rattle.std.specs.Cmp.Lexicographic.{pointwise}

-- the pieces of which the first begins with this item
abbrev pub led_by : {A : Type 0} → A → List (List A) → List (List A)
led_by item [] = (item ∷ []) ∷ []
led_by item (piece ∷ pieces) = (item ∷ piece) ∷ pieces

-- the lines of a text, each ended by a line feed, which the last may lack
unfoldable pub lines_of : List ℕ → List (List ℕ)
lines_of [] = []
lines_of (c ∷ cs) = if c == 10 then [] ∷ lines_of cs else led_by c (lines_of cs)

-- the pieces of a list between the items that pass, one more than these
unfoldable pub split : {A : Type 0} → (A → Bool) → List A → List (List A)
split ends [] = [] ∷ []
split ends (item ∷ items) = if ends item then [] ∷ split ends items else led_by item (split ends items)

-- the pieces of a text between these bytes
abbrev pub split_at : ℕ → List ℕ → List (List ℕ)
split_at byte text = split (λ c. c == byte) text

-- the words of a line
abbrev pub words_of : List ℕ → List (List ℕ)
words_of line = split_at 32 line

-- the text is this word
abbrev pub is_word : List ℕ → List ℕ → Bool
is_word text word = pointwise nat_eq text word

-- the word that joins the entries of a table
abbrev pub is_joint : List ℕ → Bool
is_joint word = is_word word (codes ";")

-- the words of each entry of a table
abbrev pub entries_of : List (List ℕ) → List (List (List ℕ))
entries_of words = split is_joint words

-- so many pieces, and no more
abbrev pub one : List (List ℕ) → Option (List ℕ)
one [] = None
one (a ∷ []) = Some a
one (a ∷ b ∷ rest) = None

abbrev pub two : List (List ℕ) → Option (List ℕ × List ℕ)
two [] = None
two (a ∷ rest) = with_one a (one rest)
  where
    with_one : List ℕ → Option (List ℕ) → Option (List ℕ × List ℕ)
    with_one a None = None
    with_one a (Some b) = Some (a, b)

abbrev pub three : List (List ℕ) → Option (List ℕ × List ℕ × List ℕ)
three [] = None
three (a ∷ rest) = with_two a (two rest)
  where
    with_two : List ℕ → Option (List ℕ × List ℕ) → Option (List ℕ × List ℕ × List ℕ)
    with_two a None = None
    with_two a (Some (b, c)) = Some (a, b, c)

-- the first piece, and those behind it
abbrev pub first_of : {A : Type 0} → List (List A) → List A
first_of [] = []
first_of (piece ∷ pieces) = piece

abbrev pub behind : {A : Type 0} → List A → List A
behind [] = []
behind (item ∷ items) = items

-- How the line of a tree is read, and where a text that is none breaks.
use Rattle.std.specs.Prelude.{◌≡◌, ◌≢◌, ℕ, ◌+◌, ◌^◌, ◌<◌, ◌≤◌, ◌⊎◌, List, ◌++◌, length, take, drop, codes, slice_index, All, Result, Ok, Err, ⊤}
use Rattle.span_base.specs.Grammar.{BreaksAt}
use Rattle.span_base.specs.Number.{IsNumber, number_of}
use Rattle.bound_cert.specs.declared.leaves.Pair.{Pair}
use Rattle.bound_cert.specs.declared.leaves.Leaf.{Leaf}
use Rattle.bound_cert.specs.declared.leaves.Line.{Line}
use Rattle.bound_cert.specs.declared.leaves.Line.TheVariants.{Branch, Close}
use Rattle.bound_cert.specs.declared.read.LineFault.{LineFault}
use Rattle.bound_cert.specs.declared.read.LineFault.TheVariants.{Bad, NoMemory}
use Rattle.bound_cert.specs.declared.read.Number.{Number}
use Rattle.bound_cert.specs.Text.{line_text, HasShortMultipliers}

-- the row and the multiplier are ones that 38 digits can spell
abbrev pub IsSpellablePair : Pair → Type 0
IsSpellablePair pair = (pair.row < 10 ^ 38) × (pair.mult < 10 ^ 38)

-- each number of the line is one that 38 digits can spell, however far past its limit
abbrev pub IsSpellable : Line → Type 0
IsSpellable (Branch var) = var < 10 ^ 38
IsSpellable (Close end) = (end.s < 10 ^ 38) × All IsSpellablePair end.pairs

-- the ROW is within its limit
abbrev pub HasLowRow : Pair → Type 0
HasLowRow pair = pair.row ≤ 65535

-- the VAR, the S and each ROW of the line are within their limits
abbrev pub IsWithinRanges : Line → Type 0
IsWithinRanges (Branch var) = var ≤ 65535
IsWithinRanges (Close end) = (end.s ≤ 4294967295) × All HasLowRow end.pairs

-- the text has the shape of a line: it is that of one whose numbers may be past their limits
abbrev pub IsLineShape : List ℕ → Type 0
IsLineShape text = (shape : Line) × IsSpellable shape × (line_text shape ≡ text)

-- so many first bytes of the text are a number above the limit
abbrev pub BeginsAbove : ℕ → List ℕ → Type 0
BeginsAbove limit text =
    (count : ℕ) × (count ≤ length text) × IsNumber (take count text) × (limit < number_of (take count text))

-- the front of a line up to a row: its S, pairs and a space
abbrev pub IsBeforeRow : List ℕ → Type 0
IsBeforeRow front = (end : Leaf) × IsSpellable (Close end) × (line_text (Close end) ++ codes " " ≡ front)

-- at this place a number begins that is past its limit: the VAR of a branch, the S of a leaf, or a ROW of one
abbrev pub IsTooLargeAt : List ℕ → ℕ → Type 0
IsTooLargeAt text place =
    ((take place text ≡ codes "b ") × BeginsAbove 65535 (drop place text))
    ⊎ ((take place text ≡ codes "l ") × BeginsAbove 4294967295 (drop place text))
    ⊎ (IsBeforeRow (take place text) × BeginsAbove 65535 (drop place text))

-- the first place at which the text can't go on as a line, or a number begins that is past its limit
pub record IsFirstFault (text : List ℕ) (place : ℕ) : Type 0 where
  pub found : BreaksAt IsLineShape text place ⊎ IsTooLargeAt text place
  pub first : (earlier : ℕ) → earlier < place → ¬ BreaksAt IsLineShape text earlier × ¬ IsTooLargeAt text earlier

-- what reading a text as a line gives
abbrev pub ReadsLine : List ℕ → Result Line LineFault → Type 0
ReadsLine text (Ok line) = (line_text line ≡ text) × HasShortMultipliers line
ReadsLine text (Err (Bad place)) = IsFirstFault text place
ReadsLine text (Err (NoMemory error)) = ⊤

-- there was no memory
abbrev pub IsOutOfMemory : {T : Type 0} → Result T LineFault → Type 0
IsOutOfMemory (Ok value) = ⊥
IsOutOfMemory (Err (Bad place)) = ⊥
IsOutOfMemory (Err (NoMemory error)) = ⊤

-- the longest front of the text that is a number has so many bytes: none where no front is
pub record IsLongestNumber (text : List ℕ) (count : ℕ) : Type 0 where
  pub within : count ≤ length text
  pub number : 0 < count → IsNumber (take count text)
  pub longest : count < length text → ¬ IsNumber (take (count + 1) text)

-- the number found is the longest that begins at this place, and is within the limit
pub record IsNumberAt (text : List ℕ) (at limit : ℕ) (found : Number) : Type 0 where
  pub count : ℕ
  pub some : 0 < count
  pub end_is : found.end ≡ at + count
  pub longest : IsLongestNumber (drop at text) count
  pub value_is : found.value ≡ number_of (take count (drop at text))
  pub low : found.value ≤ limit

-- what seeking a number of at most the limit at this place gives: the longest, or that none begins there or one above the limit does
abbrev pub FindsNumber : List ℕ → ℕ → ℕ → Result Number LineFault → Type 0
FindsNumber text at limit (Ok found) = IsNumberAt text at limit found
FindsNumber text at limit (Err (Bad place)) =
    (place ≡ at) × (¬ IsNumber (take 1 (drop at text)) ⊎ BeginsAbove limit (drop at text))
FindsNumber text at limit (Err (NoMemory error)) = ⊥

-- what passing one given byte at this place gives: the place behind it, or that it doesn't stand there
abbrev pub PassesByte : List ℕ → ℕ → ℕ → Result ℕ LineFault → Type 0
PassesByte text at byte (Ok next) = (next ≡ at + 1) × (at < length text) × (slice_index text at ≡ byte)
PassesByte text at byte (Err (Bad place)) = (place ≡ at) × (at < length text → slice_index text at ≢ byte)
PassesByte text at byte (Err (NoMemory error)) = ⊥

-- What a disk holds: how it reads, and what a crash may leave of it.
use Rattle.std.specs.Prelude.{ℕ, ◌≡◌, ◌+◌, ◌≤◌, max, ⊤, List, [], ◌∷◌, ◌++◌, length, take, drop, Option, Some, None, Result, Ok, Err}
use Rattle.span_base.specs.Files.{GivesFrom}
use Rattle.span_base.specs.declared.sink.DeviceFault.{DeviceFault}
use Rattle.span_base.specs.declared.sink.DeviceFault.TheVariants as device
use Rattle.replica_journal.specs.declared.disk.Failed.{Failed}

-- What happened to a disk. A write of so many bytes at a place put these bytes there: all of its
-- piece, or after a fault any bytes, no more than it was to write. Or what was written is safe.
pub data Change : Type 0 where
  Wrote : ℕ → ℕ → List ℕ → Change
  Synced : Change

-- all that happened to a disk that was empty at first, the latest change first
abbrev pub History : Type 0
History = List Change

-- bytes with a piece in the place of those that stood there, or behind them
abbrev pub put : List ℕ → ℕ → List ℕ → List ℕ
put bytes at piece = take at bytes ++ piece ++ drop (at + length piece) bytes

-- what a read gives
abbrev pub bytes_of : History → List ℕ
bytes_of [] = []
bytes_of (Wrote at size landed ∷ history) = put (bytes_of history) at landed
bytes_of (Synced ∷ history) = bytes_of history

-- after a write that a crash cuts short: any bytes in its range and past the old end, the others as they were
pub record Torn (at size : ℕ) (old new : List ℕ) : Type 0 where
  pub before : take at new ≡ take at old
  pub after : drop (at + size) new ≡ drop (at + size) old
  pub no_shorter : length old ≤ length new
  pub no_longer : length new ≤ max (length old) (at + size)

-- What a crash may leave: what was safe, and each write since then cut short.
abbrev pub IsImage : History → List ℕ → Type 0
IsImage [] image = image ≡ []
IsImage (Wrote at size landed ∷ history) image = (old : List ℕ) × IsImage history old × Torn at size old image
IsImage (Synced ∷ history) image = image ≡ bytes_of history

-- each write began within the bytes that there were, and put down no more than it was to write
abbrev pub IsLawfulHistory : History → Type 0
IsLawfulHistory [] = ⊤
IsLawfulHistory (Wrote at size landed ∷ history) = (at ≤ length (bytes_of history)) × (length landed ≤ size) × IsLawfulHistory history
IsLawfulHistory (Synced ∷ history) = IsLawfulHistory history

-- what was written is safe
abbrev pub synced : History → History
synced [] = []
synced (Wrote at size landed ∷ history) = Synced ∷ Wrote at size landed ∷ history
synced (Synced ∷ history) = Synced ∷ history

-- the history goes on from an earlier one
abbrev pub GoesOn : History → History → Type 0
GoesOn earlier later = (changes : List Change) × (later ≡ changes ++ earlier)

-- whatever a crash leaves at each moment from the earlier history to the later one has P
abbrev pub AtEachMoment : History → History → (List ℕ → Type 0) → Type 0
AtEachMoment earlier later P = (moment : History) → GoesOn earlier moment → GoesOn moment later → (image : List ℕ) → IsImage moment image → P image

-- the place is within the bytes, where they are told
abbrev pub IsWithin : Option History → ℕ → Type 0
IsWithin None at = ⊤
IsWithin (Some history) at = at ≤ length (bytes_of history)

-- the number of the bytes, where they are told
abbrev pub TellsLength : Option History → Result ℕ Failed → Type 0
TellsLength None result = ⊤
TellsLength (Some history) (Ok n) = n ≡ length (bytes_of history)
TellsLength (Some history) (Err failed) = ⊤

-- the buffer's first bytes are those from this place on, where they are told
abbrev pub TellsFrom : Option History → ℕ → List ℕ → Result ℕ Failed → Type 0
TellsFrom None at buf result = ⊤
TellsFrom (Some history) at buf (Ok n) = GivesFrom (bytes_of history) at buf n
TellsFrom (Some history) at buf (Err failed) = ⊤

-- what a write of this piece leaves: after a fault some bytes may have landed
abbrev pub Writes : Option History → Option History → ℕ → List ℕ → Result (Unit {0}) DeviceFault → Type 0
Writes None new at piece result = new ≡ None
Writes (Some history) new at piece (Ok done) = new ≡ Some (Wrote at (length piece) piece ∷ history)
Writes (Some history) new at piece (Err device.Failed) =
    (landed : List ℕ) × (length landed ≤ length piece) × (new ≡ Some (Wrote at (length piece) landed ∷ history))
Writes (Some history) new at piece (Err device.NoMemory) = new ≡ Some history

-- what a sync leaves
abbrev pub Syncs : Option History → Option History → Result (Unit {0}) Failed → Type 0
Syncs None new result = new ≡ None
Syncs (Some history) new (Ok done) = new ≡ Some (synced history)
Syncs (Some history) new (Err failed) = new ≡ Some history

-- How long a line may be.
use Rattle.std.specs.Prelude.{ℕ, ◌<◌, ◌≤◌, Result, Ok, Err}
use Rattle.shelf_lines.specs.declared.limits.LinesFault.{LinesFault}
use Rattle.shelf_lines.specs.declared.limits.LinesFault.TheVariants.{LineTooLong, FileTooLarge}

-- a line of `len` bytes that goes on `end` bytes far is within both limits; or it has a byte past the
-- file's, and is no longer than a line may be up to there; or it is longer, within the file's limit
abbrev pub Allows : ℕ → ℕ → ℕ → ℕ → Result (Unit {0}) LinesFault → Type 0
Allows line room len end (Ok done) = (len ≤ line) × (end ≤ room)
Allows line room len end (Err FileTooLarge) = (room ≤ line) × (room ≤ len) × (room < end)
Allows line room len end (Err LineTooLong) = (line < room) × (line < len)
Allows line room len end (Err other) = ⊥

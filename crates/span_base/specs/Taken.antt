-- What a sink has taken.
use Rattle.std.specs.Prelude.{ℕ, ◌≡◌, ◌<◌, List, ◌++◌, length, take, option_map, Option, Result, Ok, Err}
use Rattle.span_base.specs.declared.sink.DeviceFault.{DeviceFault}

-- the bytes taken, where they are told, are the old ones and then this piece
abbrev pub Appends : Option (List ℕ) → Option (List ℕ) → List ℕ → Type 0
Appends old new piece = new ≡ option_map (λ taken. taken ++ piece) old

-- the bytes taken, where they are told, are the old ones and then a front of this piece, but not all of it
abbrev pub AppendsFront : Option (List ℕ) → Option (List ℕ) → List ℕ → Type 0
AppendsFront old new piece = (n : ℕ) × (n < length piece) × Appends old new (take n piece)

-- a write that answers n took the first n bytes of the piece, and one that fails took none
abbrev pub Takes : Option (List ℕ) → Option (List ℕ) → List ℕ → Result ℕ DeviceFault → Type 0
Takes old new piece (Ok n) = Appends old new (take n piece)
Takes old new piece (Err fault) = new ≡ old

-- What a part of the reader of lines answers.
use Rattle.std.specs.Prelude.{ℕ, ◌≡◌, List, Result, Ok, Err}
use Rattle.slo_rules.specs.PolicyLines.{Reading}

-- what was read, and the bytes that are left, are what reading gives
abbrev pub Gives : {X : Type 0} → Result X ℕ → List ℕ → Reading X → Type 0
Gives (Ok x) rest reading = reading ≡ Ok (x, rest)
Gives (Err left) rest reading = reading ≡ Err left

-- the bytes that are left are what passing gives
abbrev pub Passes : Result (Unit {0}) ℕ → List ℕ → Result (List ℕ) ℕ → Type 0
Passes (Ok u) rest passing = passing ≡ Ok rest
Passes (Err left) rest passing = passing ≡ Err left

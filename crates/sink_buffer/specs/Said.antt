-- What a buffer in front of a sink passes on.
use Rattle.std.specs.Prelude.{ℕ, ◌≡◌, ◌++◌, List, [], Option, Result, Ok, Err}
use Rattle.span_base.specs.Taken.{Appends}
use Rattle.span_base.specs.declared.sink.DeviceFault.{DeviceFault}

-- what the sink took since `from`, and then what is kept, is this text
pub record IsSaid (from now : Option (List ℕ)) (kept text : List ℕ) : Type 0 where
  pub sent : List ℕ
  pub taken : Appends from now sent
  pub text_is : text ≡ sent ++ kept

-- what the sink took since `from` is a front of this text
pub record IsFrontTaken (from now : Option (List ℕ)) (text : List ℕ) : Type 0 where
  pub sent : List ℕ
  pub rest : List ℕ
  pub taken : Appends from now sent
  pub text_is : text ≡ sent ++ rest

-- a call passed on what makes this text: all of it is said; where it failed, a front of it was taken
abbrev pub Says : Option (List ℕ) → Option (List ℕ) → List ℕ → List ℕ → Result (Unit {0}) DeviceFault → Type 0
Says from now kept text (Ok done) = IsSaid from now kept text
Says from now kept text (Err fault) = IsFrontTaken from now text

-- a call handed over all that was kept: nothing is kept, and the sink took the whole text; where it
-- failed, the sink took a front of it
abbrev pub Flushes : Option (List ℕ) → Option (List ℕ) → List ℕ → List ℕ → Result (Unit {0}) DeviceFault → Type 0
Flushes from now kept text (Ok done) = (kept ≡ []) × Appends from now text
Flushes from now kept text (Err fault) = IsFrontTaken from now text

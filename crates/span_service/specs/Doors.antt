-- What a door tells: the connections that are still to come, and those that it had.
use Rattle.std.specs.Prelude.{ℕ, ◌≡◌, List, [], ◌∷◌, ◌++◌, Option, Some, None, Result, Ok, Err}
use Rattle.replica_journal.specs.declared.disk.Failed.{Failed}

-- a connection: the bytes that it had to give and those that were taken, and the door's count of faults when it
-- came and when it went
pub record Visit : Type 0 where
  pub had : Option (List ℕ)
  pub took : Option (List ℕ)
  pub before : ℕ
  pub after : ℕ

-- the present connection: the bytes that it had to give, and the count of faults when it came
pub record Present : Type 0 where
  pub had : List ℕ
  pub before : ℕ

-- the connections to come, each by its bytes, those that ended, and the present one
pub record Told : Type 0 where
  pub waiting : List (List ℕ)
  pub ended : List Visit
  pub present : Option Present

-- what is around the present connection of a door: what the door tells, if it does, and how often it failed to
-- accept a connection
pub record Around : Type 0 where
  pub told : Option Told
  pub refusals : ℕ

-- of what is no door
abbrev pub no_door : Around
no_door = record { told = None; refusals = 0 }

abbrev pub present_visit : Option Present → Option (List ℕ) → ℕ → List Visit
present_visit None taken faults = []
present_visit (Some present) taken faults = record { had = Some present.had; took = taken; before = present.before; after = faults } ∷ []

-- all connections that the door had, where the present one took these bytes and the door failed so often
abbrev pub visits_of : Told → Option (List ℕ) → ℕ → List Visit
visits_of told taken faults = told.ended ++ present_visit told.present taken faults

-- the first connection to come is present now, and nothing is taken of it
pub record IsNext (told : Told) (taken : Option (List ℕ)) (faults : ℕ) (coming' taken' : Option (List ℕ)) (told' : Option Told) : Type 0 where
  pub first : List ℕ
  pub rest : List (List ℕ)
  pub came : told.waiting ≡ first ∷ rest
  pub coming : coming' ≡ Some first
  pub fresh : taken' ≡ Some []
  pub now : told' ≡ Some (record { waiting = rest; ended = visits_of told taken faults; present = Some (record { had = first; before = faults }) })

-- a connection was accepted by a door that told this, or nothing changed
abbrev pub Accepts : Option Told → Option (List ℕ) → Option (List ℕ) → ℕ → Option (List ℕ) → Option (List ℕ) → Option Told → Result (Unit {0}) Failed → Type 0
Accepts None coming taken faults coming' taken' told' (Ok done) = told' ≡ None
Accepts (Some told) coming taken faults coming' taken' told' (Ok done) = IsNext told taken faults coming' taken' told'
Accepts told coming taken faults coming' taken' told' (Err failed) = (told' ≡ told) × (coming' ≡ coming) × (taken' ≡ taken)

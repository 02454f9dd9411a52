-- What is left to a reader of the events of a restart run.
use Rattle.std.specs.Prelude.{◌≡◌, ℕ, ◌+◌, List, [], ◌∷◌, Option, Some, None, Result, Ok, Err}
use Rattle.schedule_text.specs.declared.kept_event.KeptEvent.{KeptEvent}

-- the events that are left, and the line of the one that was given last
pub record KeptLeft : Type 0 where
  pub events : List KeptEvent
  pub line : ℕ

-- the next event was given, the first of those that were left; or none was left; where memory lacks, all are left
abbrev pub GivesNextKept : {E : Type 0} → KeptLeft → KeptLeft → Result (Option KeptEvent) E → Type 0
GivesNextKept old new (Ok (Some event)) = (old.events ≡ event ∷ new.events) × (new.line ≡ old.line + 1)
GivesNextKept old new (Ok None) = (old.events ≡ []) × (new ≡ old)
GivesNextKept old new (Err error) = new ≡ old

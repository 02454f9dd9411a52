-- What is left to a reader of events.
use Rattle.std.specs.Prelude.{◌≡◌, ℕ, ◌+◌, List, [], ◌∷◌, Option, Some, None, Result, Ok, Err}
use Rattle.world_core.specs.declared.event.Event.{Event}

-- the events that are left, and the line of the one that was given last
pub record Left : Type 0 where
  pub events : List Event
  pub line : ℕ

-- the next event was given, the first of those that were left; or none was left; where memory lacks, all are left
abbrev pub GivesNext : {E : Type 0} → Left → Left → Result (Option Event) E → Type 0
GivesNext old new (Ok (Some event)) = (old.events ≡ event ∷ new.events) × (new.line ≡ old.line + 1)
GivesNext old new (Ok None) = (old.events ≡ []) × (new ≡ old)
GivesNext old new (Err error) = new ≡ old

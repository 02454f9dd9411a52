-- How a step ends over replicas in memory, which keep no journal and never fail.
use Rattle.std.specs.Prelude.{◌≡◌, ◌+◌, List, Result, Ok, Err}
use Rattle.run_marks.specs.declared.mark.Mark.{Mark}
use Rattle.world_core.specs.declared.event.StepFault.{StepFault}
use Rattle.world_core.specs.declared.event.StepFault.TheVariants.{Taker, NoMemory}
use Rattle.world_core.specs.Step.{Happening, Outcome}
use Rattle.world_core.specs.Ends.{Seen}

-- the event is taken as the definition takes it
pub record Happens (old new : Seen) (outcome : Outcome) (marks : List Mark) : Type 0 where
  pub happening : Happening
  pub taken : outcome ≡ Ok happening
  pub marks_are : marks ≡ happening.marks
  pub store_is : new.store ≡ happening.store
  pub events_are : new.events ≡ old.events + 1

-- the event is taken where the definition takes it, and refused as the definition refuses it; only
-- want of memory, which changes nothing, may keep one from being taken
abbrev pub EndsInMemory : Seen → Seen → Outcome → Result (List Mark) StepFault → Type 0
EndsInMemory old new outcome (Ok marks) = Happens old new outcome marks
EndsInMemory old new outcome (Err (Taker fault)) = ⊥
EndsInMemory old new outcome (Err (NoMemory error)) = new ≡ old
EndsInMemory old new outcome (Err fault) = (outcome ≡ Err fault) × (new ≡ old)

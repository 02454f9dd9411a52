-- What `check` does with the files of a world and a plan, and a sink.
use Rattle.std.specs.Prelude.{◌≡◌, ℕ, ◌⊎◌, List, Option, Result, Ok, Err}
use Rattle.span_base.specs.Files.{Files}
use Rattle.workload.specs.World.{Lists, IsComplete, IsNamed}
use Rattle.plan_check.specs.Plans.{ChecksPlan}
use Rattle.plan_check.specs.declared.fault.CheckFault.{CheckFault}
use Rattle.plan_check.specs.declared.fault.CheckFault.TheVariants as fault
use Rattle.span_top.specs.declared.status.Status.{Status}
use Rattle.span_top.specs.declared.status.Status.TheVariants.{Done, NoMemory, Absent, BadInput, Refused, ReadFault, WriteFault, TooLarge}
use Rattle.span_top.specs.WorldFile.{FileSays, RefusesWorld}
use Rattle.span_top.specs.Planned.{TakesNothing}

-- the first file is a world, complete and with names, and the check of a plan of it ends so
pub record ChecksWorld (files : Option Files) (world plan : List ℕ) (old new : Option (List ℕ)) (result : Result (Unit {0}) CheckFault) : Type 0 where
  pub lists : Lists
  pub file : FileSays files world (Ok lists)
  pub complete : IsComplete lists
  pub named : IsNamed lists
  pub checks : ChecksPlan lists files plan old new result

-- what is told of a plan that isn't accepted: its file is the second
abbrev pub told : CheckFault → Status
told fault.Absent = Absent 1
told fault.ReadFault = ReadFault
told (fault.TooLarge line what number) = TooLarge 1 line what number
told (fault.Bad line cause) = BadInput 1 line cause
told (fault.Refused line cause) = Refused line cause
told fault.WriteFault = WriteFault
told fault.NoMemory = NoMemory

-- the check stops at a fault of the plan, of which this is told
abbrev pub StopsCheck : Option Files → List ℕ → List ℕ → Option (List ℕ) → Option (List ℕ) → Status → Type 0
StopsCheck files world plan old new status =
    (broken : CheckFault) × (status ≡ told broken) × ChecksWorld files world plan old new (Err broken)

-- how `check` ends with the files of these names, and what the sink took. At `Done` the plan is accepted: each policy in it is least, and each set
-- without one has none
abbrev pub CheckEnds : Option Files → List ℕ → List ℕ → Option (List ℕ) → Option (List ℕ) → Status → Type 0
CheckEnds files world plan old new Done = ChecksWorld files world plan old new (Ok tt)
CheckEnds files world plan old new other = (RefusesWorld files world other × TakesNothing old new) ⊎ StopsCheck files world plan old new other

-- how `check` ends with a world, which some file says, and what the sink took
abbrev pub WorldChecked : Lists → Option Files → List ℕ → Option (List ℕ) → Option (List ℕ) → Status → Type 0
WorldChecked w files plan old new status = (world : List ℕ) → FileSays files world (Ok w) → CheckEnds files world plan old new status

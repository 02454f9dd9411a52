-- How the serving of a replica ends.
use Rattle.std.specs.Prelude.{ℕ, ◌≡◌, ◌⊎◌, ⊤, List, length, Option, Some, None}
use Rattle.span_base.specs.Taken.{Appends}
use Rattle.wire_msg.specs.declared.message.Message.{Message}
use Rattle.replica_core.specs.Rule.{State, opening_state}
use Rattle.replica_journal.specs.declared.open_fault.OpenCause.{OpenCause}
use Rattle.replica_journal.specs.declared.open_fault.OpenCause.TheVariants as cause
use Rattle.replica_journal.specs.Disk.{History, IsImage, bytes_of}
use Rattle.replica_journal.specs.Records.{HasRecords, IsDamagedAt, Keeps, state_after}
use Rattle.span_service.specs.declared.serve_status.ServeStatus.{ServeStatus}
use Rattle.span_service.specs.declared.serve_status.ServeStatus.TheVariants as status
use Rattle.span_service.specs.declared.visit_fault.VisitFault.{VisitFault}
use Rattle.span_service.specs.declared.visit_fault.VisitFault.TheVariants as visit
use Rattle.span_service.specs.declared.plan.Plan.{Plan}
use Rattle.span_service.specs.Words.{plan_of}
use Rattle.span_service.specs.Visits.{Scene, AreVisited, opening_line}

-- the number with which the program ends
abbrev pub code_of : ServeStatus → ℕ
code_of status.Done = 0
code_of status.NoMemory = 1
code_of status.Usage = 2
code_of status.WriteFault = 10
code_of status.DiskFault = 17
code_of status.DoorFault = 18
code_of (status.Damaged at) = 19
code_of (status.Full bytes) = 20

-- where the journal wasn't opened
abbrev pub refusal : OpenCause → ServeStatus
refusal (cause.NoMemory error) = status.NoMemory
refusal cause.DiskFault = status.DiskFault
refusal (cause.Damaged at) = status.Damaged at

-- where not all connections were served
abbrev pub ended : VisitFault → ServeStatus
ended (visit.NoMemory error) = status.NoMemory
ended visit.WriteFault = status.WriteFault
ended visit.DiskFault = status.DiskFault
ended visit.DoorFault = status.DoorFault
ended (visit.Full bytes) = status.Full bytes

-- the disk reads as so many records, which make this state of a replica of the number with so many keys
abbrev pub IsFound : Option History → ℕ → ℕ → State → ℕ → Type 0
IsFound None number keys state records = ⊤
IsFound (Some history) number keys state records =
    (messages : List Message) × HasRecords keys (bytes_of history) messages × (records ≡ length messages) × (state ≡ state_after (opening_state number keys) messages)

-- whatever a crash leaves of the disk keeps the state of a replica of the number with so many keys
abbrev pub IsKeptSafe : Option History → ℕ → ℕ → State → Type 0
IsKeptSafe None number keys state = ⊤
IsKeptSafe (Some history) number keys state = (image : List ℕ) → IsImage history image → Keeps number keys image state

-- the first line was written, and all connections were served, each from the state that the last one left
pub record IsWritten (plan : Plan) (records : ℕ) (start finish : State) (old new : Scene) (out out' : Option (List ℕ)) : Type 0 where
  pub told : Option (List ℕ)
  pub opened : Appends out told (opening_line plan.replica records)
  pub visits : AreVisited plan.keys start finish old new told out' plan.conns

-- so a replica in this state, with so many records, served them, and the disk is safe
pub record IsServedBy (plan : Plan) (start : State) (records : ℕ) (disk' : Option History) (old new : Scene) (out out' : Option (List ℕ)) : Type 0 where
  pub finish : State
  pub written : IsWritten plan records start finish old new out out'
  pub kept : IsKeptSafe disk' plan.replica plan.keys finish

-- the journal was opened, and all connections were served
pub record IsAllServed (plan : Plan) (disk disk' : Option History) (old new : Scene) (out out' : Option (List ℕ)) : Type 0 where
  pub start : State
  pub records : ℕ
  pub found : IsFound disk plan.replica plan.keys start records
  pub served : IsServedBy plan start records disk' old new out out'

abbrev pub IsDone : Option Plan → Option History → Option History → Scene → Scene → Option (List ℕ) → Option (List ℕ) → Type 0
IsDone None disk disk' old new out out' = ⊥
IsDone (Some plan) disk disk' old new out out' = IsAllServed plan disk disk' old new out out'

-- the disk was damaged at this place
abbrev pub IsDamaged : Option Plan → Option History → ℕ → Type 0
IsDamaged None disk at = ⊥
IsDamaged (Some plan) None at = ⊤
IsDamaged (Some plan) (Some history) at = IsDamagedAt plan.keys (bytes_of history) at

-- a run of these words ends with this number: that of a status which is `Usage` only where the words are of another
-- form, and always there unless memory was wanting
pub record RunEnds (words : List (List ℕ)) (code : ℕ) : Type 0 where
  pub answer : ServeStatus
  pub code_is : code ≡ code_of answer
  pub usage : answer ≡ status.Usage → plan_of words ≡ None
  pub strange : plan_of words ≡ None → (answer ≡ status.Usage) ⊎ (answer ≡ status.NoMemory)

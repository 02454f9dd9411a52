-- What the whole program does.
use Rattle.std.specs.Prelude.{◌≡◌, ℕ, List, Option, Some, None}
use Rattle.span_base.specs.Files.{Files}
use Rattle.span_node.specs.Traffic.{Traffic}
use Rattle.span_top.specs.Words.{Asked, a_plan, a_check, a_replay, a_kept_replay, an_audit, a_loop, a_run_of, command_of}
use Rattle.span_top.specs.Planned.{PlanEnds}
use Rattle.span_top.specs.Audited.{AuditEnds}
use Rattle.span_top.specs.Generated.{GenEnds}
use Rattle.span_top.specs.Replayed.{ReplayCommandEnds, ReplayKeptEnds}
use Rattle.span_top.specs.Checked.{CheckEnds}
use Rattle.span_top.specs.Looped.{LoopCommandEnds, DoesNothing, untold}
use Rattle.span_top.specs.Codes.{code_of}
use Rattle.span_top.specs.declared.status.Status.{Status}
use Rattle.span_top.specs.declared.status.Status.TheVariants.{Done, NoMemory, Usage, ReadFault, WriteFault}

-- how a run ends, by what its words ask for, over files, what the sink took, and what the link told before and tells; only `loop`
-- asks the link
abbrev pub Ends : Option Asked → Option Files → Option (List ℕ) → Option (List ℕ) → Traffic → Traffic → Status → Type 0
Ends None files old new from now status = (status ≡ Usage) × DoesNothing old new from now
Ends (Some (a_plan name budget)) files old new from now status = PlanEnds files name budget old new status × (now ≡ from)
Ends (Some (a_check world plan)) files old new from now status = CheckEnds files world plan old new status × (now ≡ from)
Ends (Some (a_replay name)) files old new from now status = ReplayCommandEnds files name old new status × (now ≡ from)
Ends (Some (a_kept_replay name)) files old new from now status = ReplayKeptEnds files name old new status × (now ≡ from)
Ends (Some (an_audit name)) files old new from now status = AuditEnds files name old new status × (now ≡ from)
Ends (Some (a_loop name)) files old new from now status = LoopCommandEnds files name old new from now status
Ends (Some (a_run_of calls)) files old new from now status = GenEnds calls old new status × (now ≡ from)

-- how a run of these words ends over files, what the sink took, and what the link told before and tells
abbrev pub SpanEnds : List (List ℕ) → Option Files → Option (List ℕ) → Option (List ℕ) → Traffic → Traffic → Status → Type 0
SpanEnds words files old new from now status = Ends (command_of words) files old new from now status

-- a run of these words ends with this number: that of a status with which it may end over files, a
-- sink and a link that tell nothing
pub record RunEnds (words : List (List ℕ)) (code : ℕ) : Type 0 where
  pub status : Status
  pub code_is : code ≡ code_of status
  pub ends : SpanEnds words None None None untold untold status

-- all was done, or the outside kept it from being done: there was no memory, or a read or a write failed, which `span` tells only where its count rose
abbrev pub IsDoneOrFailed : Status → Type 0
IsDoneOrFailed Done = Unit {0}
IsDoneOrFailed NoMemory = Unit {0}
IsDoneOrFailed ReadFault = Unit {0}
IsDoneOrFailed WriteFault = Unit {0}
IsDoneOrFailed other = ⊥

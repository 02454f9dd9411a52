-- What `plan` wrote, `check` accepts, as a law over all worlds.
use Rattle.std.specs.Prelude.{◌≡◌, ℕ, ◌≤◌, List, [], length, Option, Some}
use Rattle.span_base.specs.Files.{Files, file_of}
use Rattle.span_top.specs.declared.status.Status.{Status}
use Rattle.span_top.specs.declared.status.Status.TheVariants.{Done, NoPolicy}
use Rattle.span_top.specs.Words.{a_plan, a_check, command_of}
use Rattle.span_node.specs.Traffic.{Traffic}
use Rattle.span_top.specs.Spans.{SpanEnds, IsDoneOrFailed}

-- each set was planned to its end: all have a policy, or one is told to have none
abbrev pub IsPlanned : Status → Type 0
IsPlanned Done = Unit {0}
IsPlanned (NoPolicy set) = Unit {0}
IsPlanned other = ⊥

-- a run of `plan` over these files, with the world in the file of this name, planned each set to its end and wrote this text
pub record WrotePlan (files : Files) (world text : List ℕ) : Type 0 where
  pub words : List (List ℕ)
  pub budget : ℕ
  pub asked : command_of words ≡ Some (a_plan world budget)
  pub status : Status
  pub from : Traffic
  pub now : Traffic
  pub planned : IsPlanned status
  pub ends : SpanEnds words (Some files) (Some []) (Some text) from now status

-- what `plan` wrote to the end, in at most 4,294,967,295 bytes, is not refused by a `check` over any files that have it and the same world
abbrev pub WrittenPlansAreAccepted : Type 0
WrittenPlansAreAccepted =
    (before files : Files) (world plan text : List ℕ) → WrotePlan before world text → length text ≤ 4294967295
    → file_of world files ≡ file_of world before → file_of plan files ≡ Some text
    → (words : List (List ℕ)) → command_of words ≡ Some (a_check world plan)
    → (old new : Option (List ℕ)) (from now : Traffic) (status : Status) → SpanEnds words (Some files) old new from now status → IsDoneOrFailed status

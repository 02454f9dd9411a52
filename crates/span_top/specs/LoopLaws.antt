-- What is true of every loop.
use Rattle.std.specs.Prelude.{◌≡◌, ℕ, ◌≤◌, true, List, [], length, Option, Some, Ok}
use Rattle.span_base.specs.Files.{Files, file_of}
use Rattle.schedule_text.specs.declared.setting.Form.TheVariants.{Script}
use Rattle.schedule_text.specs.Schedules.{Schedule, schedule_of}
use Rattle.frame_link.specs.Frames.{Sent}
use Rattle.span_node.specs.Traffic.{Traffic, IsFresh}
use Rattle.span_node.specs.Meeting.{IsMet}
use Rattle.span_node.specs.WholeLoops.{IsTakenInOrder, IsTakenAsAnswered}
use Rattle.span_top.specs.declared.status.Status.{Status}
use Rattle.span_top.specs.declared.status.Status.TheVariants.{NoMemory, ReadFault, WriteFault, LinkFault, Strange}
use Rattle.span_top.specs.Words.{a_loop, command_of}
use Rattle.span_top.specs.Spans.{SpanEnds, IsDoneOrFailed}

-- the words ask for the loop of the named file, which holds this script and is within its limit
pub record AsksForLoop (words : List (List ℕ)) (files : Files) (script : Schedule) : Type 0 where
  pub name : List ℕ
  pub bytes : List ℕ
  pub words_are : command_of words ≡ Some (a_loop name)
  pub held : file_of name files ≡ Some bytes
  pub within : length bytes ≤ 67108864
  pub says : schedule_of Script bytes ≡ Ok script

-- all was done, or the outside kept it from being done: there was no memory, or a read, a write or the link failed, which `span` tells only where its count rose
abbrev pub IsLoopedOrFailed : Status → Type 0
IsLoopedOrFailed LinkFault = Unit {0}
IsLoopedOrFailed other = IsDoneOrFailed other

-- a script none of whose events in the order of sending is refused goes to its end over a faithful link
abbrev pub WholeScriptsAreRun : Type 0
WholeScriptsAreRun =
    (words : List (List ℕ)) (files : Files) (script : Schedule) (old new : Option (List ℕ)) (from now : Traffic) (status : Status) → AsksForLoop words files script → IsTakenInOrder script → IsFresh from
    → SpanEnds words (Some files) old new from now status → IsLoopedOrFailed status

-- and over an honest link, where none of those events is refused that the link's answers make
abbrev pub HonestLoopsAreRun : Type 0
HonestLoopsAreRun =
    (words : List (List ℕ)) (files : Files) (script : Schedule) (old new : Option (List ℕ)) (from now : Traffic) (status : Status) → AsksForLoop words files script → IsTakenAsAnswered script from now
    → from.honest ≡ Some true → from.sent ≡ Some [] → SpanEnds words (Some files) old new from now status → IsLoopedOrFailed status

-- this frame is told as strange, or the outside kept it from being told: there was no memory, or a read or a write failed
abbrev pub IsStrangeOrFailed : Sent → Status → Type 0
IsStrangeOrFailed sent (Strange to frame) = record { to = to; frame = frame } ≡ sent
IsStrangeOrFailed sent NoMemory = Unit {0}
IsStrangeOrFailed sent ReadFault = Unit {0}
IsStrangeOrFailed sent WriteFault = Unit {0}
IsStrangeOrFailed sent other = ⊥

-- a frame that none of the messages sent is, among the answers that the link tells, is told
abbrev pub StrangeFramesAreTold : Type 0
StrangeFramesAreTold =
    (words : List (List ℕ)) (files : Files) (script : Schedule) (old new : Option (List ℕ)) (from now : Traffic) (sent : Sent) (status : Status) → AsksForLoop words files script → IsMet script from now sent
    → SpanEnds words (Some files) old new from now status → IsStrangeOrFailed sent status

-- The run of a schedule that was worked by hand.
use Rattle.std.specs.Prelude.{ℕ, ◌≡◌, List, codes, Some}
use Rattle.world_core.specs.declared.event.StepFault.{StepFault}
use Rattle.world_core.specs.declared.event.StepFault.TheVariants.{NoMessage}
use Rattle.schedule_text.specs.Schedules.{Schedule}
use Rattle.schedule_replay.specs.Replays.{replayed, event_line, run_text}

-- the run of the schedule has this text, and refuses the event of this line for this
pub record StopsSo (schedule : Schedule) (text : List ℕ) (line : ℕ) (fault : StepFault) : Type 0 where
  pub text_is : run_text (replayed schedule) ≡ text
  pub line_is : event_line schedule (replayed schedule).taken ≡ line
  pub refused : (replayed schedule).refused ≡ Some fault

-- a write, and a table whose quorums don't meet; then a message is delivered that wasn't sent
abbrev pub strong_told : List ℕ
strong_told = codes "begin 0.1 write 0 aa\nticket 0.1 1.1.0.1\nno-epoch quorum 0\n"

abbrev pub three_sent : StepFault
three_sent = NoMessage 3

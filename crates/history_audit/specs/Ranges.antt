-- The marks whose numbers and values are within the ranges of a log: what is written of them is read back.
use Rattle.std.specs.Prelude.{◌≡◌, ℕ, ◌<◌, ◌≤◌, List, ◌++◌, length, Some, Ok, Contains}
use Rattle.hex.specs.Hex.{IsBytes}
use Rattle.span_base.specs.declared.ids.Call.{Call}
use Rattle.ticket_rules.specs.declared.stamp.Stamp.{Stamp}
use Rattle.wire_msg.specs.declared.outputs.Reply.{Reply}
use Rattle.wire_msg.specs.declared.outputs.Reply.TheVariants as r
use Rattle.run_marks.specs.declared.mark.Work.{Work}
use Rattle.run_marks.specs.declared.mark.Work.TheVariants as w
use Rattle.run_marks.specs.declared.mark.NoEpochCause.{NoEpochCause}
use Rattle.run_marks.specs.declared.mark.NoEpochCause.TheVariants.{MissingSet, NotQuorum}
use Rattle.run_marks.specs.declared.mark.Mark.{Mark}
use Rattle.run_marks.specs.declared.mark.Mark.TheVariants as k
use Rattle.run_marks.specs.Text.{mark_text, marks_text, messages_line}
use Rattle.history_audit.specs.declared.line.LogLine.TheVariants as l
use Rattle.history_audit.specs.Lines.{line_says}
use Rattle.history_audit.specs.Texts.{log_says}

-- a call: one of 64 proxies, and a number of 32 bits
pub record FitsCall (call : Call) : Type 0 where
  pub proxy : call.proxy ≤ 63
  pub seq : call.seq ≤ 4294967295

pub record FitsStamp (stamp : Stamp) : Type 0 where
  pub epoch : stamp.epoch ≤ 4294967295
  pub number : stamp.number ≤ 18446744073709551615
  pub proxy : stamp.proxy ≤ 63
  pub seq : stamp.seq ≤ 4294967295

-- a value: at most 4,096 bytes
pub record FitsValue (value : List ℕ) : Type 0 where
  pub few : length value ≤ 4096
  pub bytes : IsBytes value

abbrev pub FitsWork : Work → Type 0
FitsWork w.Read = Unit {0}
FitsWork (w.Write value) = FitsValue value
FitsWork w.Get = Unit {0}
FitsWork w.GetAny = Unit {0}
FitsWork (w.Put value) = FitsValue value
FitsWork w.Move = Unit {0}

abbrev pub FitsReply : Reply → Type 0
FitsReply (r.Value stamp value) = FitsStamp stamp × FitsValue value
FitsReply (r.Stored stamp) = FitsStamp stamp
FitsReply (r.At epoch) = epoch ≤ 4294967295
FitsReply (r.Moved epoch) = epoch ≤ 4294967295
FitsReply (r.Fenced held) = FitsStamp held
FitsReply r.Unsure = Unit {0}
FitsReply (r.Current epoch) = epoch ≤ 4294967295
FitsReply (r.Stale epoch) = epoch ≤ 4294967295
FitsReply r.Outside = Unit {0}
FitsReply r.Full = Unit {0}
FitsReply r.NumbersOut = Unit {0}
FitsReply r.GivenUp = Unit {0}

abbrev pub FitsCause : NoEpochCause → Type 0
FitsCause (MissingSet set) = set.0 ≤ 63
FitsCause (NotQuorum set) = set.0 ≤ 63

abbrev pub FitsMark : Mark → Type 0
FitsMark (k.Begin call key work) = FitsCall call × (key.0 ≤ 999) × FitsWork work
FitsMark (k.Ticket call stamp) = FitsCall call × FitsStamp stamp
FitsMark (k.End call reply) = FitsCall call × FitsReply reply
FitsMark (k.Epoch epoch) = epoch ≤ 4294967295
FitsMark (k.NoEpoch cause) = FitsCause cause

-- the line that is written of a mark says that mark
abbrev pub MarksAreReadBack : Type 0
MarksAreReadBack = (mark : Mark) → FitsMark mark → line_says (mark_text mark) ≡ Some (l.Mark mark)

-- a whole log that is written says its marks
abbrev pub LogsAreReadBack : Type 0
LogsAreReadBack =
    (marks : List Mark) (sent : ℕ) → ((mark : Mark) → Contains marks mark → FitsMark mark) → length marks < 4000000 → sent ≤ 4294967295 → log_says (marks_text marks ++ messages_line sent) ≡ Ok marks

-- The one text of each mark, and that of a run.
use Rattle.std.specs.Prelude.{ℕ, List, [], ◌∷◌, ◌++◌, codes}
use Rattle.std.specs.List.{flat_map}
use Rattle.std.specs.Fmt.{decimal}
use Rattle.hex.specs.Hex.{encode_lower}
use Rattle.span_base.specs.declared.ids.Call.{Call}
use Rattle.ticket_rules.specs.declared.stamp.Stamp.{Stamp}
use Rattle.wire_msg.specs.declared.outputs.Reply.{Reply}
use Rattle.wire_msg.specs.declared.outputs.Reply.TheVariants as r
use Rattle.run_marks.specs.declared.mark.Work.{Work}
use Rattle.run_marks.specs.declared.mark.Work.TheVariants as w
use Rattle.run_marks.specs.declared.mark.NoEpochCause.{NoEpochCause}
use Rattle.run_marks.specs.declared.mark.NoEpochCause.TheVariants.{MissingSet, NotQuorum}
use Rattle.run_marks.specs.declared.mark.Mark.{Mark}
use Rattle.run_marks.specs.declared.mark.Mark.TheVariants as k

-- a value: a hyphen where it is empty, else two lower-case hexadecimal digits for each byte
abbrev pub value_text : List ℕ → List ℕ
value_text [] = codes "-"
value_text (byte ∷ bytes) = encode_lower (byte ∷ bytes)

-- a call: its proxy and its number among the proxy's calls
abbrev pub call_text : Call → List ℕ
call_text call = decimal call.proxy ++ codes "." ++ decimal call.seq

-- a stamp: its four numbers
abbrev pub stamp_text : Stamp → List ℕ
stamp_text stamp =
    decimal stamp.epoch ++ codes "." ++ decimal stamp.number ++ codes "." ++ decimal stamp.proxy ++ codes "." ++ decimal stamp.seq

-- what a call of the key of this number does
abbrev pub work_text : ℕ → Work → List ℕ
work_text key w.Read = codes "read " ++ decimal key
work_text key (w.Write value) = codes "write " ++ decimal key ++ codes " " ++ value_text value
work_text key w.Get = codes "get " ++ decimal key
work_text key w.GetAny = codes "getany " ++ decimal key
work_text key (w.Put value) = codes "put " ++ decimal key ++ codes " " ++ value_text value
work_text key w.Move = codes "move " ++ decimal key

-- how a call ended
abbrev pub reply_text : Reply → List ℕ
reply_text (r.Value stamp value) = codes "ok " ++ stamp_text stamp ++ codes " " ++ value_text value
reply_text (r.Stored stamp) = codes "ok " ++ stamp_text stamp
reply_text (r.At epoch) = codes "ok " ++ decimal epoch
reply_text (r.Moved epoch) = codes "moved " ++ decimal epoch
reply_text (r.Fenced held) = codes "fenced " ++ stamp_text held
reply_text r.Unsure = codes "unsure"
reply_text (r.Current epoch) = codes "current " ++ decimal epoch
reply_text (r.Stale epoch) = codes "stale " ++ decimal epoch
reply_text r.Outside = codes "outside"
reply_text r.Full = codes "full"
reply_text r.NumbersOut = codes "numbers-out"
reply_text r.GivenUp = codes "given-up"

-- why a table opened no epoch
abbrev pub cause_text : NoEpochCause → List ℕ
cause_text (MissingSet set) = codes "missing " ++ decimal set.0
cause_text (NotQuorum set) = codes "quorum " ++ decimal set.0

-- the line of a mark, without its line feed
abbrev pub mark_text : Mark → List ℕ
mark_text (k.Begin call key work) = codes "begin " ++ call_text call ++ codes " " ++ work_text key.0 work
mark_text (k.Ticket call stamp) = codes "ticket " ++ call_text call ++ codes " " ++ stamp_text stamp
mark_text (k.End call reply) = codes "end " ++ call_text call ++ codes " " ++ reply_text reply
mark_text (k.Epoch epoch) = codes "epoch " ++ decimal epoch
mark_text (k.NoEpoch cause) = codes "no-epoch " ++ cause_text cause

-- a line for each mark
abbrev pub marks_text : List Mark → List ℕ
marks_text marks = flat_map (λ mark. mark_text mark ++ codes "\n") marks

-- the line after the marks of a whole run, which tells how many messages were sent
abbrev pub messages_line : ℕ → List ℕ
messages_line sent = codes "messages " ++ decimal sent ++ codes "\n"

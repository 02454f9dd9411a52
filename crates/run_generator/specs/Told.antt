-- What is told of a generated run.
use Rattle.std.specs.Prelude.{◌≡◌, ℕ, Bool, true, false, not, List, ◌++◌, length}
use Rattle.std.specs.List.{count_by}
use Rattle.wire_msg.specs.declared.outputs.Reply.{Reply}
use Rattle.wire_msg.specs.declared.outputs.Reply.TheVariants as r
use Rattle.run_marks.specs.declared.mark.Mark.{Mark}
use Rattle.run_marks.specs.declared.mark.Mark.TheVariants as k
use Rattle.run_marks.specs.Text.{marks_text, messages_line}
use Rattle.world_core.specs.Run.{Run, run_of}
use Rattle.run_generator.specs.Header.{header}
use Rattle.run_generator.specs.Chosen.{events_of}
use Rattle.run_generator.specs.declared.generated.Generated.{Generated}

-- the reply is written with the word `ok`
abbrev pub is_ok : Reply → Bool
is_ok (r.Value stamp value) = true
is_ok (r.Stored stamp) = true
is_ok (r.At epoch) = true
is_ok (r.Moved epoch) = false
is_ok (r.Fenced held) = false
is_ok r.Unsure = false
is_ok (r.Current epoch) = false
is_ok (r.Stale epoch) = false
is_ok r.Outside = false
is_ok r.Full = false
is_ok r.NumbersOut = false
is_ok r.GivenUp = false

abbrev pub ends_ok : Mark → Bool
ends_ok (k.Begin call key work) = false
ends_ok (k.Ticket call stamp) = false
ends_ok (k.End call reply) = is_ok reply
ends_ok (k.Epoch epoch) = false
ends_ok (k.NoEpoch cause) = false

abbrev pub ends_otherwise : Mark → Bool
ends_otherwise (k.Begin call key work) = false
ends_otherwise (k.Ticket call stamp) = false
ends_otherwise (k.End call reply) = not (is_ok reply)
ends_otherwise (k.Epoch epoch) = false
ends_otherwise (k.NoEpoch cause) = false

-- the whole text of a run: its marks, and how many messages were sent
abbrev pub run_text : Run → List ℕ
run_text run = marks_text run.marks ++ messages_line (length run.store.sent)

-- it tells the run of these events from the generator's header
pub record Tells (run : Run) (generated : Generated) : Type 0 where
  pub log : generated.log ≡ run_text run
  pub ok : generated.ok ≡ count_by ends_ok run.marks
  pub ended : generated.ended ≡ count_by ends_otherwise run.marks
  pub messages : generated.messages ≡ length run.store.sent

abbrev pub IsGenerated : ℕ → Generated → Type 0
IsGenerated n generated = Tells (run_of header (events_of n)) generated

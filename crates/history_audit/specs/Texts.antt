-- What the text of a log says: its marks, or the first line that is refused.
use Rattle.std.specs.Prelude.{◌≡◌, ℕ, ◌+◌, ◌==◌, nat_lt, if◌then◌else◌, List, [], ◌∷◌, Option, Some, None, Result, Ok, Err}
use Rattle.run_marks.specs.declared.mark.Mark.{Mark}
use Rattle.history_audit.specs.declared.line.LogLine.{LogLine}
use Rattle.history_audit.specs.declared.line.LogLine.TheVariants as l
use Rattle.history_audit.specs.declared.fault.AuditFault.{AuditFault}
use Rattle.history_audit.specs.declared.fault.AuditFault.TheVariants as fault
use Rattle.history_audit.specs.Lines.{line_says}

-- why a text is no log, with the line, counted from 1: it is of no form that may stand there, or one line too many
pub data LogFault : Type 0 where
  Bad : ℕ → LogFault
  Limit : ℕ → LogFault

-- the lines that begin with this byte
abbrev pub led_by : ℕ → List (List ℕ) → List (List ℕ)
led_by c [] = (c ∷ []) ∷ []
led_by c (line ∷ lines) = (c ∷ line) ∷ lines

-- the lines of a text, each ended by a line feed, which the last may lack
unfoldable pub lines_of : List ℕ → List (List ℕ)
lines_of [] = []
lines_of (c ∷ cs) = if c == 10 then [] ∷ lines_of cs else led_by c (lines_of cs)

-- the fault of a line that can't stand there, unless it is the one line too many: a log has at most 4,000,000
abbrev pub refused_at : ℕ → LogFault
refused_at line = if nat_lt 4000000 line then Limit line else Bad line

-- nothing may follow the line that tells how many messages were sent
abbrev pub ended_at : ℕ → List (List ℕ) → Result (List Mark) LogFault
ended_at line [] = Ok []
ended_at line (text ∷ texts) = Err (refused_at line)

-- one more mark, ahead of those that follow
abbrev pub led_by_mark : Mark → Result (List Mark) LogFault → Result (List Mark) LogFault
led_by_mark mark (Ok marks) = Ok (mark ∷ marks)
led_by_mark mark (Err fault) = Err fault

-- what a line says, and those after it: the next line of the log, their texts, and what they say
abbrev pub said_by : ℕ → Option LogLine → List (List ℕ) → Result (List Mark) LogFault → Result (List Mark) LogFault
said_by line None texts more = Err (Bad line)
said_by line (Some (l.Messages sent)) texts more = ended_at (line + 1) texts
said_by line (Some (l.Mark mark)) texts more = led_by_mark mark more

-- the marks of these lines, the first of which is this line of the log
unfoldable pub lines_say : ℕ → List (List ℕ) → Result (List Mark) LogFault
lines_say line [] = Err (Bad line)
lines_say line (text ∷ texts) = if nat_lt 4000000 line then Err (Limit line) else said_by line (line_says text) texts (lines_say (line + 1) texts)

-- what the text of a log says
abbrev pub log_says : List ℕ → Result (List Mark) LogFault
log_says text = lines_say 1 (lines_of text)

-- these lines begin with the one that was found, where there is one
abbrev pub LinesAre : List (List ℕ) → Option (List ℕ × List ℕ) → Type 0
LinesAre lines None = lines ≡ []
LinesAre lines (Some parts) = lines ≡ parts.0 ∷ lines_of parts.1

-- what may follow the end of a log: nothing
abbrev pub EndsLog : ℕ → List (List ℕ) → Result Unit AuditFault → Type 0
EndsLog line lines (Ok done) = ended_at line lines ≡ Ok []
EndsLog line lines (Err (fault.Bad at)) = ended_at line lines ≡ Err (Bad at)
EndsLog line lines (Err (fault.Limit at)) = ended_at line lines ≡ Err (Limit at)
EndsLog line lines (Err (fault.Broken at clause)) = ⊥
EndsLog line lines (Err (fault.NoMemory error)) = ⊥

-- what the lines said is the mark that was read, ahead of what those left say; or they ended, or are refused
abbrev pub ReadsMark : Result (List Mark) LogFault → Result (List Mark) LogFault → Result (Option Mark) AuditFault → Type 0
ReadsMark said left (Ok (Some mark)) = said ≡ led_by_mark mark left
ReadsMark said left (Ok None) = said ≡ Ok []
ReadsMark said left (Err (fault.Bad line)) = said ≡ Err (Bad line)
ReadsMark said left (Err (fault.Limit line)) = said ≡ Err (Limit line)
ReadsMark said left (Err (fault.Broken line clause)) = ⊥
ReadsMark said left (Err (fault.NoMemory error)) = Unit {0}

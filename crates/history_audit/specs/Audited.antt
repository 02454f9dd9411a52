-- What an audit answers.
use Rattle.std.specs.Prelude.{◌≡◌, ℕ, ◌+◌, List, [], ◌∷◌, ◌++◌, length, Option, Some, None, Result, Ok, Err}
use Rattle.run_marks.specs.declared.mark.Mark.{Mark}
use Rattle.run_marks.specs.History.{history_of}
use Rattle.run_marks.specs.Register.{TakeEffectIn}
use Rattle.register_order.specs.Order.{order_of}
use Rattle.register_order.specs.Clauses.{EachKeeps, KeepsClauses, BreaksNone}
use Rattle.history_audit.specs.declared.auditor.Auditor.{Auditor}
use Rattle.history_audit.specs.declared.judge.Judge.{Judge}
use Rattle.history_audit.specs.declared.fault.Clause.{Clause}
use Rattle.history_audit.specs.declared.fault.AuditFault.{AuditFault}
use Rattle.history_audit.specs.declared.fault.AuditFault.TheVariants as fault
use Rattle.history_audit.specs.declared.summary.Summary.{Summary}
use Rattle.history_audit.specs.Texts.{LogFault, Bad, Limit, led_by_mark, log_says}
use Rattle.history_audit.specs.Summed.{SumsUp}
use Rattle.history_audit.specs.Judging.{BreaksFirst, ToldBy}

-- the first line of a log that breaks a clause, and the first clause that it breaks
pub record IsFirstBreak (marks : List Mark) (line : ℕ) (broken : Clause) : Type 0 where
  pub before : List Mark
  pub mark : Mark
  pub after : List Mark
  pub split : marks ≡ before ++ mark ∷ after
  pub line_is : line ≡ length before + 1
  pub kept : EachKeeps KeepsClauses [] before
  pub breaks : BreaksFirst before mark broken

-- the text is a log that breaks no clause: the reads and writes of each key take effect as those of one register, in the order of
-- their stamps
pub record IsUnbroken (text : List ℕ) (summary : Summary) : Type 0 where
  pub marks : List Mark
  pub says : log_says text ≡ Ok marks
  pub kept : BreaksNone marks
  pub register : (key : ℕ) → TakeEffectIn (history_of key marks) (order_of (history_of key marks))
  pub sums : SumsUp marks summary

-- the text is a log that is refused at this line
pub record IsBroken (text : List ℕ) (line : ℕ) (broken : Clause) : Type 0 where
  pub marks : List Mark
  pub says : log_says text ≡ Ok marks
  pub first : IsFirstBreak marks line broken

-- what an audit of the text answers
abbrev pub AuditEnds : List ℕ → Result Summary AuditFault → Type 0
AuditEnds text (Ok summary) = IsUnbroken text summary
AuditEnds text (Err (fault.Bad line)) = log_says text ≡ Err (Bad line)
AuditEnds text (Err (fault.Limit line)) = log_says text ≡ Err (Limit line)
AuditEnds text (Err (fault.Broken line broken)) = IsBroken text line broken
AuditEnds text (Err (fault.NoMemory error)) = Unit {0}

-- these marks, ahead of those that follow
abbrev pub led_by_marks : List Mark → Result (List Mark) LogFault → Result (List Mark) LogFault
led_by_marks [] said = said
led_by_marks (mark ∷ marks) said = led_by_mark mark (led_by_marks marks said)

-- where the audit of these lines stands: none broke, or this was the first
abbrev pub StandsAt : List Mark → Judge → Option (ℕ × Clause) → Type 0
StandsAt front judge None = EachKeeps KeepsClauses [] front × ToldBy front judge
StandsAt front judge (Some it) = IsFirstBreak front it.0 it.1

abbrev pub Stands : List Mark → Auditor → Type 0
Stands front auditor = StandsAt front auditor.judge auditor.broken

-- the lines so far were read and judged, and the text says what they say ahead of what is left
pub record HasRead (text : List ℕ) (auditor : Auditor) (line : ℕ) (left : Result (List Mark) LogFault) : Type 0 where
  pub front : List Mark
  pub says : log_says text ≡ led_by_marks front left
  pub line_is : line ≡ length front + 1
  pub stands : Stands front auditor

-- the answer isn't that memory lacked
abbrev pub HadMemory : Result Summary AuditFault → Type 0
HadMemory (Ok summary) = Unit {0}
HadMemory (Err (fault.Bad line)) = Unit {0}
HadMemory (Err (fault.Limit line)) = Unit {0}
HadMemory (Err (fault.Broken line broken)) = Unit {0}
HadMemory (Err (fault.NoMemory error)) = ⊥

-- but for want of memory a text has one answer
abbrev pub OneAnswer : Type 0
OneAnswer = (text : List ℕ) (one other : Result Summary AuditFault) → AuditEnds text one → AuditEnds text other → HadMemory one → HadMemory other → one ≡ other

-- How a service of connections ends.
use Rattle.std.specs.Prelude.{ℕ, ◌≡◌, ◌≤◌, List, codes, ⊤, Some, Result, Ok, Err}
use Rattle.wire_msg.specs.declared.message.Message.{Message}
use Rattle.replica_core.specs.Taking.{IsTooMuch}
use Rattle.span_service.specs.declared.ending.Ending.{Ending}
use Rattle.span_service.specs.declared.ending.Ending.TheVariants as ending
use Rattle.span_service.specs.declared.ending.Outcome.{Outcome}
use Rattle.span_service.specs.declared.serve_fault.ServeFault.{ServeFault}
use Rattle.span_service.specs.declared.serve_fault.ServeFault.TheVariants as serve
use Rattle.replica_core.specs.declared.journal.TakeFault.TheVariants as take
use Rattle.span_service.specs.declared.visit_fault.VisitFault.{VisitFault}
use Rattle.span_service.specs.declared.visit_fault.VisitFault.TheVariants as visit
use Rattle.span_service.specs.Visits.{Line, line_of}

abbrev pub word_of : Ending → List ℕ
word_of ending.End = codes "end"
word_of ending.Bad = codes "bad"
word_of ending.Torn = codes "torn"
word_of ending.Limit = codes "limit"
word_of ending.Read = codes "read"
word_of ending.Write = codes "write"

-- a message was too much for a journal, which would have so many bytes with it
pub record IsFull (bytes : ℕ) : Type 0 where
  pub size : ℕ
  pub request : Message
  pub too_much : IsTooMuch size request bytes

-- nothing but the sink or memory was wanting
abbrev pub OnlyWrites : Result (Unit {0}) VisitFault → Type 0
OnlyWrites (Ok done) = ⊤
OnlyWrites (Err (visit.NoMemory error)) = ⊤
OnlyWrites (Err visit.WriteFault) = ⊤
OnlyWrites (Err visit.DiskFault) = ⊥
OnlyWrites (Err visit.DoorFault) = ⊥
OnlyWrites (Err (visit.Full bytes)) = ⊥

-- the line that an outcome tells
abbrev pub line_told : Outcome → Line
line_told outcome = record { answered = outcome.answered; word = word_of outcome.ending }

-- requests are counted from 1, and the replica's fault is none for want of memory, nor that it was shut before
abbrev pub IsPlain : Result ℕ ServeFault → Type 0
IsPlain (Ok count) = ⊤
IsPlain (Err (serve.Bad frame at)) = 1 ≤ frame
IsPlain (Err (serve.Torn frame)) = 1 ≤ frame
IsPlain (Err (serve.Limit number)) = 1 ≤ number
IsPlain (Err (serve.ReadFault count)) = ⊤
IsPlain (Err (serve.WriteFault count)) = ⊤
IsPlain (Err (serve.Taker (take.NoMemory error))) = ⊥
IsPlain (Err (serve.Taker take.DiskFault)) = ⊤
IsPlain (Err (serve.Taker take.Shut)) = ⊥
IsPlain (Err (serve.Taker (take.Full bytes))) = IsFull bytes
IsPlain (Err (serve.NoMemory error)) = ⊤

-- the outcome tells the line of a service, or why there is none
abbrev pub Outcomes : Result ℕ ServeFault → Result Outcome VisitFault → Type 0
Outcomes answer (Ok outcome) = line_of answer ≡ Some (line_told outcome)
Outcomes answer (Err (visit.NoMemory error)) = ⊤
Outcomes answer (Err visit.WriteFault) = ⊥
Outcomes answer (Err visit.DiskFault) = answer ≡ Err (serve.Taker take.DiskFault)
Outcomes answer (Err visit.DoorFault) = ⊥
Outcomes answer (Err (visit.Full bytes)) = IsFull bytes

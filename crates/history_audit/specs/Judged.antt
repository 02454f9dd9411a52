-- What a line may say of its call, by what is kept of the call.
use Rattle.std.specs.Prelude.{◌≡◌, ◌≢◌, ◌⊎◌, ℕ, ◌≤◌, true, false, List, [], Option, Some, None}
use Rattle.span_base.specs.declared.ids.Call.{Call}
use Rattle.ticket_rules.specs.declared.stamp.Stamp.{Stamp}
use Rattle.ticket_rules.specs.Stamp.{stamp_zero, IsAbove, IsAtMost}
use Rattle.wire_msg.specs.declared.outputs.Reply.{Reply}
use Rattle.wire_msg.specs.declared.outputs.Reply.TheVariants as r
use Rattle.run_marks.specs.declared.mark.Work.{Work}
use Rattle.run_marks.specs.declared.mark.Work.TheVariants as w
use Rattle.register_order.specs.Form.{answers_of, draws, fits}
use Rattle.history_audit.specs.declared.calls.CallState.{CallState}
use Rattle.history_audit.specs.declared.calls.Ending.TheVariants.{Open, Dead}
use Rattle.history_audit.specs.declared.fault.Clause.{Clause}
use Rattle.history_audit.specs.declared.fault.Clause.TheVariants as clause

-- the work is to write this value
abbrev pub IsWriteWork : Work → List ℕ → Type 0
IsWriteWork work value = work ≡ w.Write value

-- the stamp is above the latest ticket, where there is one
abbrev pub IsAboveLast : Option Stamp → Stamp → Type 0
IsAboveLast None stamp = Unit {0}
IsAboveLast (Some latest) stamp = IsAbove stamp latest

-- the stamp is the call's, and above its latest ticket
pub record IsNext (latest : Option Stamp) (call : Call) (stamp : Stamp) : Type 0 where
  pub proxy : stamp.proxy ≡ call.proxy
  pub seq : stamp.seq ≡ call.seq
  pub number : 1 ≤ stamp.number
  pub above : IsAboveLast latest stamp

-- a reply that gives a ticket gives the latest one
abbrev pub GivesLast : Option Stamp → Reply → Type 0
GivesLast latest (r.Value stamp value) = Unit {0}
GivesLast latest (r.Stored stamp) = latest ≡ Some stamp
GivesLast latest (r.At epoch) = Unit {0}
GivesLast latest (r.Moved epoch) = Unit {0}
GivesLast latest (r.Fenced held) = Unit {0}
GivesLast latest r.Unsure = Unit {0}
GivesLast latest (r.Current epoch) = Unit {0}
GivesLast latest (r.Stale epoch) = Unit {0}
GivesLast latest r.Outside = Unit {0}
GivesLast latest r.Full = Unit {0}
GivesLast latest r.NumbersOut = Unit {0}
GivesLast latest r.GivenUp = Unit {0}

-- a ticket of the call breaks this clause on form first, or none
abbrev pub TicketBreaks : CallState → Call → Stamp → Option Clause → Type 0
TicketBreaks state call stamp None = (state.ending ≡ Open) × (draws state.work ≡ true) × IsNext state.latest call stamp
TicketBreaks state call stamp (Some clause.Call) = state.ending ≢ Open
TicketBreaks state call stamp (Some clause.Kind) = (state.ending ≡ Open) × (draws state.work ≡ false)
TicketBreaks state call stamp (Some clause.Stamp) = (state.ending ≡ Open) × (draws state.work ≡ true) × ¬ IsNext state.latest call stamp
TicketBreaks state call stamp (Some clause.Value) = ⊥
TicketBreaks state call stamp (Some clause.Dead) = ⊥
TicketBreaks state call stamp (Some clause.Order) = ⊥

-- an end of the call breaks this clause on form first, or none
abbrev pub EndBreaks : CallState → Reply → Option Clause → Type 0
EndBreaks state reply None = (state.ending ≡ Open) × (fits (answers_of state.work) reply ≡ true) × GivesLast state.latest reply
EndBreaks state reply (Some clause.Call) = state.ending ≢ Open
EndBreaks state reply (Some clause.Kind) = (state.ending ≡ Open) × (fits (answers_of state.work) reply ≡ false)
EndBreaks state reply (Some clause.Stamp) = (state.ending ≡ Open) × (fits (answers_of state.work) reply ≡ true) × ¬ GivesLast state.latest reply
EndBreaks state reply (Some clause.Value) = ⊥
EndBreaks state reply (Some clause.Dead) = ⊥
EndBreaks state reply (Some clause.Order) = ⊥

-- a write with this floor may count with this stamp
abbrev pub CountsAs : Option Stamp → Stamp → Stamp → Type 0
CountsAs None floor stamp = IsAbove stamp floor
CountsAs (Some counted) floor stamp = counted ≡ stamp

-- a read with this floor that gives stamp zero with this value breaks this clause first, or none
abbrev pub ZeroBreaks : Stamp → List ℕ → Option Clause → Type 0
ZeroBreaks floor value None = (value ≡ []) × IsAtMost floor stamp_zero
ZeroBreaks floor value (Some clause.Call) = ⊥
ZeroBreaks floor value (Some clause.Kind) = ⊥
ZeroBreaks floor value (Some clause.Stamp) = ⊥
ZeroBreaks floor value (Some clause.Value) = value ≢ []
ZeroBreaks floor value (Some clause.Dead) = ⊥
ZeroBreaks floor value (Some clause.Order) = (value ≡ []) × IsAbove floor stamp_zero

-- a read with this floor that gives what this write stored with this stamp breaks this clause first, or none
abbrev pub WriterBreaks : CallState → Stamp → Stamp → Option Clause → Type 0
WriterBreaks writer floor stamp None = (writer.ending ≢ Dead) × IsAtMost floor stamp × CountsAs writer.counted writer.floor stamp
WriterBreaks writer floor stamp (Some clause.Call) = ⊥
WriterBreaks writer floor stamp (Some clause.Kind) = ⊥
WriterBreaks writer floor stamp (Some clause.Stamp) = ⊥
WriterBreaks writer floor stamp (Some clause.Value) = ⊥
WriterBreaks writer floor stamp (Some clause.Dead) = writer.ending ≡ Dead
WriterBreaks writer floor stamp (Some clause.Order) = (writer.ending ≢ Dead) × (IsAbove floor stamp ⊎ ¬ CountsAs writer.counted writer.floor stamp)

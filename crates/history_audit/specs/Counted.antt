-- What is kept of calls that count is what the lines tell: a write counts with the stamp that it was answered with or
-- that a read gave, above its floor, which is the greatest stamp that was answered on its key before it began.
use Rattle.std.specs.Prelude.{◌≡◌, ◌≢◌, ◌⊎◌, ℕ, Bool, true, false, List, [], Option, Some, None, Contains}
use Rattle.span_base.specs.declared.ids.Call.{Call}
use Rattle.span_base.specs.declared.ids.KeyId.{KeyId}
use Rattle.ticket_rules.specs.declared.stamp.Stamp.{Stamp}
use Rattle.ticket_rules.specs.Stamp.{stamp_zero, IsAbove, IsAtMost}
use Rattle.wire_msg.specs.declared.outputs.Reply.{Reply}
use Rattle.wire_msg.specs.declared.outputs.Reply.TheVariants as r
use Rattle.run_marks.specs.declared.mark.Work.TheVariants as w
use Rattle.run_marks.specs.declared.mark.Mark.{Mark}
use Rattle.run_marks.specs.declared.mark.Mark.TheVariants as k
use Rattle.run_marks.specs.History.{history_of, is_dead, is_register_work, EndsBefore, EndsWith, IsGiven}
use Rattle.register_order.specs.Clauses.{EachKeeps, GivesWritten, IsInOrder, NoneIsDead}
use Rattle.history_audit.specs.declared.calls.CallState.{CallState}
use Rattle.history_audit.specs.declared.calls.Ending.TheVariants.{Open, Dead}
use Rattle.history_audit.specs.Told.{KeepsFirst, Tells}

-- the call was answered with this stamp, or drew it and a read gave it
abbrev pub CountsWith : List Mark → Call → Stamp → Type 0
CountsWith marks call stamp = EndsWith marks call (r.Stored stamp) ⊎ (Contains marks (k.Ticket call stamp) × IsGiven marks stamp)

-- the call is a read or a write of the key that was answered with this stamp
abbrev pub Answered : List Mark → KeyId → Call → Stamp → Type 0
Answered marks key call stamp =
    ((value : List ℕ) × Contains marks (k.Begin call key w.Read) × EndsWith marks call (r.Value stamp value))
    ⊎ ((value : List ℕ) × Contains marks (k.Begin call key (w.Write value)) × EndsWith marks call (r.Stored stamp))

-- a stamp is zero, or one that was answered on the key before the call began
abbrev pub IsFloor : List Mark → KeyId → Call → Stamp → Type 0
IsFloor marks key call floor = (floor ≡ stamp_zero) ⊎ ((first : Call) × EndsBefore marks first call × Answered marks key first floor)

-- what is kept of the call's stamp, its floor and its end is what the lines tell
pub record IsCounted (marks : List Mark) (call : Call) (state : CallState) : Type 0 where
  pub counted : (value : List ℕ) (stamp : Stamp) → state.work ≡ w.Write value → CountsWith marks call stamp → state.counted ≡ Some stamp
  pub counts : (value : List ℕ) (stamp : Stamp) → state.work ≡ w.Write value → state.counted ≡ Some stamp → CountsWith marks call stamp × IsAbove stamp state.floor
  pub writes : (stamp : Stamp) → state.ending ≡ Open → state.counted ≡ Some stamp → (value : List ℕ) × (state.work ≡ w.Write value)
  pub reads : (stamp : Stamp) (value : List ℕ) → state.work ≡ w.Read → EndsWith marks call (r.Value stamp value) → IsAtMost state.floor stamp
  pub read_counted : (stamp : Stamp) (value : List ℕ) → state.work ≡ w.Read → EndsWith marks call (r.Value stamp value) → state.counted ≡ Some stamp
  pub read_counts : (stamp : Stamp) → state.work ≡ w.Read → state.counted ≡ Some stamp → (value : List ℕ) × EndsWith marks call (r.Value stamp value)
  pub others : is_register_work state.work ≡ false → state.counted ≡ None
  pub dead : (value : List ℕ) (reply : Reply) → state.work ≡ w.Write value → EndsWith marks call reply → is_dead reply ≡ true → state.counted ≡ None
  pub dies : state.ending ≡ Dead → (reply : Reply) × EndsWith marks call reply × (is_dead reply ≡ true)
  pub lives : state.ending ≢ Dead → (reply : Reply) → EndsWith marks call reply → is_dead reply ≡ false
  pub floors : (first : Call) (stamp : Stamp) → EndsBefore marks first call → Answered marks state.key first stamp → IsAtMost stamp state.floor
  pub floor_is : IsFloor marks state.key call state.floor

-- what is kept of calls and of each key's greatest stamp is what the lines tell, and reads gave what was written
pub record Counted (marks : List Mark) (kept : Call → Option CallState) (top : ℕ → Stamp) : Type 0 where
  pub each : (call : Call) (state : CallState) → kept call ≡ Some state → IsCounted marks call state
  pub tops : (key : KeyId) (call : Call) (stamp : Stamp) → Answered marks key call stamp → IsAtMost stamp (top key.0)
  pub top_is : (key : KeyId) → (top key.0 ≡ stamp_zero) ⊎ ((call : Call) × Answered marks key call (top key.0))
  pub given : (call : Call) (key : KeyId) (stamp : Stamp) (value : List ℕ) → Contains marks (k.Begin call key w.Read) → EndsWith marks call (r.Value stamp value) → GivesWritten marks key (r.Value stamp value)

-- where this is kept, no read of a key gives a dead write's ticket, and the calls of each key are in order
abbrev pub CountedKeepsClauses : Type 0
CountedKeepsClauses =
    (marks : List Mark) (kept : Call → Option CallState) (last : ℕ → ℕ) (drawn : Stamp → Bool) (top : ℕ → Stamp) → Tells marks kept last drawn → Counted marks kept top → EachKeeps KeepsFirst [] marks
    → (key : ℕ) → NoneIsDead (history_of key marks) × IsInOrder (history_of key marks)

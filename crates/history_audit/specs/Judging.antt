-- What the judge knows of the lines so far, and what it tells of the next one.
use Rattle.std.specs.Prelude.{◌≡◌, ◌≢◌, ◌⊎◌, ℕ, cond, List, [], ◌∷◌, ◌++◌, Option, Some, None, min, option_map, Result, Ok, Err, Contains}
use Rattle.std.specs.List.{count_by}
use Rattle.std.specs.declared.alloc.AllocError.{AllocError}
use Rattle.span_base.specs.declared.ids.Call.{Call}
use Rattle.span_base.specs.declared.ids.KeyId.{KeyId}
use Rattle.ticket_rules.specs.declared.stamp.Stamp.{Stamp}
use Rattle.ticket_rules.specs.Stamp.{stamp_zero, IsAbove, IsAtMost}
use Rattle.wire_msg.specs.declared.outputs.Reply.{Reply}
use Rattle.wire_msg.specs.declared.outputs.Reply.TheVariants as r
use Rattle.run_marks.specs.declared.mark.Work.TheVariants as w
use Rattle.run_marks.specs.declared.mark.Mark.{Mark}
use Rattle.run_marks.specs.declared.mark.Mark.TheVariants as k
use Rattle.run_marks.specs.History.{history_of, is_same_call}
use Rattle.register_order.specs.Form.{KeepsCall, KeepsKind, KeepsStamp, KeepsForm}
use Rattle.register_order.specs.Clauses.{EachKeeps, KeepsValue, WasDrawn, GivesWritten, NoneIsDead, IsInOrder}
use Rattle.history_audit.specs.declared.calls.CallState.{CallState}
use Rattle.history_audit.specs.declared.calls.Ending.TheVariants.{Dead}
use Rattle.history_audit.specs.declared.judge.Judge.{Judge}
use Rattle.history_audit.specs.declared.fault.Clause.{Clause}
use Rattle.history_audit.specs.declared.fault.Clause.TheVariants as clause
use Rattle.history_audit.specs.Calls.{look, counting}
use Rattle.history_audit.specs.Tables.{has_key, last_of, top_at, was_drawn}
use Rattle.history_audit.specs.Told.{IsKept, Tells, KeepsFirst}
use Rattle.history_audit.specs.Counted.{Counted}
use Rattle.history_audit.specs.Judged.{CountsAs}
use Rattle.history_audit.specs.Summed.{counts_at, SumsAre}

-- what is kept is what the lines tell
pub record ToldBy (marks : List Mark) (judge : Judge) : Type 0 where
  pub kept : EachKeeps KeepsFirst [] marks
  pub tells : Tells marks (look judge.calls) (last_of judge.lasts) (was_drawn judge.tickets)
  pub counted : Counted marks (look judge.calls) (top_at judge.tops)
  pub sums : SumsAre marks judge.summary (has_key judge.tops)
  pub effects : judge.summary.counted ≡ min (count_by (counts_at (look judge.calls)) marks) 4294967295

-- up to this line no read of a key gives a dead write's ticket; the calls of each key are in order
abbrev pub KeepsDead : List Mark → Mark → Type 0
KeepsDead before mark = (key : ℕ) → NoneIsDead (history_of key (before ++ mark ∷ []))

abbrev pub KeepsOrder : List Mark → Mark → Type 0
KeepsOrder before mark = (key : ℕ) → IsInOrder (history_of key (before ++ mark ∷ []))

-- the line breaks this clause, and none that is tried before it
abbrev pub BreaksFirst : List Mark → Mark → Clause → Type 0
BreaksFirst before mark clause.Call = ¬ KeepsCall before mark
BreaksFirst before mark clause.Kind = KeepsCall before mark × ¬ KeepsKind before mark
BreaksFirst before mark clause.Stamp = KeepsCall before mark × KeepsKind before mark × ¬ KeepsStamp before mark
BreaksFirst before mark clause.Value = KeepsForm before mark × ¬ KeepsValue before mark
BreaksFirst before mark clause.Dead = KeepsFirst before mark × ¬ KeepsDead before mark
BreaksFirst before mark clause.Order = KeepsFirst before mark × KeepsDead before mark × ¬ KeepsOrder before mark

-- the judge took the line, or told the first clause that it breaks
abbrev pub Judges : List Mark → Mark → Judge → Result (Option Clause) AllocError → Type 0
Judges before mark judge (Ok None) = KeepsFirst before mark × ToldBy (before ++ mark ∷ []) judge
Judges before mark judge (Ok (Some broken)) = BreaksFirst before mark broken
Judges before mark judge (Err error) = Unit {0}

-- the call is a read of the key with this floor
pub record EndsAsRead (looked : Option CallState) (key : KeyId) (floor : Stamp) : Type 0 where
  pub kept : IsKept looked key w.Read
  pub floor_is : kept.state.floor ≡ floor

-- the call that a ticket tells
abbrev pub drawer_of : Stamp → Call
drawer_of stamp = record { proxy = stamp.proxy; seq = stamp.seq }

-- this is kept of the write of the key that drew the ticket, and wrote this value
pub record IsWriter (marks : List Mark) (kept : Call → Option CallState) (key : KeyId) (stamp : Stamp) (value : List ℕ) (state : CallState) : Type 0 where
  pub found : kept (drawer_of stamp) ≡ Some state
  pub key_is : state.key ≡ key
  pub work_is : state.work ≡ w.Write value
  pub drawn : Contains marks (k.Ticket (drawer_of stamp) stamp)

-- the write of the key that drew this ticket, and wrote this value, where there is one
abbrev pub WasWritten : List Mark → (Call → Option CallState) → KeyId → Stamp → List ℕ → Option CallState → Type 0
WasWritten marks kept key stamp value None = ¬ WasDrawn marks key stamp value
WasWritten marks kept key stamp value (Some state) = IsWriter marks kept key stamp value state

-- a read of the key with this floor may give this: what nobody wrote where its floor is zero, or what a write stored that may count so
abbrev pub MayGive : List Mark → (Call → Option CallState) → KeyId → Stamp → Stamp → List ℕ → Type 0
MayGive marks kept key floor stamp value =
    ((stamp ≡ stamp_zero) × (value ≡ []) × IsAtMost floor stamp_zero)
    ⊎ ((stamp ≢ stamp_zero) × ((writer : CallState) × IsWriter marks kept key stamp value writer × (writer.ending ≢ Dead) × IsAtMost floor stamp × CountsAs writer.counted writer.floor stamp))

-- it gives the ticket of a dead write
abbrev pub GivesDead : List Mark → (Call → Option CallState) → KeyId → Stamp → List ℕ → Type 0
GivesDead marks kept key stamp value = (stamp ≢ stamp_zero) × ((writer : CallState) × IsWriter marks kept key stamp value writer × (writer.ending ≡ Dead))

-- it gives what was written before its floor, or what a write stored that may not count so
abbrev pub GivesOutOfOrder : List Mark → (Call → Option CallState) → KeyId → Stamp → Stamp → List ℕ → Type 0
GivesOutOfOrder marks kept key floor stamp value =
    ((stamp ≡ stamp_zero) × (value ≡ []) × IsAbove floor stamp_zero)
    ⊎ ((stamp ≢ stamp_zero) × ((writer : CallState) × IsWriter marks kept key stamp value writer × (writer.ending ≢ Dead) × (IsAbove floor stamp ⊎ ¬ CountsAs writer.counted writer.floor stamp)))

-- a read of the key with this floor that gives this breaks this clause first, or none
abbrev pub ReadBreaks : List Mark → (Call → Option CallState) → KeyId → Stamp → Stamp → List ℕ → Option Clause → Type 0
ReadBreaks marks kept key floor stamp value None = MayGive marks kept key floor stamp value
ReadBreaks marks kept key floor stamp value (Some clause.Call) = ⊥
ReadBreaks marks kept key floor stamp value (Some clause.Kind) = ⊥
ReadBreaks marks kept key floor stamp value (Some clause.Stamp) = ⊥
ReadBreaks marks kept key floor stamp value (Some clause.Value) = ¬ GivesWritten marks key (r.Value stamp value)
ReadBreaks marks kept key floor stamp value (Some clause.Dead) = GivesDead marks kept key stamp value
ReadBreaks marks kept key floor stamp value (Some clause.Order) = GivesOutOfOrder marks kept key floor stamp value

-- the reply tells no stamp of a read or a write: it isn't a read's value, nor a write's stamp
abbrev pub TellsNoStamp : Option CallState → Reply → Type 0
TellsNoStamp looked reply =
    (state : CallState) → looked ≡ Some state
    → ((stamp : Stamp) (value : List ℕ) → reply ≡ r.Value stamp value → state.work ≢ w.Read) × ((stamp : Stamp) (value : List ℕ) → reply ≡ r.Stored stamp → state.work ≢ w.Write value)

-- the write that a read's stamp tells counts with it; where nobody wrote it, nothing changes
pub record CountsGiven (stamp : Stamp) (old new : Call → Option CallState) : Type 0 where
  pub none : stamp ≡ stamp_zero → (other : Call) → new other ≡ old other
  pub one : stamp ≢ stamp_zero → (other : Call) → new other ≡ cond (is_same_call (drawer_of stamp) other) (option_map (counting stamp) (old (drawer_of stamp))) (old other)

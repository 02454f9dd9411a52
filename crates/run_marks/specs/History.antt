-- The history of a key, and what its calls gave.
use Rattle.std.specs.Prelude.{◌≡◌, ◌⊎◌, ℕ, Bool, true, false, ◌&&◌, ◌==◌, List, ◌∷◌, ◌++◌, Option, Some, None, Contains}
use Rattle.std.specs.List.{filter, list_any}
use Rattle.std.specs.Option.{option_map_or}
use Rattle.span_base.specs.declared.ids.Call.{Call}
use Rattle.span_base.specs.declared.ids.KeyId.{KeyId}
use Rattle.ticket_rules.specs.declared.stamp.Stamp.{Stamp}
use Rattle.wire_msg.specs.declared.outputs.Reply.{Reply}
use Rattle.wire_msg.specs.declared.outputs.Reply.TheVariants as r
use Rattle.run_marks.specs.declared.mark.Work.{Work}
use Rattle.run_marks.specs.declared.mark.Work.TheVariants as w
use Rattle.run_marks.specs.declared.mark.Mark.{Mark}
use Rattle.run_marks.specs.declared.mark.Mark.TheVariants as k

-- the two are one call
abbrev pub is_same_call : Call → Call → Bool
is_same_call a b = (a.proxy == b.proxy) && (a.seq == b.seq)

-- the call that the mark is of
abbrev pub call_of : Mark → Option Call
call_of (k.Begin call key work) = Some call
call_of (k.Ticket call stamp) = Some call
call_of (k.End call reply) = Some call
call_of (k.Epoch epoch) = None
call_of (k.NoEpoch cause) = None

-- the work is that of a register
abbrev pub is_register_work : Work → Bool
is_register_work w.Read = true
is_register_work (w.Write value) = true
is_register_work w.Get = false
is_register_work w.GetAny = false
is_register_work (w.Put value) = false
is_register_work w.Move = false

-- the mark begins this call, which reads or writes the key
abbrev pub begins_at : ℕ → Call → Mark → Bool
begins_at key call (k.Begin begun at work) = is_same_call call begun && (at.0 == key && is_register_work work)
begins_at key call (k.Ticket begun stamp) = false
begins_at key call (k.End begun reply) = false
begins_at key call (k.Epoch epoch) = false
begins_at key call (k.NoEpoch cause) = false

-- the marks have the begin of this call, which reads or writes the key
abbrev pub is_of : ℕ → List Mark → Call → Bool
is_of key marks call = list_any (begins_at key call) marks

-- the marks of the calls that read or wrote the key, in their order
unfoldable pub history_of : ℕ → List Mark → List Mark
history_of key marks = filter (λ mark. option_map_or (is_of key marks) (call_of mark) false) marks

-- the call is a read
abbrev pub IsRead : List Mark → Call → Type 0
IsRead history call = (key : KeyId) × Contains history (k.Begin call key w.Read)

-- the call is a write of this value
abbrev pub IsWriteOf : List Mark → Call → List ℕ → Type 0
IsWriteOf history call value = (key : KeyId) × Contains history (k.Begin call key (w.Write value))

-- the call ended so
abbrev pub EndsWith : List Mark → Call → Reply → Type 0
EndsWith history call reply = Contains history (k.End call reply)

-- the read gave the value with the stamp that it was stored with
pub record Reads (history : List Mark) (call : Call) (stamp : Stamp) (value : List ℕ) : Type 0 where
  pub read : IsRead history call
  pub ended : EndsWith history call (r.Value stamp value)

-- some read gave this stamp
pub record IsGiven (history : List Mark) (stamp : Stamp) : Type 0 where
  pub reader : Call
  pub value : List ℕ
  pub reads : Reads history reader stamp value

-- the write has this stamp: it was answered with it, or it is its ticket and a read gave it
pub record Writes (history : List Mark) (call : Call) (stamp : Stamp) (value : List ℕ) : Type 0 where
  pub write : IsWriteOf history call value
  pub counts : EndsWith history call (r.Stored stamp) ⊎ (Contains history (k.Ticket call stamp) × IsGiven history stamp)

-- the write ended so that nobody may read its value
abbrev pub is_dead : Reply → Bool
is_dead (r.Value stamp value) = false
is_dead (r.Stored stamp) = false
is_dead (r.At epoch) = false
is_dead (r.Moved epoch) = true
is_dead (r.Fenced held) = true
is_dead r.Unsure = false
is_dead (r.Current epoch) = false
is_dead (r.Stale epoch) = false
is_dead r.Outside = true
is_dead r.Full = true
is_dead r.NumbersOut = true
is_dead r.GivenUp = false

-- the end is an answer
abbrev pub is_ok : Reply → Bool
is_ok (r.Value stamp value) = true
is_ok (r.Stored stamp) = true
is_ok (r.At epoch) = false
is_ok (r.Moved epoch) = false
is_ok (r.Fenced held) = false
is_ok r.Unsure = false
is_ok (r.Current epoch) = false
is_ok (r.Stale epoch) = false
is_ok r.Outside = false
is_ok r.Full = false
is_ok r.NumbersOut = false
is_ok r.GivenUp = false

-- the first call was answered before the second one began
pub record EndsBefore (history : List Mark) (first second : Call) : Type 0 where
  pub earlier : List Mark
  pub later : List Mark
  pub key : KeyId
  pub work : Work
  pub split : history ≡ earlier ++ k.Begin second key work ∷ later
  pub reply : Reply
  pub answered : is_ok reply ≡ true
  pub ended : EndsWith earlier first reply

-- What the lines of a log tell in numbers.
use Rattle.std.specs.Prelude.{◌≡◌, ℕ, ◌==◌, min, Bool, true, false, not, ◌&&◌, if◌then◌else◌, List, [], ◌∷◌, length, Option, Some, None, is_some, Contains}
use Rattle.std.specs.List.{count_by, fold, list_any}
use Rattle.span_base.specs.declared.ids.Call.{Call}
use Rattle.span_base.specs.declared.ids.KeyId.{KeyId}
use Rattle.run_marks.specs.declared.mark.Work.{Work}
use Rattle.run_marks.specs.declared.mark.Mark.{Mark}
use Rattle.run_marks.specs.declared.mark.Mark.TheVariants as k
use Rattle.run_marks.specs.History.{is_register_work}
use Rattle.register_order.specs.Order.{effects_of}
use Rattle.history_audit.specs.declared.calls.CallState.{CallState}
use Rattle.history_audit.specs.declared.summary.Summary.{Summary}

-- the line begins a read or a write
abbrev pub begins_register : Mark → Bool
begins_register (k.Begin call key work) = is_register_work work
begins_register (k.Ticket call stamp) = false
begins_register (k.End call reply) = false
begins_register (k.Epoch epoch) = false
begins_register (k.NoEpoch cause) = false

-- the key is among these
abbrev pub is_among : ℕ → List ℕ → Bool
is_among key keys = list_any (λ at. at == key) keys

-- the keys, with that of a line that begins a read or a write
abbrev pub with_key : List ℕ → Mark → List ℕ
with_key keys (k.Begin call key work) = if is_register_work work && not (is_among key.0 keys) then key.0 ∷ keys else keys
with_key keys (k.Ticket call stamp) = keys
with_key keys (k.End call reply) = keys
with_key keys (k.Epoch epoch) = keys
with_key keys (k.NoEpoch cause) = keys

-- the keys with a read or a write, each once
abbrev pub keys_of : List Mark → List ℕ
keys_of marks = fold with_key [] marks

-- a call is counted where a stamp is kept with which it counts
abbrev pub is_counted : Option CallState → Bool
is_counted None = false
is_counted (Some state) = is_some state.counted

-- the line begins a call that is counted
abbrev pub counts_at : (Call → Option CallState) → Mark → Bool
counts_at kept (k.Begin call key work) = is_counted (kept call)
counts_at kept (k.Ticket call stamp) = false
counts_at kept (k.End call reply) = false
counts_at kept (k.Epoch epoch) = false
counts_at kept (k.NoEpoch cause) = false

-- the summary is that of the lines
pub record SumsUp (marks : List Mark) (summary : Summary) : Type 0 where
  pub calls : summary.calls ≡ count_by begins_register marks
  pub counted : summary.counted ≡ length (effects_of marks)
  pub keys : summary.keys ≡ length (keys_of marks)

-- the summary so far, as far as its numbers go, and the keys that are known
pub record SumsAre (marks : List Mark) (summary : Summary) (has : ℕ → Bool) : Type 0 where
  pub calls : summary.calls ≡ min (count_by begins_register marks) 4294967295
  pub keys : summary.keys ≡ min (length (keys_of marks)) 4294967295
  pub known : (key : ℕ) → has key ≡ is_among key (keys_of marks)
  pub begun : (call : Call) (key : KeyId) (work : Work) → Contains marks (k.Begin call key work) → is_register_work work ≡ true → has key.0 ≡ true

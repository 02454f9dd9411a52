-- A replica's state, and what it does with a message.
use Rattle.std.specs.Prelude.{ℕ, nat_le, if◌then◌else◌, ◌<◌, ◌≤◌, List, length, replicate, slice_set, slice_index_or, All, Option, Some, None}
use Rattle.span_base.specs.declared.ids.KeyId.{KeyId}
use Rattle.wire_msg.specs.declared.message.Message.{Message}
use Rattle.wire_msg.specs.Lawful.{IsLawfulStamp}
use Rattle.wire_msg.specs.Fields.{kind_of}
use Rattle.wire_msg.specs.Posts.{key_of}
use Rattle.wire_msg.specs.Outputs.{Step, nothing_out, only_posts}
use Rattle.replica_core.specs.declared.kept.Kept.{Kept}
use Rattle.replica_core.specs.Keeping.{opening, kept_after}
use Rattle.replica_core.specs.Answering.{answers}

-- the replica's number, and what it keeps of the keys 0, 1 and so on
pub record State : Type 0 where
  pub number : ℕ
  pub kept : List Kept

-- nothing stored yet
abbrev pub opening_state : ℕ → ℕ → State
opening_state number keys = record { number = number; kept = replicate keys opening }

-- what is kept of the key
abbrev pub kept_at : State → KeyId → Kept
kept_at state key = slice_index_or state.kept key.0 opening

-- the key of a request to a replica: a message of the kinds 1 to 8
abbrev pub request_key : Message → Option KeyId
request_key message = if nat_le (kind_of message) 8 then key_of message else None

-- the step on the request's key
abbrev pub step_at : State → Message → Option KeyId → Step State
step_at state message None = record { state = state; out = nothing_out }
step_at state message (Some key) = record {
  state = record { number = state.number; kept = slice_set state.kept key.0 (kept_after (kept_at state key) message) };
  out = only_posts (answers state.number (kept_at state key) message);
}

-- what a replica does with a message
abbrev pub step : State → Message → Step State
step state message = step_at state message (request_key message)

-- what is kept can be sent
pub record IsLawfulKept (kept : Kept) : Type 0 where
  pub version : IsLawfulStamp kept.version
  pub mark : IsLawfulStamp kept.mark
  pub fence : IsLawfulStamp kept.fence
  pub value : length kept.value ≤ 4096

-- the state's answers can be sent
pub record IsLawfulState (state : State) : Type 0 where
  pub number : state.number < 16
  pub keys : length state.kept ≤ 1000
  pub kept : All IsLawfulKept state.kept

-- What a message makes of a replica, made before anything changes.
use Rattle.std.specs.Prelude.{ℕ, ◌≡◌, List, [], Option, Some, None}
use Rattle.span_base.specs.declared.ids.KeyId.{KeyId}
use Rattle.wire_msg.specs.declared.message.Message.{Message}
use Rattle.replica_core.specs.declared.kept.Kept.{Kept}
use Rattle.replica_core.specs.declared.change.Change.{Change}
use Rattle.replica_core.specs.declared.change.Change.TheVariants.{Nothing, Fence, Version, Mark, Frozen}
use Rattle.replica_core.specs.declared.prepared.Prepared.{Prepared}
use Rattle.replica_core.specs.Keeping.{kept_after}
use Rattle.replica_core.specs.Answering.{answers}
use Rattle.replica_core.specs.Rule.{State, kept_at, request_key}

-- what is kept of a key after a change
abbrev pub changed_by : Change → Kept → Kept
changed_by Nothing kept = kept
changed_by (Fence stamp) kept = record kept { fence = stamp }
changed_by (Version stamp value) kept = record kept { version = stamp; value = value }
changed_by (Mark stamp) kept = record kept { mark = stamp }
changed_by (Frozen epoch) kept = record kept { frozen = epoch }

-- ready is what the message makes of what the replica of this number keeps of its key
pub record IsReady (number : ℕ) (kept : Kept) (message : Message) (prepared : Prepared) : Type 0 where
  pub change : changed_by prepared.change kept ≡ kept_after kept message
  pub posts : prepared.posts ≡ answers number kept message

abbrev pub IsReadyAt : State → Message → Prepared → Option KeyId → Type 0
IsReadyAt state message prepared None = prepared.posts ≡ []
IsReadyAt state message prepared (Some key) = IsReady state.number (kept_at state key) message prepared

-- what is prepared is what the message makes of a replica in this state
abbrev pub IsPrepared : State → Message → Prepared → Type 0
IsPrepared state message prepared = IsReadyAt state message prepared (request_key message)

-- What stands at a gate.
use Rattle.std.specs.Prelude.{ℕ, ◌≡◌, ◌+◌, ◌<◌, ◌≤◌, List, ◌∷◌, ◌++◌, length, Option, Some, None}
use Rattle.wire_msg.specs.declared.message.Message.{Message}
use Rattle.wire_msg.specs.Frames.{frame_of}
use Rattle.replica_journal.specs.declared.record.AtGate.{AtGate}
use Rattle.replica_journal.specs.declared.record.AtGate.TheVariants.{Record, Closed, Damaged}
use Rattle.replica_journal.specs.Records.{IsRecord, IsSoundRecord, IsClosed, body_of}

-- the frame is that of a message that a journal may hold, or of none
abbrev pub FrameHolds : ℕ → List ℕ → Option Message → Type 0
FrameHolds keys frame (Some message) = IsRecord keys message × (frame_of message ≡ frame)
FrameHolds keys frame None = (message : Message) → IsRecord keys message → ¬ (frame_of message ≡ frame)

-- an open record of this message stands at the front of the bytes, takes so many, and leaves some
pub record IsRecordAt (keys : ℕ) (bytes : List ℕ) (message : Message) (size : ℕ) : Type 0 where
  pub rest : List ℕ
  pub spelled : bytes ≡ 1 ∷ (body_of message ++ rest)
  pub sound : IsRecord keys message
  pub some : 0 < length rest
  pub takes : size ≡ 1 + length (body_of message)

-- the gate is open, and none of these bytes is a sound record behind it; more bytes would help only if these are few
pub record IsShort (keys : ℕ) (bytes : List ℕ) : Type 0 where
  pub rest : List ℕ
  pub spelled : bytes ≡ 1 ∷ rest
  pub unsound : ¬ IsSoundRecord keys rest
  pub few : length bytes ≤ 65538

-- the gate is open, and no sound record follows it, whatever bytes come behind these
pub record IsUnsound (keys : ℕ) (bytes : List ℕ) : Type 0 where
  pub rest : List ℕ
  pub spelled : bytes ≡ 1 ∷ rest
  pub unsound : (more : List ℕ) → ¬ IsSoundRecord keys (rest ++ more)

-- what stands at the gate that the bytes begin with, if they are enough to tell
abbrev pub IsAtGate : ℕ → List ℕ → Option AtGate → Type 0
IsAtGate keys bytes (Some (Record message size)) = IsRecordAt keys bytes message size
IsAtGate keys bytes (Some Closed) = IsClosed bytes
IsAtGate keys bytes (Some Damaged) = IsUnsound keys bytes
IsAtGate keys bytes None = IsShort keys bytes

-- The records of a journal: a gate of one byte, the length of a frame in two, and the frame. A gate
-- is open where it is 1. The journal ends at the first gate that isn't open.
use Rattle.std.specs.Prelude.{ℕ, ◌≡◌, ◌≢◌, ◌<◌, ◌≤◌, ◌⊎◌, List, [], ◌∷◌, ◌++◌, length, IfSome}
use Rattle.std.specs.List.{AllByRecursion}
use Rattle.std.specs.Int.{w16}
use Rattle.wire_msg.specs.declared.message.Message.{Message}
use Rattle.wire_msg.specs.Frames.{big, frame_of}
use Rattle.wire_msg.specs.Lawful.{IsLawful}
use Rattle.wire_msg.specs.Laws.{FitsBytes}
use Rattle.wire_msg.specs.Sizes.{frame_size}
use Rattle.replica_core.specs.Rule.{State, opening_state, request_key, step}
use Rattle.replica_core.specs.Taking.{IsLogged}
use Rattle.replica_journal.specs.Disk.{History, bytes_of, IsImage, IsLawfulHistory}

-- a message that the journal of a replica with so many keys may hold
pub record IsRecord (keys : ℕ) (message : Message) : Type 0 where
  pub logged : IsLogged message
  pub lawful : IsLawful message
  pub fits : FitsBytes message
  pub key : IfSome (request_key message) (λ key. key.0 < keys)

-- what stands behind the gate of a message's record
abbrev pub body_of : Message → List ℕ
body_of message = big w16 (frame_size message) ++ frame_of message

-- the open records of these messages, one after the other
abbrev pub records_of : List Message → List ℕ
records_of [] = []
records_of (message ∷ messages) = 1 ∷ (body_of message ++ records_of messages)

-- a gate that isn't open, whatever stands behind it
abbrev pub IsClosed : List ℕ → Type 0
IsClosed [] = ⊥
IsClosed (gate ∷ rest) = gate ≢ 1

-- the bytes are the open records of these messages, and then a gate that isn't open
pub record IsJournal (keys : ℕ) (bytes : List ℕ) (messages : List Message) : Type 0 where
  pub rest : List ℕ
  pub spelled : bytes ≡ records_of messages ++ rest
  pub closed : IsClosed rest
  pub records : AllByRecursion (IsRecord keys) messages

-- an image holds the open records of these messages, and no others: one of at most one byte holds none
abbrev pub HasRecords : ℕ → List ℕ → List Message → Type 0
HasRecords keys image messages = ((length image ≤ 1) × (messages ≡ [])) ⊎ IsJournal keys image messages

-- a record stands at the front of these bytes, behind its gate, and leaves one more gate behind it
pub record IsSoundRecord (keys : ℕ) (bytes : List ℕ) : Type 0 where
  pub message : Message
  pub rest : List ℕ
  pub spelled : bytes ≡ body_of message ++ rest
  pub sound : IsRecord keys message
  pub some : 0 < length rest

-- the gate at this place is open, and no sound record follows it
pub record IsDamagedAt (keys : ℕ) (bytes : List ℕ) (at : ℕ) : Type 0 where
  pub long : 1 < length bytes
  pub messages : List Message
  pub rest : List ℕ
  pub spelled : bytes ≡ records_of messages ++ 1 ∷ rest
  pub records : AllByRecursion (IsRecord keys) messages
  pub place : at ≡ length (records_of messages)
  pub damaged : ¬ IsSoundRecord keys rest

-- a replica's state after these messages, of which the first came first
abbrev pub state_after : State → List Message → State
state_after state [] = state
state_after state (message ∷ messages) = state_after (step state message).state messages

-- the state that an image keeps of the replica of this number with so many keys
abbrev pub Keeps : ℕ → ℕ → List ℕ → State → Type 0
Keeps number keys image state = (messages : List Message) × HasRecords keys image messages × (state ≡ state_after (opening_state number keys) messages)

-- The disk is at rest: its bytes are the open records of these messages up to the gate at this
-- place, which isn't open, and a crash leaves just them.
pub record IsAtRest (keys : ℕ) (history : History) (place : ℕ) (messages : List Message) : Type 0 where
  pub journal : IsJournal keys (bytes_of history) messages
  pub gate : place ≡ length (records_of messages)
  pub safe : (image : List ℕ) → IsImage history image → image ≡ bytes_of history

-- an image holds the records of these messages, with one more message or without it
abbrev pub IsBeforeOrAfter : ℕ → List Message → Message → List ℕ → Type 0
IsBeforeOrAfter keys messages message image = HasRecords keys image messages ⊎ HasRecords keys image (messages ++ message ∷ [])

-- over none of the disk's images is an opening with so many keys refused as damaged: each holds a row of records
pub record IsSoundDisk (keys : ℕ) (history : History) : Type 0 where
  pub lawful : IsLawfulHistory history
  pub images : (image : List ℕ) → IsImage history image → (messages : List Message) × HasRecords keys image messages

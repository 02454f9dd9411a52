-- Requests as bytes: the length of a frame in two bytes, and the frame.
use Rattle.std.specs.Prelude.{ℕ, ◌≡◌, ◌<◌, ◌≤◌, ◌⊎◌, nat_lt, if◌then◌else◌, List, ◌++◌, length, Option, Some, None}
use Rattle.std.specs.Int.{w16}
use Rattle.wire_msg.specs.declared.message.Message.{Message}
use Rattle.wire_msg.specs.Faults.{fault_place}
use Rattle.wire_msg.specs.Frames.{big, frame_of}
use Rattle.wire_msg.specs.Lawful.{IsLawful}
use Rattle.wire_msg.specs.Laws.{FitsBytes}
use Rattle.span_base.specs.declared.ids.KeyId.{KeyId}
use Rattle.replica_core.specs.Rule.{request_key}

-- the place in its frame where a message is no request to a replica with so many keys: its kind, or its key
abbrev pub wrong_key : ℕ → Option KeyId → Option ℕ
wrong_key keys None = Some 0
wrong_key keys (Some key) = if nat_lt key.0 keys then None else Some 12

abbrev pub wrong_place : ℕ → Message → Option ℕ
wrong_place keys message = wrong_key keys (request_key message)

-- a message that is a request to a replica with so many keys
pub record IsRequest (keys : ℕ) (message : Message) : Type 0 where
  pub lawful : IsLawful message
  pub fits : FitsBytes message
  pub right : wrong_place keys message ≡ None

-- the frame of a message that is no such request, with the place where it isn't
pub record IsOther (keys : ℕ) (frame : List ℕ) (at : ℕ) : Type 0 where
  pub message : Message
  pub lawful : IsLawful message
  pub fits : FitsBytes message
  pub spelled : frame_of message ≡ frame
  pub wrong : wrong_place keys message ≡ Some at

-- no request's frame, with the place of the first fault
abbrev pub IsBadFrame : ℕ → List ℕ → ℕ → Type 0
IsBadFrame keys frame at = (fault_place frame ≡ Some at) ⊎ IsOther keys frame at

-- the length in front of the bytes is 0 or above 8,192
pub record IsBadLength (bytes : List ℕ) (at : ℕ) : Type 0 where
  pub size : ℕ
  pub rest : List ℕ
  pub spelled : bytes ≡ big w16 size ++ rest
  pub short : size < 65536
  pub wrong : (size ≡ 0) ⊎ (8192 < size)
  pub place : at ≡ 0

-- a frame that is no request's stands whole behind its length in front of the bytes
pub record IsBadBehind (keys : ℕ) (bytes : List ℕ) (at : ℕ) : Type 0 where
  pub frame : List ℕ
  pub rest : List ℕ
  pub spelled : bytes ≡ big w16 (length frame) ++ (frame ++ rest)
  pub some : 1 ≤ length frame
  pub short : length frame ≤ 8192
  pub bad : IsBadFrame keys frame at

-- what stands in front of the bytes is bad at this place, whatever bytes follow
abbrev pub IsBad : ℕ → List ℕ → ℕ → Type 0
IsBad keys bytes at = IsBadLength bytes at ⊎ IsBadBehind keys bytes at

-- the bytes are a length, and a part of a frame that has so many bytes, but not all of it
pub record IsCut (bytes : List ℕ) : Type 0 where
  pub size : ℕ
  pub front : List ℕ
  pub spelled : bytes ≡ big w16 size ++ front
  pub some : 1 ≤ size
  pub short : size ≤ 8192
  pub part : length front < size

-- too few bytes to tell what stands in front of them
abbrev pub IsShort : List ℕ → Type 0
IsShort bytes = (length bytes ≤ 1) ⊎ IsCut bytes

-- the bytes end inside a request
abbrev pub IsTorn : List ℕ → Type 0
IsTorn bytes = (1 ≤ length bytes) × IsShort bytes

-- What stands in front of bytes that were read.
use Rattle.std.specs.Prelude.{ℕ, ◌≡◌, List, ◌++◌, length, ⊤, Result, Ok, Err}
use Rattle.wire_msg.specs.declared.message.Message.{Message}
use Rattle.wire_msg.specs.declared.fault.FrameFault.{FrameFault}
use Rattle.wire_msg.specs.declared.fault.FrameFault.TheVariants.{BadFrame, NoMemory}
use Rattle.wire_msg.specs.Frames.{frame_of}
use Rattle.replica_journal.specs.Records.{body_of}
use Rattle.span_service.specs.declared.front.Front.{Front}
use Rattle.span_service.specs.declared.front.Front.TheVariants.{Request, Bad, Short}
use Rattle.span_service.specs.Requests.{IsRequest, IsBadFrame, IsBad, IsShort}

-- a request stands there, and takes so many bytes
pub record IsRequestAt (keys : ℕ) (bytes : List ℕ) (message : Message) (size : ℕ) : Type 0 where
  pub rest : List ℕ
  pub spelled : bytes ≡ body_of message ++ rest
  pub sound : IsRequest keys message
  pub takes : size ≡ length (body_of message)

abbrev pub IsFront : ℕ → List ℕ → Front → Type 0
IsFront keys bytes (Request message size) = IsRequestAt keys bytes message size
IsFront keys bytes (Bad at) = IsBad keys bytes at
IsFront keys bytes Short = IsShort bytes

-- a frame is read as a request's, or told to be none by the place of its first fault
abbrev pub ReadsFrame : ℕ → List ℕ → Result Message FrameFault → Type 0
ReadsFrame keys frame (Ok message) = IsRequest keys message × (frame_of message ≡ frame)
ReadsFrame keys frame (Err (BadFrame at)) = IsBadFrame keys frame at
ReadsFrame keys frame (Err (NoMemory error)) = ⊤

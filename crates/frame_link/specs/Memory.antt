-- What the links in memory hold.
use Rattle.std.specs.Prelude.{ℕ, ◌++◌, Bool, true, false, List, [], ◌∷◌, Option, Result, Ok, Err}
use Rattle.span_base.specs.Calls.{CallRecord, after_call}
use Rattle.span_base.specs.declared.sink.DeviceFault.{DeviceFault}
use Rattle.span_base.specs.declared.sink.DeviceFault.TheVariants.{Failed, NoMemory}
use Rattle.frame_link.specs.Frames.{Sent, with_frame}
use Rattle.frame_link.specs.Deals.{Dealt, dealt}
use Rattle.frame_link.specs.declared.deal.Deal.{Deal}
use Rattle.frame_link.specs.declared.link.Arrival.{Arrival}

-- a calm link: the frames sent, and what it answered
pub record HeldFrames : Type 0 where
  pub sent : List Sent
  pub answers : List (Option Sent)

-- what goes by deals: the frames sent, what it answered, how many frames are passed, the deals left, and whether all deals that it was given are honest, and faithful
pub record HeldDeals : Type 0 where
  pub sent : List Sent
  pub answers : List (Option Sent)
  pub passed : ℕ
  pub left : List Deal
  pub honest : Bool
  pub faithful : Bool

-- what its first deal left gives
abbrev pub next_of : HeldDeals → Dealt
next_of held = dealt held.sent held.passed held.left

-- it after this answer
abbrev pub after_dealt : HeldDeals → Dealt → HeldDeals
after_dealt held next = record held { answers = held.answers ++ next.answer ∷ []; passed = next.passed; left = next.left }

-- a link in memory: what goes by deals, and its calls
pub record HeldLink : Type 0 where
  pub frames : HeldDeals
  pub calls : CallRecord

-- a link in memory after it was given this frame with this answer
abbrev pub after_send : HeldLink → ℕ → List ℕ → Result Unit DeviceFault → HeldLink
after_send held to frame (Ok done) = record { frames = record held.frames { sent = with_frame held.frames.sent to frame }; calls = after_call held.calls false }
after_send held to frame (Err Failed) = record held { calls = after_call held.calls true }
after_send held to frame (Err NoMemory) = record held { calls = after_call held.calls false }

-- a link in memory after a `next` with this answer
abbrev pub after_next : HeldLink → Result Arrival DeviceFault → HeldLink
after_next held (Ok arrival) = record { frames = after_dealt held.frames (next_of held.frames); calls = after_call held.calls false }
after_next held (Err Failed) = record held { calls = after_call held.calls true }
after_next held (Err NoMemory) = record held { calls = after_call held.calls false }

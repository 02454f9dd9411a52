-- What a link was given of a store's messages, and what arrives.
use Rattle.std.specs.Prelude.{ℕ, ◌≡◌, ◌<◌, ◌≤◌, List, length, take, Option, Some, None, Result, Ok, Err}
use Rattle.wire_msg.specs.declared.outputs.Post.{Post}
use Rattle.frame_link.specs.Frames.{Sent}
use Rattle.span_node.specs.declared.fault.LoopFault.{LoopFault}
use Rattle.span_node.specs.declared.fault.LoopFault.TheVariants.{LinkFault, Strange, NoMemory}
use Rattle.span_node.specs.declared.mail.Mail.{Mail}
use Rattle.span_node.specs.Carried.{carried, first_same}
use Rattle.span_node.specs.Index.{IsIndex}
use Rattle.span_node.specs.Traffic.{Traffic, Answered}

-- the link was given the first of these messages, which the index tells; there is memory for a frame that comes
pub record IsMail (mail : Mail) (posts : List Post) : Type 0 where
  pub few : mail.sent ≤ length posts
  pub index : IsIndex mail.index (take mail.sent (carried posts))
  pub buffer : length mail.buffer.items ≡ 8192

-- the frame is that of the first message of this number that it can be; or none of these frames is it
abbrev pub Places : List Sent → Sent → Result ℕ LoopFault → Type 0
Places frames sent (Ok number) = (first_same frames sent ≡ number) × (number < length frames)
Places frames sent (Err (Strange to frame)) = (sent ≡ record { to = to; frame = frame }) × (first_same frames sent ≡ length frames)
Places frames sent (Err NoMemory) = Unit {0}
Places frames sent (Err _) = ⊥

-- one of these frames arrived: that of the first message of this number that it can be
pub record Arrived (frames : List Sent) (old new : Traffic) (number : ℕ) : Type 0 where
  pub frame : Sent
  pub answered : Answered old new (Some frame)
  pub first : first_same frames frame ≡ number
  pub sent : number < length frames

-- what arrives where these frames were sent
abbrev pub Comes : List Sent → Traffic → Traffic → Result (Option ℕ) LoopFault → Type 0
Comes frames old new (Ok None) = Answered old new None
Comes frames old new (Ok (Some number)) = Arrived frames old new number
Comes frames old new (Err LinkFault) = new ≡ old
Comes frames old new (Err (Strange to frame)) =
    Answered old new (Some (record { to = to; frame = frame })) × (first_same frames (record { to = to; frame = frame }) ≡ length frames)
Comes frames old new (Err NoMemory) = Unit {0}
Comes frames old new (Err _) = ⊥

-- only the link or memory is at fault
abbrev pub IsOfLink : LoopFault → Type 0
IsOfLink LinkFault = Unit {0}
IsOfLink NoMemory = Unit {0}
IsOfLink _ = ⊥

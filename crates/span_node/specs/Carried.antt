-- Messages as a link carries them, and how a frame that arrives is told among them.
use Rattle.std.specs.Prelude.{ℕ, ◌≡◌, ◌==◌, ◌<◌, ◌≤◌, Bool, true, false, ◌&&◌, List, length, map, slice_index_or, Option, Some, None}
use Rattle.std.specs.List.{position_or_len}
use Rattle.std.specs.Str.{bytes_eq}
use Rattle.wire_msg.specs.declared.outputs.Post.{Post}
use Rattle.wire_msg.specs.Nodes.{node_number}
use Rattle.wire_msg.specs.Frames.{frame_of}
use Rattle.frame_link.specs.Frames.{Sent}

-- a message as a link carries it: its frame, to the node of its actor
unfoldable pub posted : Post → Sent
posted post = record { to = node_number post.to; frame = frame_of post.message }

-- the messages as a link carries them
unfoldable pub carried : List Post → List Sent
carried posts = map posted posts

-- the two have one destination and one frame
unfoldable pub is_same : Sent → Sent → Bool
is_same a b = (b.to == a.to) && bytes_eq b.frame a.frame

-- the number of the first of the frames that is this one, with its destination; their number where none is
unfoldable pub first_same : List Sent → Sent → ℕ
first_same frames sent = position_or_len (is_same sent) frames

-- none of the frames from this number on to that one is the sent one
abbrev pub NoneIn : List Sent → ℕ → ℕ → Sent → Type 0
NoneIn frames from to sent = (k : ℕ) → from ≤ k → k < to → is_same sent (slice_index_or frames k sent) ≡ false

-- the first frame from this number on that is the sent one
abbrev pub FindsFrom : List Sent → ℕ → Sent → Option ℕ → Type 0
FindsFrom frames from sent None = NoneIn frames from (length frames) sent
FindsFrom frames from sent (Some n) = (from ≤ n) × (n < length frames) × (is_same sent (slice_index_or frames n sent) ≡ true) × NoneIn frames from n sent

-- the first of all frames that is the sent one, where one is
abbrev pub Finds : List Sent → Sent → Option ℕ → Type 0
Finds frames sent None = first_same frames sent ≡ length frames
Finds frames sent (Some n) = (first_same frames sent ≡ n) × (n < length frames)

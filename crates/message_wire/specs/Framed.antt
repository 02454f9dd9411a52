-- Frames that have each their own memory.
use Rattle.std.specs.Prelude.{ℕ, ◌≡◌, ◌+◌, ◌≤◌, List, [], ◌∷◌, ◌++◌, length, map, vec_capacity}
use Rattle.std.specs.List.{All}
use Rattle.std.specs.Global.{Vec}
use Rattle.wire_msg.specs.declared.actor.Actor.{Actor}
use Rattle.wire_msg.specs.declared.message.Message.{Message}
use Rattle.wire_msg.specs.declared.outputs.Post.{Post}
use Rattle.message_wire.specs.declared.framed.Framed.{Framed}
use Rattle.message_wire.specs.Frames.{message_in, IsWhole}

-- the message of a frame, on its way
unfoldable pub post_of : Framed → Post
post_of framed = record { to = framed.to; message = message_in framed.frame.items }

-- the messages of the frames
unfoldable pub posts_of : List Framed → List Post
posts_of frames = map post_of frames

-- it has a message's frame
abbrev pub HasFrame : Framed → Type 0
HasFrame framed = IsWhole framed.frame.items

-- memory for any frame, of which nothing is used
pub record IsSpare (bytes : Vec ℕ) : Type 0 where
  pub none : bytes.items ≡ []
  pub room : 8192 ≤ vec_capacity bytes

-- the frames with one more
pub record IsLonger (frames frames' : List Framed) (to : Actor) (m : Message) : Type 0 where
  pub whole : All HasFrame frames'
  pub posts : posts_of frames' ≡ posts_of frames ++ record { to = to; message = m } ∷ []
  pub count : length frames' ≡ length frames + 1

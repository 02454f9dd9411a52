-- What room a wire has.
use Rattle.std.specs.Prelude.{◌-◌, ◌≤◌}
use Rattle.wire_msg.specs.declared.message.Message.{Message}
use Rattle.wire_msg.specs.declared.outputs.Bulk.{Bulk}
use Rattle.wire_msg.specs.Sizes.{frame_size}

-- room for these is left once a message is pushed
abbrev pub room_after : Bulk → Message → Bulk
room_after room message = record { posts = room.posts - 1; bytes = room.bytes - frame_size message }

-- there is room for the message
pub record HasRoom (room : Bulk) (message : Message) : Type 0 where
  pub one : 1 ≤ room.posts
  pub bytes : frame_size message ≤ room.bytes

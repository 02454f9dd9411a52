-- What a wire of separate frames keeps.
use Rattle.std.specs.Prelude.{◌≡◌, ◌+◌, ◌*◌, ◌≤◌, length, vec_capacity}
use Rattle.std.specs.List.{All}
use Rattle.wire_msg.specs.Sizes.{bulk_of}
use Rattle.message_wire.specs.Framed.{posts_of, HasFrame, IsSpare}
use Rattle.message_wire.specs.declared.list_wire.ListWire.TheInside.{Inside}

-- each frame is a message's, their bytes are counted, and what is reserved finds room
pub record IsListWire (wire : Inside) : Type 0 where
  pub whole : All HasFrame wire.frames.items
  pub count : wire.bytes ≡ (bulk_of (posts_of wire.frames.items)).bytes
  pub small : wire.bytes ≤ length wire.frames.items * 8192
  pub few : length wire.frames.items ≤ 4000000
  pub posts : length wire.frames.items + wire.room.posts ≤ vec_capacity wire.frames
  pub spares : All IsSpare wire.spares.items
  pub enough : wire.room.posts ≤ length wire.spares.items

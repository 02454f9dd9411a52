-- What a wire of frames keeps.
use Rattle.std.specs.Prelude.{◌+◌, ◌≤◌, length, vec_capacity}
use Rattle.message_wire.specs.Region.{IsRegion}
use Rattle.message_wire.specs.declared.frame_wire.FrameWire.TheInside.{Inside}

-- its entries have their frames, and what is reserved finds room
pub record IsFrameWire (wire : Inside) : Type 0 where
  pub sound : IsRegion wire.region.items wire.entries.items
  pub posts : length wire.entries.items + wire.room.posts ≤ vec_capacity wire.entries
  pub bytes : length wire.region.items + wire.room.bytes ≤ vec_capacity wire.region

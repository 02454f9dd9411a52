-- What contracts see of a wire.
use Rattle.std.specs.Prelude.{List, []}
use Rattle.wire_msg.specs.declared.outputs.Post.{Post}
use Rattle.wire_msg.specs.declared.outputs.Bulk.{Bulk}
use Rattle.wire_msg.specs.Bulks.{no_bulk}

-- the messages that were sent, and what more is sure to find room
pub record Sent : Type 0 where
  pub posts : List Post
  pub room : Bulk

-- a new wire: nothing was sent, and nothing is reserved
abbrev pub nothing_sent : Sent
nothing_sent = record { posts = []; room = no_bulk }

use Rattle.std.proofs.Common.{List, [], ap, ◌∙◌, arith}
use Rattle.wire_msg.specs.declared.outputs.Post.{Post}
use Rattle.wire_msg.specs.declared.outputs.Bulk.{Bulk}
use Rattle.message_wire.proofs.RegionLaws.{no_posts, no_frames}
use Rattle.message_wire.proofs.frame_wire.FrameWire.new.Goals as goal

pub invariant_of-result : goal.invariant_of-result
invariant_of-result c = record {
  sound = no_frames c.new.result.items c.new-2.result.items c.new.ensures.items c.new-2.ensures.items;
  posts = omega (arith, ap (λ (b : Bulk). b.posts) c.none.ensures);
  bytes = omega (arith, ap (λ (b : Bulk). b.bytes) c.none.ensures);
}

pub returns : goal.returns
returns c =
    ap (λ (posts : List Post). record { posts = posts; room = c.none.result }) (no_posts c.new.result.items c.new-2.result.items c.new-2.ensures.items)
    ∙ ap (λ (room : Bulk). record { posts = []; room = room }) c.none.ensures

use Rattle.std.proofs.Common.{◌≡◌, ◌+◌, List, length, ap, arith}
use Rattle.wire_msg.specs.declared.outputs.Post.{Post}
use Rattle.wire_msg.specs.declared.outputs.Bulk.{Bulk}
use Rattle.wire_msg.specs.Sizes.{bulk_of}
use Rattle.message_wire.specs.Sent.{Sent}
use Rattle.message_wire.specs.Framed.{posts_of}
use Rattle.message_wire.proofs.FramedLaws.{posts_number}
use Rattle.message_wire.proofs.RegionLaws.{bytes_grow}
use Rattle.message_wire.proofs.list_wire.ListWireWire.push.Goals as goal

pub invariant_of-self-2 : goal.invariant_of-self-2
invariant_of-self-2 c =
    let old = c.self.inside.frames.items in
    let now = c.append_frame.new.frames.items in
    let added = c.in_ok-len.ensures in
    let post : Post = record { to = c.args.to; message = c.args.message.now } in
    let one_more : length now ≡ length old + 1 = added.ok.count in
    let room_posts = ap (λ (b : Bulk). b.posts) c.left_of-self-inside.ensures in
    record {
      whole = added.ok.whole;
      count = omega (arith, c.self.invariant.count, added.bytes.0, c.from.ensures, ap (λ (ps : List Post). (bulk_of ps).bytes) added.ok.posts, bytes_grow (posts_of old) post);
      small = omega (arith, c.self.invariant.small, added.bytes.1, c.from.ensures, one_more);
      few = omega (arith, one_more, c.requires.few, posts_number old, ap (λ (s : Sent). length s.posts) c.self.view_is);
      posts = omega (arith, c.self.invariant.posts, one_more, added.room, room_posts);
      spares = added.spares;
      enough = omega (arith, c.self.invariant.enough, added.one, room_posts);
    }

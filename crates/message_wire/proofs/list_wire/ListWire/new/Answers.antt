use Rattle.std.proofs.Common.{List, [], length, All, subst, sym, ap, ◌∙◌, arith}
use Rattle.std.proofs.lemmas.List.Elements.{All-nil}
use Rattle.wire_msg.specs.declared.outputs.Post.{Post}
use Rattle.wire_msg.specs.declared.outputs.Bulk.{Bulk}
use Rattle.wire_msg.specs.Sizes.{bulk_of}
use Rattle.message_wire.specs.Framed.{HasFrame, IsSpare}
use Rattle.message_wire.proofs.FramedLaws.{no_posts_of}
use Rattle.message_wire.proofs.list_wire.ListWire.new.Goals as goal

pub invariant_of-result : goal.invariant_of-result
invariant_of-result c = record {
  whole = subst (All HasFrame) (sym c.new.ensures.items) (All-nil HasFrame);
  count = sym (ap (λ (ps : List Post). (bulk_of ps).bytes) (no_posts_of c.new.result.items c.new.ensures.items));
  small = omega arith;
  few = omega (arith, ap length c.new.ensures.items);
  posts = omega (arith, ap (λ (b : Bulk). b.posts) c.none.ensures);
  spares = subst (All IsSpare) (sym c.new-2.ensures.items) (All-nil IsSpare);
  enough = omega (arith, ap (λ (b : Bulk). b.posts) c.none.ensures);
}

pub returns : goal.returns
returns c =
    ap (λ (posts : List Post). record { posts = posts; room = c.none.result }) (no_posts_of c.new.result.items c.new.ensures.items)
    ∙ ap (λ (room : Bulk). record { posts = []; room = room }) c.none.ensures

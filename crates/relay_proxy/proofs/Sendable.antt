-- What a put sends is lawful.
use Rattle.std.proofs.Common.{ℕ, ◌≤◌, List, length}
use Rattle.std.proofs.lemmas.List.Elements.{All-map}
use Rattle.ticket_rules.specs.declared.stamp.Stamp.{Stamp}
use Rattle.wire_msg.specs.declared.tag.Tag.{Tag}
use Rattle.wire_msg.specs.declared.outputs.View.{View}
use Rattle.wire_msg.specs.declared.outputs.Post.{Post}
use Rattle.wire_msg.specs.Lawful.{IsLawful, AreLawful, IsLawfulTag, IsLawfulKey, IsLawfulStamp}
use Rattle.relay_proxy.specs.Routes.{directs_below}
use Rattle.relay_proxy.specs.Rule.{push_to, pushes_below}

-- the messages of a put
pub pushes_lawful : (tag : Tag) (at : ℕ) (view : View) (stamp : Stamp) (value : List ℕ) (n : ℕ) → IsLawfulTag tag → IsLawfulKey view.key → IsLawfulStamp stamp → length value ≤ 4096
    → AreLawful (pushes_below tag at view stamp value n)
pushes_lawful tag at view stamp value n tag_lawful key_lawful stamp_lawful within =
    All-map (λ (post : Post). IsLawful post.message) (push_to tag at view stamp value) (directs_below view.policy at n)
    (λ k d h. (tag_lawful, (key_lawful, (stamp_lawful, (tt, (within, tt))))))

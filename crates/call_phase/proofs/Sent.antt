-- The posts of one message to each replica of a set: their bulk, and what holds of each where it holds of the message.
use Rattle.std.proofs.Common.{◌≡◌, ℕ, ◌≤◌, Some}
use Rattle.std.proofs.lemmas.List.Elements.{All-map}
use Rattle.span_base.specs.declared.ids.KeyId.{KeyId}
use Rattle.span_base.specs.declared.dc_set.DcSet.{DcSet}
use Rattle.span_base.specs.DcSet.{centres_of}
use Rattle.span_base.proofs.Sets.{count_le, All-centres_of}
use Rattle.wire_msg.specs.declared.message.Message.{Message}
use Rattle.wire_msg.specs.declared.outputs.Post.{Post}
use Rattle.wire_msg.specs.Lawful.{IsLawful, AreLawful}
use Rattle.wire_msg.specs.Sizes.{frame_size, bulk_of}
use Rattle.wire_msg.specs.Bulks.{bulk_to}
use Rattle.wire_msg.specs.Posts.{key_of, ArePostsOf}
use Rattle.wire_msg.proofs.Bulks.{bulk_of-each}
use Rattle.wire_msg.proofs.Sent.{posts_to_each}
use Rattle.call_phase.specs.Requests.{post_to, posts_to}

-- their number, and their bytes together
pub bulk_of-posts_to : (set : DcSet) (message : Message) (bytes : ℕ) → frame_size message ≡ bytes → bulk_of (posts_to set message) ≡ bulk_to set bytes
bulk_of-posts_to set message bytes is = bulk_of-each set (post_to message) bytes (λ d. is)

-- they are lawful where the message is
pub posts_to-lawful : (set : DcSet) (message : Message) → IsLawful message → AreLawful (posts_to set message)
posts_to-lawful set message lawful = All-map (λ (post : Post). IsLawful post.message) (post_to message) (centres_of set) (λ k d within. lawful)

-- they are those of a call on the message's key that asks the set
pub posts_to-of_key : (key : KeyId) (set : DcSet) (message : Message) → key_of message ≡ Some key → frame_size message ≤ 4133 → ArePostsOf key set (posts_to set message)
posts_to-of_key key set message of_key small =
    posts_to_each key set (post_to message) (centres_of set) (count_le set) (All-centres_of set) (λ d. of_key) (λ d. small)

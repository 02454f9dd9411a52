-- Messages that are sent one after another, within the room that was made for them.
use Rattle.std.proofs.Common.{◌≡◌, ℕ, ◌+◌, ◌≤◌, Bool, true, false, cond, List, ◌++◌, length, take, drop, refl, arith}
use Rattle.std.specs.Prelude.{nat_lt, Some, None}
use Rattle.std.proofs.lemmas.Bool.{ltb-false}
use Rattle.std.proofs.lemmas.List.{length-append}
use Rattle.std.proofs.lemmas.List.Elements.{All-append}
use Rattle.std.proofs.lemmas.List.Sums.{sum_by-append}
use Rattle.span_base.specs.declared.words.What.TheVariants.{Messages, FrameBytes}
use Rattle.wire_msg.specs.declared.outputs.Post.{Post}
use Rattle.wire_msg.specs.declared.outputs.Bulk.{Bulk}
use Rattle.wire_msg.specs.Lawful.{IsLawful, AreLawful}
use Rattle.wire_msg.specs.Sizes.{frame_size, bulk_of}
use Rattle.world_core.specs.declared.event.StepFault.TheVariants.{Limit}
use Rattle.world_core.specs.Step.{message_limit, byte_limit}
use Rattle.world_core.specs.Proxies.{IsOfKeyBelow, AreOfKeysBelow}
use Rattle.world_core.specs.Stores.{limit_passed, AreSent}

-- so many of the posts are sent, and there is room for the others
pub record IsSending (before now : List Post) (room : Bulk) (posts : List Post) (done : ℕ) : Type 0 where
  pub pushed : now ≡ before ++ take done posts
  pub count : (bulk_of (drop done posts)).posts ≤ room.posts
  pub bytes : (bulk_of (drop done posts)).bytes ≤ room.bytes

-- what holds of the messages that were sent still holds once these are, where they pass no limit
pub sent_more : (keys : ℕ) (sent posts : List Post) → AreSent keys sent → AreLawful posts → AreOfKeysBelow keys posts → limit_passed sent (bulk_of posts) ≡ None → AreSent keys (sent ++ posts)
sent_more keys sent posts are lawful of_keys = by (nat_lt message_limit (length sent + length posts)) (nat_lt byte_limit ((bulk_of sent).bytes + (bulk_of posts).bytes)) refl refl
  where
    by : (a b : Bool) → nat_lt message_limit (length sent + length posts) ≡ a → nat_lt byte_limit ((bulk_of sent).bytes + (bulk_of posts).bytes) ≡ b
        → cond a (Some (Limit Messages (length sent + length posts))) (cond b (Some (Limit FrameBytes ((bulk_of sent).bytes + (bulk_of posts).bytes))) None) ≡ None → AreSent keys (sent ++ posts)
    by true b many long fits = absurd (cc)
    by false true many long fits = absurd (cc)
    by false false many long fits = record {
      lawful = All-append (λ (post : Post). IsLawful post.message) sent posts are.lawful lawful;
      of_keys = All-append (λ (post : Post). IsOfKeyBelow keys post.message) sent posts are.of_keys of_keys;
      few = omega (arith, length-append sent posts, ltb-false message_limit (length sent + length posts) many);
      small = omega (arith, sum_by-append (λ (post : Post). frame_size post.message) sent posts, ltb-false byte_limit ((bulk_of sent).bytes + (bulk_of posts).bytes) long);
    }

-- What posts are: none, one to the directory or a proxy, and one made for each of at most 16 replicas.
use Rattle.std.proofs.Common.{◌≡◌, ℕ, ◌+◌, ◌*◌, ◌≤◌, List, [], ◌∷◌, All, Some, IfSome, IsTrue, map, length, refl, subst, arith}
use Rattle.std.specs.List.{sum_by}
use Rattle.std.proofs.lemmas.List.{length-map}
use Rattle.std.proofs.lemmas.List.Elements.{All-nil, All-cons, All-head, All-tail, All-map, All-weaker}
use Rattle.std.proofs.lemmas.List.Sums.{sum_by-cons}
use Rattle.span_base.specs.declared.ids.KeyId.{KeyId}
use Rattle.span_base.specs.declared.dc_set.DcSet.{DcSet}
use Rattle.span_base.specs.DcSet.{has}
use Rattle.wire_msg.specs.declared.actor.Actor.{Actor}
use Rattle.wire_msg.specs.declared.actor.Actor.TheVariants.{Replica, Directory, Proxy}
use Rattle.wire_msg.specs.declared.message.Message.{Message}
use Rattle.wire_msg.specs.declared.outputs.Post.{Post}
use Rattle.wire_msg.specs.Sizes.{frame_size}
use Rattle.wire_msg.specs.Posts.{to_directory, to_proxy, tag_of, key_of, IsAsked, IsAnswered, ArePostsOf, AreAnswersTo}
use Rattle.wire_msg.proofs.Bulks.{post_size}

-- posts of at most so many bytes each
pub bytes_within : (n : ℕ) (posts : List Post) → All (λ post. frame_size post.message ≤ n) posts → sum_by post_size posts ≤ length posts * n
bytes_within n [] small = omega arith
bytes_within n (post ∷ posts) small =
    let first : frame_size post.message ≤ n = All-head (λ (q : Post). frame_size q.message ≤ n) post posts small in
    let others : sum_by post_size posts ≤ length posts * n = bytes_within n posts (All-tail (λ (q : Post). frame_size q.message ≤ n) post posts small) in
    omega (arith, sum_by-cons post_size post posts, first, others)

-- ---- a call's

pub no_posts : (key : KeyId) (asked : DcSet) → ArePostsOf key asked []
no_posts key asked = record {
  to = All-nil (λ (post : Post). IsAsked asked post.to);
  of_key = All-nil (λ (post : Post). key_of post.message ≡ Some key);
  count = omega arith;
  bytes = omega arith;
}

pub posts_to_directory : (key : KeyId) (asked : DcSet) (message : Message) → key_of message ≡ Some key → frame_size message ≤ 4133 → ArePostsOf key asked (to_directory message)
posts_to_directory key asked message of_key small =
    let post : Post = record { to = Directory; message = message } in
    record {
      to = All-cons (λ (q : Post). IsAsked asked q.to) post [] tt (All-nil (λ (q : Post). IsAsked asked q.to));
      of_key = All-cons (λ (q : Post). key_of q.message ≡ Some key) post [] of_key (All-nil (λ (q : Post). key_of q.message ≡ Some key));
      count = omega arith;
      bytes = omega (arith, small);
    }

-- one for each of these
pub posts_to_each : (key : KeyId) (asked : DcSet) (make : ℕ → Post) (ds : List ℕ) → length ds ≤ 16
    → All (λ d. IsAsked asked (make d).to) ds → ((d : ℕ) → key_of (make d).message ≡ Some key) → ((d : ℕ) → frame_size (make d).message ≤ 4133)
    → ArePostsOf key asked (map make ds)
posts_to_each key asked make ds few to of_key small =
    let posts : List Post = map make ds in
    let count : length posts ≡ length ds = length-map ds make in
    let each : All (λ (q : Post). frame_size q.message ≤ 4133) posts = All-map (λ (q : Post). frame_size q.message ≤ 4133) make ds (λ k d within. small _) in
    let bytes : sum_by post_size posts ≤ length posts * 4133 = bytes_within 4133 posts each in
    record {
      to = All-map (λ (q : Post). IsAsked asked q.to) make ds to;
      of_key = All-map (λ (q : Post). key_of q.message ≡ Some key) make ds (λ k d within. of_key _);
      count = omega (arith, count, few);
      bytes = omega (arith, count, few, bytes);
    }

-- of a larger set
pub posts_within : (key : KeyId) (s t : DcSet) (posts : List Post) → ((d : ℕ) → IsTrue (has s d) → IsTrue (has t d)) → ArePostsOf key s posts → ArePostsOf key t posts
posts_within key s t posts within are = record {
  to = All-weaker (λ (q : Post). IsAsked s q.to) (λ (q : Post). IsAsked t q.to) (λ q. wider q.to) posts are.to;
  of_key = are.of_key;
  count = are.count;
  bytes = are.bytes;
}
  where
    wider : (to : Actor) → IsAsked s to → IsAsked t to
    wider (Replica d) asked = within d asked
    wider Directory asked = tt
    wider (Proxy number) asked = absurd asked

-- ---- answers

pub no_answers : (message : Message) → AreAnswersTo message []
no_answers message = record {
  to = All-nil (λ (post : Post). IsAnswered message post.to);
  of_key = All-nil (λ (post : Post). IfSome (key_of post.message) (λ key. key_of message ≡ Some key));
  count = omega arith;
  bytes = omega arith;
}

-- an answer, and what is sent on to each of these
pub answers_and_each : (message : Message) (answer : Message) (make : ℕ → Post) (ds : List ℕ) → length ds ≤ 16
    → IfSome (key_of answer) (λ key. key_of message ≡ Some key) → All (λ d. IsAnswered message (make d).to) ds
    → ((d : ℕ) → IfSome (key_of (make d).message) (λ key. key_of message ≡ Some key)) → (n : ℕ) → ((d : ℕ) → frame_size (make d).message ≤ n)
    → frame_size answer + length ds * n ≤ 16 * 4133
    → AreAnswersTo message (record { to = Proxy (tag_of message).call.proxy; message = answer } ∷ map make ds)
answers_and_each message answer make ds few answer_key to of_key n small within =
    let first : Post = record { to = Proxy (tag_of message).call.proxy; message = answer } in
    let posts : List Post = map make ds in
    let count : length posts ≡ length ds = length-map ds make in
    let each : All (λ (q : Post). frame_size q.message ≤ n) posts = All-map (λ (q : Post). frame_size q.message ≤ n) make ds (λ k d lt. small _) in
    let bytes : sum_by post_size posts ≤ length ds * n = subst (λ k. sum_by post_size posts ≤ k * n) count (bytes_within n posts each) in
    record {
      to = All-cons (λ (q : Post). IsAnswered message q.to) first posts refl (All-map (λ (q : Post). IsAnswered message q.to) make ds to);
      of_key = All-cons (λ (q : Post). IfSome (key_of q.message) (λ key. key_of message ≡ Some key)) first posts answer_key
          (All-map (λ (q : Post). IfSome (key_of q.message) (λ key. key_of message ≡ Some key)) make ds (λ k d lt. of_key _));
      count = omega (arith, count, few);
      bytes = omega (arith, sum_by-cons post_size first posts, bytes, within);
    }

pub answer_to_proxy : (message : Message) (answer : Message) → IfSome (key_of answer) (λ key. key_of message ≡ Some key) → frame_size answer ≤ 16 * 4133 → AreAnswersTo message (to_proxy (tag_of message) answer)
answer_to_proxy message answer answer_key small =
    let first : Post = record { to = Proxy (tag_of message).call.proxy; message = answer } in
    record {
      to = All-cons (λ (q : Post). IsAnswered message q.to) first [] refl (All-nil (λ (q : Post). IsAnswered message q.to));
      of_key = All-cons (λ (q : Post). IfSome (key_of q.message) (λ key. key_of message ≡ Some key)) first [] answer_key
          (All-nil (λ (q : Post). IfSome (key_of q.message) (λ key. key_of message ≡ Some key)));
      count = omega arith;
      bytes = omega (arith, small);
    }

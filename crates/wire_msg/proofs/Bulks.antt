-- How much posts are: none, one, one more, and one of equal size to each replica of a set.
use Rattle.std.proofs.Common.{◌≡◌, ℕ, ◌+◌, ◌*◌, List, [], ◌∷◌, map, length, refl, ap, arith}
use Rattle.std.specs.List.{sum_by}
use Rattle.std.proofs.lemmas.List.{length-map}
use Rattle.std.proofs.lemmas.List.Sums.{sum_by-cons}
use Rattle.span_base.specs.declared.dc_set.DcSet.{DcSet}
use Rattle.span_base.specs.DcSet.{centres_of}
use Rattle.wire_msg.specs.declared.outputs.Post.{Post}
use Rattle.wire_msg.specs.declared.outputs.Bulk.{Bulk}
use Rattle.wire_msg.specs.Sizes.{frame_size, bulk_of}
use Rattle.wire_msg.specs.Bulks.{no_bulk, bulk_of_one, bulk_to}

-- the bytes of a post's frame
abbrev pub post_size : Post → ℕ
post_size post = frame_size post.message

-- a bulk by its two numbers
abbrev pub bulk_from : ℕ → ℕ → Bulk
bulk_from posts bytes = record { posts = posts; bytes = bytes }

-- no post
pub bulk_of-none : bulk_of [] ≡ no_bulk
bulk_of-none = refl

-- one post, whose frame has so many bytes
pub bulk_of-one : (post : Post) (bytes : ℕ) → frame_size post.message ≡ bytes → bulk_of (post ∷ []) ≡ bulk_of_one bytes
bulk_of-one post bytes is =
    let all : sum_by post_size (post ∷ []) ≡ bytes = omega (arith, sum_by-cons post_size post [], is) in
    ap (bulk_from 1) all

-- one post before others
pub bulk_of-more : (post : Post) (posts : List Post) (count bytes : ℕ) → bulk_of posts ≡ bulk_from count bytes → bulk_of (post ∷ posts) ≡ bulk_from (1 + count) (frame_size post.message + bytes)
bulk_of-more post posts count bytes is =
    let others : length posts ≡ count = ap (λ (bulk : Bulk). bulk.posts) is in
    let sizes : sum_by post_size posts ≡ bytes = ap (λ (bulk : Bulk). bulk.bytes) is in
    let first : length (post ∷ posts) ≡ 1 + count = omega (arith, others) in
    let all : sum_by post_size (post ∷ posts) ≡ frame_size post.message + bytes = omega (arith, sum_by-cons post_size post posts, sizes) in
    rw (first, all)

each_size : (make : ℕ → Post) (bytes : ℕ) → ((d : ℕ) → post_size (make d) ≡ bytes) → (ds : List ℕ) → sum_by post_size (map make ds) ≡ length ds * bytes
each_size make bytes each [] = omega arith
each_size make bytes each (d ∷ ds) = omega (arith, sum_by-cons post_size (make d) (map make ds), each d, each_size make bytes each ds)

-- a post of so many bytes to each replica of a set
pub bulk_of-each : (set : DcSet) (make : ℕ → Post) (bytes : ℕ) → ((d : ℕ) → frame_size (make d).message ≡ bytes) → bulk_of (map make (centres_of set)) ≡ bulk_to set bytes
bulk_of-each set make bytes each =
    let count : length (map make (centres_of set)) ≡ length (centres_of set) = length-map (centres_of set) make in
    let sizes : sum_by post_size (map make (centres_of set)) ≡ length (centres_of set) * bytes = each_size make bytes each (centres_of set) in
    rw (count, sizes)

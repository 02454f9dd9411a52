-- The bytes of what a replica puts out.
use Rattle.std.proofs.Common.{◌≡◌, ℕ, ◌+◌, ◌*◌, List, ◌++◌, length, ap, ◌∙◌, arith}
use Rattle.std.specs.List.{sum_by}
use Rattle.std.proofs.lemmas.List.Sums.{sum_by-cons}
use Rattle.span_base.specs.declared.ids.KeyId.{KeyId}
use Rattle.span_base.specs.declared.dc_set.DcSet.{DcSet}
use Rattle.span_base.specs.DcSet.{centres_of}
use Rattle.ticket_rules.specs.declared.stamp.Stamp.{Stamp}
use Rattle.wire_msg.specs.declared.tag.Tag.{Tag}
use Rattle.wire_msg.specs.declared.actor.Actor.TheVariants.{Proxy}
use Rattle.wire_msg.specs.declared.outputs.Post.{Post}
use Rattle.wire_msg.specs.declared.outputs.Bulk.{Bulk}
use Rattle.wire_msg.specs.Sizes.{bulk_of}
use Rattle.wire_msg.specs.Bulks.{bulk_to}
use Rattle.wire_msg.specs.Posts.{to_proxy}
use Rattle.wire_msg.proofs.Bulks.{post_size, bulk_of-each}
use Rattle.replica_core.specs.Answering.{done, push_to, pushes_to}

-- a bulk by its two numbers
abbrev bulk_from : ℕ → ℕ → Bulk
bulk_from posts bytes = record { posts = posts; bytes = bytes }

-- an answer and the pushes that go on, by the number of replicas that they go to
pub pushes_bulk : (number : ℕ) (tag : Tag) (key : KeyId) (stamp : Stamp) (onward : DcSet) (value : List ℕ) (posts bytes : ℕ) →
    posts ≡ 1 + length (centres_of onward) → bytes ≡ 13 + length (centres_of onward) * (35 + length value) →
    record { posts = posts; bytes = bytes } ≡ bulk_of (to_proxy tag (done number tag) ++ pushes_to tag key stamp value onward)
pushes_bulk number tag key stamp onward value posts bytes p b =
    let pushes : List Post = pushes_to tag key stamp value onward in
    let all : List Post = to_proxy tag (done number tag) ++ pushes in
    let answer : Post = record { to = Proxy tag.call.proxy; message = done number tag } in
    let each : bulk_of pushes ≡ bulk_to onward (35 + length value) = bulk_of-each onward (push_to tag key stamp value) (35 + length value) (λ d. omega arith) in
    let many : length pushes ≡ length (centres_of onward) = ap (λ (k : Bulk). k.posts) each in
    let size : sum_by post_size pushes ≡ length (centres_of onward) * (35 + length value) = ap (λ (k : Bulk). k.bytes) each in
    let posts_are : posts ≡ length all = omega (arith, p, many) in
    let bytes_are : bytes ≡ sum_by post_size all = omega (arith, b, size, sum_by-cons post_size answer pushes) in
    ap (λ n. bulk_from n bytes) posts_are ∙ ap (bulk_from (length all)) bytes_are

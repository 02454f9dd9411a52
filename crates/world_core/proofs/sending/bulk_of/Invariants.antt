use Rattle.std.proofs.Common.{◌≡◌, ◌≤◌, ◌*◌, take}
use Rattle.std.specs.Prelude.{sum_by}
use Rattle.wire_msg.specs.Sizes.{frame_size}
use Rattle.wire_msg.specs.declared.outputs.Post.{Post}
use Rattle.world_core.proofs.sending.bulk_of.Given as goal

abbrev pub invariant-loop-post : goal.invariant-loop-post
invariant-loop-post l = (l.bytes ≡ sum_by (λ (post : Post). frame_size post.message) (take l.post-index l.posts)) × (l.bytes ≤ l.post-index * 8192)

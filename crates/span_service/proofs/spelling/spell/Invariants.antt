use Rattle.std.proofs.Common.{◌≡◌, ◌++◌, drop}
use Rattle.span_service.specs.Service.{answer_bytes}
use Rattle.span_service.proofs.spelling.spell.Given as goal

abbrev pub invariant-loop-post : goal.invariant-loop-post
invariant-loop-post l = l.answer.items ++ answer_bytes (drop l.post-index l.posts) ≡ answer_bytes l.posts

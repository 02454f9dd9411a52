use Rattle.world_core.proofs.Sends.{IsSending}
use Rattle.world_core.proofs.sending.send.Given as goal

abbrev pub invariant-loop-post : goal.invariant-loop-post
invariant-loop-post g l = IsSending (g.W.Wire.pushed l.initial.wire) (g.W.Wire.pushed l.wire) (g.W.Wire.room l.wire) l.posts l.post-index

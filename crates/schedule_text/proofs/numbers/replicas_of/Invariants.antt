use Rattle.std.proofs.Common.{◌≡◌, None, Ok}
use Rattle.span_base.specs.DcSet.{no_centre}
use Rattle.schedule_text.specs.Words.{split_at}
use Rattle.schedule_text.specs.Pieces.{pieces, bytes}
use Rattle.schedule_text.specs.Numbers.{replicas_from}
use Rattle.schedule_text.proofs.numbers.replicas_of.Given as goal

abbrev pub invariant-loop-rest : goal.invariant-loop-rest
invariant-loop-rest l = replicas_from l.replicas l.before l.set (pieces 44 l.rest) ≡ replicas_from l.replicas None (Ok no_centre) (split_at 44 l.fn.text)

abbrev pub decreases-loop-rest : goal.decreases-loop-rest
decreases-loop-rest l = bytes l.rest

use Rattle.std.proofs.Common.{◌∙◌}
use Rattle.std.proofs.lemmas.Result.{err_from_is_err_and}
use Rattle.sink_buffer.proofs.Saying.{front_longer, says_behind}
use Rattle.sink_buffer.proofs.buffer.SinkBuffer.put.Goals as goal

pub returns-in_err-flush-clause-puts : goal.returns-in_err-flush-clause-puts
returns-in_err-flush-clause-puts g c from text said =
    let p = err_from_is_err_and c.from_residual.result c.from_residual.ensures.1 in
    rw p.1 (front_longer _ _ _ _ (c.in_err-flush.ensures.flushes from text (rw c.if-keep.ensures said)))

pub returns-clause-puts : goal.returns-clause-puts
returns-clause-puts g c from text said =
    let flushed = c.in_ok-flush.ensures.flushes from text (rw c.if-keep.ensures said) in
    says_behind _ _ _ _ _ _ _ (c.if-keep-2.ensures ∙ flushed.0) flushed.1 c.write_all.ensures.all c.write_all.ensures.front

use Rattle.std.proofs.lemmas.Result.{err_from_is_err_and}
use Rattle.sink_buffer.proofs.Saying.{flushed_front}
use Rattle.sink_buffer.proofs.buffer.SinkBuffer.flush.Goals as goal

pub returns-in_err-write_all-clause-flushes : goal.returns-in_err-write_all-clause-flushes
returns-in_err-write_all-clause-flushes g c from text said =
    let p = err_from_is_err_and c.from_residual.result c.from_residual.ensures.1 in
    rw p.1 (flushed_front _ _ _ _ _ said (rw (← c.self.view_is, ← c.as_slice.ensures.value) c.in_err-write_all.ensures.front))

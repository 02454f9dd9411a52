use Rattle.history_audit.proofs.FromCounted.{none_is_dead, in_order}
use Rattle.history_audit.proofs.laws.counted_calls_keep_clauses.Goals as goal

pub returns : goal.returns
returns c = λ marks kept last drawn top h counts each key. (none_is_dead marks kept last drawn top h counts key, in_order marks kept last drawn top h counts each key)

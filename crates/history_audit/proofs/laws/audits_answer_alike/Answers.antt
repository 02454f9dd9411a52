use Rattle.history_audit.proofs.OneAnswer.{one_answer}
use Rattle.history_audit.proofs.laws.audits_answer_alike.Goals as goal

pub returns : goal.returns
returns c = one_answer

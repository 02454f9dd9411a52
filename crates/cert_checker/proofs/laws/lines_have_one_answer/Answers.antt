use Rattle.cert_checker.proofs.Grounds.{one_answer}
use Rattle.cert_checker.proofs.laws.lines_have_one_answer.Goals as goal

pub returns : goal.returns
returns c = one_answer

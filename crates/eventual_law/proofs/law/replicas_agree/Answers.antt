use Rattle.eventual_law.proofs.AgreeLaw.{replicas_agree}
use Rattle.eventual_law.proofs.law.replicas_agree.Goals as goal

pub returns : goal.returns
returns c = replicas_agree

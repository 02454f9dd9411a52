use Rattle.strong_proxy.proofs.Quorum.{stored_at_quorum}
use Rattle.strong_proxy.proofs.laws.stored_writes_have_their_quorum.Goals as goal

pub returns : goal.returns
returns c = stored_at_quorum

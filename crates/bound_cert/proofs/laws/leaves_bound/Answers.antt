use Rattle.bound_cert.proofs.Duality.{leaf_bound_le}
use Rattle.bound_cert.proofs.laws.leaves_bound.Goals as goal

pub returns : goal.returns
returns c = leaf_bound_le

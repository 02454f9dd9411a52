use Rattle.epoch_directory.proofs.Quorums.{quorum_is}
use Rattle.epoch_directory.proofs.publish.is_quorum_policy.Goals as goal

pub returns : goal.returns
returns c = quorum_is c.args.policy.now c.is_quorum.result c.is_quorum.ensures

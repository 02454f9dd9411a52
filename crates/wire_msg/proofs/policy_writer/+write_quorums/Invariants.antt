use Rattle.std.proofs.Common.{length}
use Rattle.wire_msg.proofs.policy_writer.+write_quorums.Given as goal

abbrev pub decreases-write_quorums : goal.decreases-write_quorums
decreases-write_quorums l = length l.quorums.now

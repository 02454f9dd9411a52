use Rattle.std.proofs.Common.{length}
use Rattle.wire_msg.proofs.policy_writer.+write_parents.Given as goal

abbrev pub decreases-write_parents : goal.decreases-write_parents
decreases-write_parents l = length l.hops.now

use Rattle.std.proofs.Common.{length}
use Rattle.wire_msg.proofs.policy_writer.+write_nears.Given as goal

abbrev pub decreases-write_nears : goal.decreases-write_nears
decreases-write_nears l = length l.nears.now

use Rattle.std.proofs.Common.{length}
use Rattle.wire_msg.proofs.policy_writer.+write_lanes.Given as goal

abbrev pub decreases-write_lanes : goal.decreases-write_lanes
decreases-write_lanes l = length l.nears.now

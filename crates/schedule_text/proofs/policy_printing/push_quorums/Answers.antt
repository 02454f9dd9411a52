use Rattle.std.proofs.Common.{string_bytes}
use Rattle.schedule_text.proofs.Joining.{quorums_all}
use Rattle.schedule_text.proofs.policy_printing.push_quorums.Goals as goal

pub returns : goal.returns
returns c = quorums_all c.args.members.now c.loop-quorum.quorum-index (string_bytes c.args.text.now) (string_bytes c.loop-quorum.text) c.loop-quorum-test.false c.loop-quorum.invariant

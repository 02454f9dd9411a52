use Rattle.std.proofs.Common.{string_bytes}
use Rattle.schedule_text.proofs.Joining.{nears_all}
use Rattle.schedule_text.proofs.policy_printing.push_nears.Goals as goal

pub returns : goal.returns
returns c = nears_all c.args.primary.now c.loop-near.near-index (string_bytes c.args.text.now) (string_bytes c.loop-near.text) c.loop-near-test.false c.loop-near.invariant

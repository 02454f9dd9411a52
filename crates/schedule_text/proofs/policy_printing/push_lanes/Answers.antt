use Rattle.std.proofs.Common.{string_bytes, refl}
use Rattle.schedule_text.proofs.Joining.{lanes_none, lanes_more}
use Rattle.schedule_text.proofs.policy_printing.push_lanes.Goals as goal

pub loop-near-preserved : goal.loop-near-preserved
loop-near-preserved c =
    lanes_more c.args.count c.min.result c.loop-near.rest.now c.args.primary.now c.loop-near.near-index _ _ (string_bytes c.loop-near.text) (string_bytes c.push_lane.new.text) _ c.split_at.result.0.now c.split_at.result.1.now
    c.loop-near-test.true refl c.min.ensures c.split_at.ensures.front c.split_at.ensures.back c.loop-near.invariant c.in_ok-push_lane.ensures

pub returns : goal.returns
returns c = lanes_none c.args.count c.loop-near.rest.now c.args.primary.now c.loop-near.near-index (string_bytes c.loop-near.text) _ c.loop-near-test.false c.loop-near.invariant

use Rattle.std.proofs.Common.{ap, ◌∙◌}
use Rattle.wire_msg.specs.Sizes.{bulk_of}
use Rattle.wire_msg.specs.Outputs.{Step}
use Rattle.strong_proxy.specs.declared.state.CallState.{CallState}
use Rattle.strong_proxy.specs.Counting.{counted}
use Rattle.strong_proxy.specs.Rule.{next_of}
use Rattle.strong_proxy.proofs.Rows.{done_parts}
use Rattle.strong_proxy.proofs.Sent.{bulk_of-sent}
use Rattle.strong_proxy.proofs.state.CallState.answer_bulk.Goals as goal

pub returns : goal.returns
returns c =
    let now = counted c.args.self.now c.args.message.now in
    let next = next_of now c.args.view.now c.args.seen in
    let sent = ap (λ (s : Step CallState). bulk_of s.out.posts) (done_parts next now) ∙ bulk_of-sent next now.work now.best now.progress in
    cc sent

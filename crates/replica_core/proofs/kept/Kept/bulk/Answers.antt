use Rattle.std.proofs.Common.{ap, ◌∙◌}
use Rattle.wire_msg.specs.Sizes.{bulk_of}
use Rattle.replica_core.specs.Verdict.{posts_by}
use Rattle.replica_core.proofs.Judging.{posts_by_verdict}
use Rattle.replica_core.proofs.kept.Kept.bulk.Goals as goal

pub returns : goal.returns
returns c = λ number.
    c.bulk_by.ensures number
    ∙ ap (λ verdict. bulk_of (posts_by verdict number c.args.self.now c.args.message.now)) c.judge.ensures
    ∙ ap bulk_of (posts_by_verdict number c.args.self.now c.args.message.now)

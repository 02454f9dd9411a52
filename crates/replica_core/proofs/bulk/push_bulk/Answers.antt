use Rattle.std.proofs.Common.{ap, ◌∙◌, arith, ◌+◌, ◌*◌, length}
use Rattle.span_base.specs.DcSet.{centres_of}
use Rattle.replica_core.proofs.Sizes.{pushes_bulk}
use Rattle.replica_core.proofs.bulk.push_bulk.Goals as goal

pub returns : goal.returns
returns c = λ number tag key stamp.
    pushes_bulk number tag key stamp c.args.onward c.args.value.now _ _ (omega arith)
    (c.from.ensures
    ∙ ap (λ count. 13 + count * (35 + c.len.result)) c.count-count.ensures.count
    ∙ ap (λ len. 13 + length (centres_of c.args.onward) * (35 + len)) c.len.ensures.value)

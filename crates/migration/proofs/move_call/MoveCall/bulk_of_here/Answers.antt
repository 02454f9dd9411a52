use Rattle.std.proofs.Common.{◌≡◌, sym, ◌∙◌, subst, ne_eqb}
use Rattle.wire_msg.specs.Sizes.{bulk_of}
use Rattle.migration.specs.declared.stage.Epoch.{Epoch}
use Rattle.migration.specs.Move.{Moving, epoch_at, on_here}
use Rattle.migration.proofs.Steps.{here_bulk}
use Rattle.migration.proofs.move_call.MoveCall.bulk_of_here.Goals as goal

pub returns : goal.returns
returns g c = λ latest.
    let told : Epoch = epoch_at c.args.epoch c.args.policy.now in
    let last : Epoch = epoch_at c.args.latest_epoch latest in
    subst (λ (call : Moving). c.to_each.result ≡ bulk_of (on_here call call.stage c.args.tag.now told last).out.posts) c.self.view_is
    (rw (c.to_each.ensures, c.replicas.ensures) (sym (here_bulk _ c.args.tag.now told last c.in-Looking.is (sym c.has_tag.ensures ∙ c.if-not-has_tag.false) (ne_eqb _ _ c.if-epoch-latest_epoch.false))))

use Rattle.std.proofs.Common.{◌≡◌, sym, ap, ◌∙◌, subst}
use Rattle.std.specs.Prelude.{Err}
use Rattle.epoch_directory.specs.declared.table.PublishFault.TheVariants as fault
use Rattle.epoch_directory.specs.Tables.{PublishEnds, next_epoch}
use Rattle.span_base.specs.declared.words.What.TheVariants.{Epochs}
use Rattle.world_core.specs.declared.event.StepFault.TheVariants.{Limit}
use Rattle.world_core.specs.Step.{publish}
use Rattle.world_core.proofs.Published.{full}
use Rattle.world_core.proofs.publishing.open_epoch.Goals as goal

pub returns-in-Err-Limit-clause-ends : goal.returns-in-Err-Limit-clause-ends
returns-in-Err-Limit-clause-ends c =
    let is : c.publish.result ≡ Err (fault.Limit c.in-Err-Limit.number) = c.in-Err-Limit.is ∙ ap Err c.in-Err-Limit.field-0-is in
    let ends : Err (fault.Limit c.in-Err-Limit.number) ≡ next_epoch c.args.directory.now c.args.table.items = subst (PublishEnds c.args.directory.now c.args.table.items) is c.publish.ensures.ends in
    (λ s here. subst (λ n. publish s c.args.table.items ≡ Err (Limit Epochs n)) (sym c.from.ensures) (full c.args.directory.now c.args.table.items c.in-Err-Limit.number ends s here), c.in-Err-Limit.ensures.err)

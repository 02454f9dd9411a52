use Rattle.std.proofs.Common.{ap, sym, ◌∙◌}
use Rattle.wire_msg.specs.Outputs.{Step}
use Rattle.wire_msg.specs.Sizes.{bulk_of}
use Rattle.migration.specs.Move.{Moving}
use Rattle.migration.proofs.Steps.{step_other}
use Rattle.migration.proofs.move_call.MoveCall.bulk.Goals as goal

pub returns-in_default : goal.returns-in_default
returns-in_default g c =
    let k = c.in_default in
    c.none.ensures ∙ ap (λ (s : Step Moving). bulk_of s.out.posts) (sym (step_other _ _ _ k.not-Have k.not-Yes k.not-Gone k.not-Here k.not-Switched))

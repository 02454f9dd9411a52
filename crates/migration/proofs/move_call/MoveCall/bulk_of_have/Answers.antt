use Rattle.std.proofs.Common.{◌≡◌, ap, sym, ◌∙◌, subst}
use Rattle.wire_msg.specs.Sizes.{bulk_of}
use Rattle.call_phase.specs.declared.phase.Phase.{Phase}
use Rattle.migration.specs.Move.{Moving, on_have}
use Rattle.migration.proofs.Steps.{have_bulk}
use Rattle.migration.proofs.move_call.MoveCall.bulk_of_have.Goals as goal

pub returns-then-is_frozen : goal.returns-then-is_frozen
returns-then-is_frozen g c =
    let k = c.in-Freezing in
    let rule = g.R.MoveRule.rule in
    let frozen = ap (λ (p : Phase). rule.is_frozen k.old.policy p) (sym c.take_good.ensures) ∙ sym c.is_frozen.ensures ∙ c.if-is_frozen.true in
    subst (λ (call : Moving). c.to_each.result ≡ bulk_of (on_have rule call call.stage c.args.tag.now c.args.replica c.args.stamp.now c.args.value.now).out.posts) c.self.view_is
    (rw (c.to_each.ensures, c.seed_set.ensures, c.len.ensures.value)
    (sym (have_bulk rule _ k.old k.new k.best _ c.args.tag.now c.args.replica c.args.stamp.now c.args.value.now k.is (sym c.counts.ensures.counts ∙ c.if-not-counts.false) frozen (sym c.greatest-found.ensures.better))))

use Rattle.std.proofs.Common.{◌∙◌, sym}
use Rattle.std.proofs.lemmas.Result.{err_from_is_err_and}
use Rattle.plan_check.proofs.Ends.{said_nothing, hands_checked, hands_nothing, hands_refused, hands_failed, wanting_is, not_wanting, ends_unsaid}
use Rattle.plan_check.proofs.check.check_plan.Goals as goal

pub returns-in_err-told-clause-checks : goal.returns-in_err-told-clause-checks
returns-in_err-told-clause-checks g c =
    let p = err_from_is_err_and c.from_residual.result c.from_residual.ensures.1 in
    rw (p.1, p.2) (ends_unsaid c.args.world.now (g.S.Shelf.files c.args.shelf.now) c.args.name.now (g.K.Sink.taken c.args.out.now))

pub returns-in-Ok-clause-checks : goal.returns-in-Ok-clause-checks
returns-in-Ok-clause-checks g c =
    let w = c.args.world.now in
    let files = g.S.Shelf.files c.args.shelf.now in
    let name = c.args.name.now in
    let from = g.K.Sink.taken c.args.out.now in
    let mid = g.K.Sink.taken c.check_text.new.out in
    let kept = c.check_text.new.told in
    let said = said_nothing from c.in_ok-told.told c.in_ok-told.ensures in
    hands_checked w files name from mid _ kept c.hand_over.result (c.in-Ok.ensures.checks from said) (λ text s. c.hand_over.ensures.hands from text s)

pub returns-then-is_wanting-clause-checks : goal.returns-then-is_wanting-clause-checks
returns-then-is_wanting-clause-checks g c =
    let w = c.args.world.now in
    let files = g.S.Shelf.files c.args.shelf.now in
    let name = c.args.name.now in
    let from = g.K.Sink.taken c.args.out.now in
    let mid = g.K.Sink.taken c.check_text.new.out in
    let kept = c.check_text.new.told in
    let said = said_nothing from c.in_ok-told.told c.in_ok-told.ensures in
    let wanting = wanting_is c.in-Err.fault (sym c.is_wanting.ensures ∙ c.if-is_wanting.true) in
    hands_nothing w files name from mid kept c.in-Err.fault wanting (c.in-Err.ensures.checks from said)

pub returns-in_err-hand_over-in-Err-clause-checks : goal.returns-in_err-hand_over-in-Err-clause-checks
returns-in_err-hand_over-in-Err-clause-checks g c =
    let w = c.args.world.now in
    let files = g.S.Shelf.files c.args.shelf.now in
    let name = c.args.name.now in
    let from = g.K.Sink.taken c.args.out.now in
    let mid = g.K.Sink.taken c.check_text.new.out in
    let kept = c.check_text.new.told in
    let said = said_nothing from c.in_ok-told.told c.in_ok-told.ensures in
    let sound = not_wanting c.in-Err.fault (sym c.is_wanting.ensures ∙ c.if-is_wanting.false) in
    let failed = c.in_err-hand_over-in-Err.field-0.0 in
    let p = err_from_is_err_and c.from_residual-in_err-hand_over-in-Err.result c.from_residual-in_err-hand_over-in-Err.ensures.1 in
    rw (p.1, p.2) (hands_failed w files name from mid _ kept c.in-Err.fault failed sound (c.in-Err.ensures.checks from said) (λ text s. c.in_err-hand_over-in-Err.ensures.hands from text s))

pub returns-clause-checks : goal.returns-clause-checks
returns-clause-checks g c =
    let w = c.args.world.now in
    let files = g.S.Shelf.files c.args.shelf.now in
    let name = c.args.name.now in
    let from = g.K.Sink.taken c.args.out.now in
    let mid = g.K.Sink.taken c.check_text.new.out in
    let kept = c.check_text.new.told in
    let said = said_nothing from c.in_ok-told.told c.in_ok-told.ensures in
    let sound = not_wanting c.in-Err.fault (sym c.is_wanting.ensures ∙ c.if-is_wanting.false) in
    hands_refused w files name from mid _ kept c.in-Err.fault sound (c.in-Err.ensures.checks from said) (λ text s. c.in_ok-hand_over-in-Err.ensures.hands from text s)

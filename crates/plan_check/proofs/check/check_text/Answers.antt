use Rattle.std.proofs.Common.{◌≡◌, [], ◌∙◌, refl, inr}
use Rattle.std.proofs.lemmas.Result.{err_from_is_err_and}
use Rattle.std.specs.Prelude.{Ok, Err}
use Rattle.plan_check.specs.Places.{parts_read}
use Rattle.plan_check.specs.Reading.{HasRead}
use Rattle.plan_check.specs.Plans.{ChecksSets, ReadsEnd, at_start, told_from}
use Rattle.plan_check.proofs.Ends.{ends_first, ends_wanting, ends_part, ends_last, ends_checked, sets_at, end_at}
use Rattle.plan_check.proofs.check.check_text.Goals as goal

pub returns-in_err-lines-clause-checks : goal.returns-in_err-lines-clause-checks
returns-in_err-lines-clause-checks g c = (λ from said.
    let w = c.args.world.now in
    let files = g.S.Shelf.files c.args.shelf.now in
    let name = c.args.name.now in
    let p = err_from_is_err_and c.from_residual.result c.from_residual.ensures.1 in
    rw (p.1, p.2) (ends_wanting w files name from _ _ _ (inr refl) said))

pub returns-in_err-read_begin-clause-checks : goal.returns-in_err-read_begin-clause-checks
returns-in_err-read_begin-clause-checks g c = (λ from said.
    let w = c.args.world.now in
    let files = g.S.Shelf.files c.args.shelf.now in
    let name = c.args.name.now in
    let p = err_from_is_err_and c.from_residual-in_err-read_begin.result c.from_residual-in_err-read_begin.ensures.1 in
    let fault = c.in_err-read_begin.field-0.0 in
    rw (p.1, p.2) (ends_first w files name from _ _ fault (at_start refl (c.in_err-read_begin.ensures.reads (c.in_ok-lines.ensures files name))) said))

pub returns-in_err-check_sets-clause-checks : goal.returns-in_err-check_sets-clause-checks
returns-in_err-check_sets-clause-checks g c = (λ from said.
    let w = c.args.world.now in
    let files = g.S.Shelf.files c.args.shelf.now in
    let name = c.args.name.now in
    let same_1 : g.S.Shelf.files c.read_begin.new.shelf ≡ files = c.in_ok-read_begin.ensures.files_stay in
    let begun : HasRead files name (parts_read w []) c.read_begin.new.lines = c.in_ok-read_begin.ensures.reads (c.in_ok-lines.ensures files name) in
    let p = err_from_is_err_and c.from_residual-in_err-check_sets.result c.from_residual-in_err-check_sets.ensures.1 in
    let fault = c.in_err-check_sets.field-0.0 in
    let stops : ChecksSets w files name from (g.K.Sink.taken c.check_sets.new.out) c.check_sets.new.lines c.check_sets.new.told (Err fault) =
    sets_at w files (g.S.Shelf.files c.read_begin.new.shelf) name from _ c.read_begin.new.lines c.check_sets.new.lines c.check_sets.new.told (Err fault) same_1
    (λ read. c.in_err-check_sets.ensures.checks from read said) begun in
    rw (p.1, p.2) (ends_part w files name from _ _ stops.0 fault stops.1))

pub returns-in_err-read_end-clause-checks : goal.returns-in_err-read_end-clause-checks
returns-in_err-read_end-clause-checks g c = (λ from said.
    let w = c.args.world.now in
    let files = g.S.Shelf.files c.args.shelf.now in
    let name = c.args.name.now in
    let same_1 : g.S.Shelf.files c.read_begin.new.shelf ≡ files = c.in_ok-read_begin.ensures.files_stay in
    let begun : HasRead files name (parts_read w []) c.read_begin.new.lines = c.in_ok-read_begin.ensures.reads (c.in_ok-lines.ensures files name) in
    let same_2 : g.S.Shelf.files c.check_sets.new.shelf ≡ files = c.in_ok-check_sets.ensures.files_stay ∙ same_1 in
    let sets : ChecksSets w files name from (g.K.Sink.taken c.check_sets.new.out) c.check_sets.new.lines c.check_sets.new.told (Ok tt) =
    sets_at w files (g.S.Shelf.files c.read_begin.new.shelf) name from _ c.read_begin.new.lines c.check_sets.new.lines c.check_sets.new.told (Ok tt) same_1
    (λ read. c.in_ok-check_sets.ensures.checks from read said) begun in
    let parts = sets.0 in
    let text = parts_read w parts in
    let p = err_from_is_err_and c.from_residual-in_err-read_end.result c.from_residual-in_err-read_end.ensures.1 in
    let fault = c.in_err-read_end.field-0.0 in
    let ends : ReadsEnd files name text (Err fault) =
    end_at files (g.S.Shelf.files c.check_sets.new.shelf) name text c.check_sets.new.lines (Err fault) same_2 (c.in_err-read_end.ensures.reads text) sets.2.read in
    rw (p.1, p.2) (ends_last w files name from _ c.check_sets.new.lines _ parts fault sets.1 sets.2 ends))

pub returns-clause-checks : goal.returns-clause-checks
returns-clause-checks g c = (λ from said.
    let w = c.args.world.now in
    let files = g.S.Shelf.files c.args.shelf.now in
    let name = c.args.name.now in
    let same_1 : g.S.Shelf.files c.read_begin.new.shelf ≡ files = c.in_ok-read_begin.ensures.files_stay in
    let begun : HasRead files name (parts_read w []) c.read_begin.new.lines = c.in_ok-read_begin.ensures.reads (c.in_ok-lines.ensures files name) in
    let same_2 : g.S.Shelf.files c.check_sets.new.shelf ≡ files = c.in_ok-check_sets.ensures.files_stay ∙ same_1 in
    let sets : ChecksSets w files name from (g.K.Sink.taken c.check_sets.new.out) c.check_sets.new.lines c.check_sets.new.told (Ok tt) =
    sets_at w files (g.S.Shelf.files c.read_begin.new.shelf) name from _ c.read_begin.new.lines c.check_sets.new.lines c.check_sets.new.told (Ok tt) same_1
    (λ read. c.in_ok-check_sets.ensures.checks from read said) begun in
    let parts = sets.0 in
    let text = parts_read w parts in
    let ends : ReadsEnd files name text (Ok tt) =
    end_at files (g.S.Shelf.files c.check_sets.new.shelf) name text c.check_sets.new.lines (Ok tt) same_2 (c.in_ok-read_end.ensures.reads text) sets.2.read in
    ends_checked w files name from _ _ c.check_sets.new.lines _ _ parts c.say.result sets.1 sets.2 ends (c.say.ensures.says from (told_from w 0 parts) sets.2.said))

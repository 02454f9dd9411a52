use Rattle.std.proofs.Common.{◌∙◌, refl, inl, arith}
use Rattle.std.proofs.lemmas.Result.{err_from_is_err_and}
use Rattle.std.specs.Prelude.{Ok, Err}
use Rattle.plan_check.specs.Checks.{ReadsPart}
use Rattle.plan_check.specs.Plans.{told_from}
use Rattle.plan_check.proofs.Sets.{checked_none, checked_more, stops_telling, part_at}
use Rattle.plan_check.proofs.check.check_sets.Goals as goal

pub sets-init : goal.sets-init
sets-init g c = record {
  so_far = (λ from read said. checked_none c.args.world.now (g.S.Shelf.files c.args.shelf.now) c.args.name.now from (g.K.Sink.taken c.args.out.now) c.args.lines.now c.args.told.now read said);
  files_stay = refl;
  faults_stay = omega arith;
  absences_stay = omega arith;
  write_faults_stay = omega arith;
}

pub returns-in_err-cost-clause-checks : goal.returns-in_err-cost-clause-checks
returns-in_err-cost-clause-checks g c = (λ from read said.
    let w = c.args.world.now in
    let files = g.S.Shelf.files c.args.shelf.now in
    let so_far = c.sets.invariant.so_far from read said in
    let fault = c.in_err-cost.field-0.0 in
    let p = err_from_is_err_and c.from_residual.result c.from_residual.ensures.1 in
    let stops : ReadsPart w files c.args.name.now so_far.parts c.read_part.new.lines (Err fault) =
    part_at w files (g.S.Shelf.files c.sets.shelf) c.args.name.now so_far.parts c.sets.lines c.read_part.new.lines (Err fault) c.sets.invariant.files_stay
    (c.in_err-cost.ensures.reads so_far.parts so_far.count) so_far.checked.read in
    rw (p.1, p.2) (
      so_far.parts,
      record {
        few = omega (arith, so_far.count);
        accepted = so_far.checked.accepted;
        why = inl (omega (arith, so_far.count), stops, so_far.checked.said);
      },
    ))

pub returns-in_err-tell-clause-checks : goal.returns-in_err-tell-clause-checks
returns-in_err-tell-clause-checks g c = (λ from read said.
    let w = c.args.world.now in
    let files = g.S.Shelf.files c.args.shelf.now in
    let so_far = c.sets.invariant.so_far from read said in
    let fault = c.in_err-tell.field-0.0 in
    let p = err_from_is_err_and c.from_residual-in_err-tell.result c.from_residual-in_err-tell.ensures.1 in
    let next : ReadsPart w files c.args.name.now so_far.parts c.read_part.new.lines (Ok c.in_ok-cost.cost) =
    part_at w files (g.S.Shelf.files c.sets.shelf) c.args.name.now so_far.parts c.sets.lines c.read_part.new.lines (Ok c.in_ok-cost.cost) c.sets.invariant.files_stay
    (c.in_ok-cost.ensures.reads so_far.parts so_far.count) so_far.checked.read in
    rw (p.1, p.2) (stops_telling w files c.args.name.now from _ c.read_part.new.lines _ so_far.parts c.sets.number c.in_ok-cost.cost fault so_far.checked.accepted so_far.count (omega arith) next
    (c.in_err-tell.ensures.tells from (told_from w 0 so_far.parts) so_far.checked.said)))

pub sets-preserved : goal.sets-preserved
sets-preserved g c = record {
  so_far = (λ from read said.
      let w = c.args.world.now in
      let files = g.S.Shelf.files c.args.shelf.now in
      let so_far = c.sets.invariant.so_far from read said in
      let next : ReadsPart w files c.args.name.now so_far.parts c.read_part.new.lines (Ok c.in_ok-cost.cost) =
      part_at w files (g.S.Shelf.files c.sets.shelf) c.args.name.now so_far.parts c.sets.lines c.read_part.new.lines (Ok c.in_ok-cost.cost) c.sets.invariant.files_stay
      (c.in_ok-cost.ensures.reads so_far.parts so_far.count) so_far.checked.read in
      checked_more w files c.args.name.now from _ c.read_part.new.lines _ so_far.parts c.sets.number c.in_ok-cost.cost so_far.checked.accepted so_far.count next
      (c.in_ok-tell.ensures.tells from (told_from w 0 so_far.parts) so_far.checked.said));
  files_stay = c.in_ok-cost.ensures.files_stay ∙ c.sets.invariant.files_stay;
  faults_stay = omega (arith, c.in_ok-cost.ensures.faults_stay);
  absences_stay = omega (arith, c.in_ok-cost.ensures.absences_stay);
  write_faults_stay = omega (arith, c.in_ok-tell.ensures.faults_stay);
}

pub returns-clause-checks : goal.returns-clause-checks
returns-clause-checks g c = (λ from read said.
    let so_far = c.sets.invariant.so_far from read said in
    (so_far.parts, omega (arith, so_far.count, c.sets-test.false, c.sets-number-end.ensures, c.sets.auto.number-end), so_far.checked))

use Rattle.std.proofs.Common.{◌∙◌, Ok, sym, ap}
use Rattle.std.proofs.lemmas.Result.{err_from_is_err_and}
use Rattle.machine_text.specs.Rows.{records_left}
use Rattle.machine_text.proofs.Taking.{all_taken, no_opening, no_unit, no_machine, no_end}
use Rattle.machine_text.proofs.read.take_all.Goals as goal

pub returns-in_err-take_opening : goal.returns-in_err-take_opening
returns-in_err-take_opening c =
    let p = err_from_is_err_and c.from_residual.result c.from_residual.ensures.1 in
    rw (p.1, p.2) (no_opening c.args.world.now (records_left c.args.rows.now) c.in_err-take_opening.field-0.0 c.in_err-take_opening.ensures.fault)

pub returns-in_err-unit : goal.returns-in_err-unit
returns-in_err-unit c =
    let p = err_from_is_err_and c.from_residual-in_err-unit.result c.from_residual-in_err-unit.ensures.1 in
    rw (p.1, p.2) (no_unit c.args.world.now (records_left c.args.rows.now) (records_left c.take_opening.new.rows) c.in_err-unit.field-0.0 c.in_ok-take_opening.ensures.opening c.in_err-unit.ensures.fault)

pub returns-in_err-machines : goal.returns-in_err-machines
returns-in_err-machines c =
    let p = err_from_is_err_and c.from_residual-in_err-machines.result c.from_residual-in_err-machines.ensures.1 in
    rw (p.1, p.2)
    (no_machine c.args.world.now (records_left c.args.rows.now) (records_left c.take_opening.new.rows) (records_left c.take_unit.new.rows) c.in_ok-unit.unit c.in_err-machines.field-0.0
    c.in_ok-take_opening.ensures.opening c.in_ok-unit.ensures.unit c.in_err-machines.ensures.fault)

pub returns-in_err-take_end : goal.returns-in_err-take_end
returns-in_err-take_end c =
    let p = err_from_is_err_and c.from_residual-in_err-take_end.result c.from_residual-in_err-take_end.ensures.1 in
    rw (p.1, p.2)
    (no_end c.args.world.now (records_left c.args.rows.now) (records_left c.take_opening.new.rows) (records_left c.take_unit.new.rows) (records_left c.take_machines.new.rows) c.in_ok-unit.unit c.in_ok-machines.machines.items c.in_err-take_end.field-0.0
    c.in_ok-take_opening.ensures.opening c.in_ok-unit.ensures.unit c.in_ok-machines.ensures.machines (rw (c.from.ensures, c.centre_count.ensures.count) at c.in_err-take_end.ensures.fault))

pub returns : goal.returns
returns c =
    all_taken c.args.world.now (records_left c.args.rows.now) (records_left c.take_opening.new.rows) (records_left c.take_unit.new.rows) (records_left c.take_machines.new.rows) c.in_ok-unit.unit c.in_ok-machines.machines.items
    c.in_ok-take_opening.ensures.opening c.in_ok-unit.ensures.unit c.in_ok-machines.ensures.machines (rw (c.from.ensures, c.centre_count.ensures.count) at c.in_ok-take_end.ensures.ended)
    ∙ ap Ok (sym c.make.ensures)

use Rattle.std.proofs.Common.{◌∙◌, sym}
use Rattle.std.proofs.lemmas.Result.{err_from_is_err_and}
use Rattle.csv.specs.Records.{fields_of}
use Rattle.machine_text.specs.Rows.{records_left}
use Rattle.machine_text.specs.Spelled.{machine_of}
use Rattle.machine_text.proofs.Taking.{lacking, next_ok, next_err}
use Rattle.machine_text.proofs.read.take_machine.Goals as goal

pub returns-in_err-row-clause-fault : goal.returns-in_err-row-clause-fault
returns-in_err-row-clause-fault c =
    let p = err_from_is_err_and c.from_residual.result c.from_residual.ensures.1 in
    rw (p.1, p.2) (lacking (machine_of c.args.name.now) c.args.line (records_left c.args.rows.now) c.in_err-row.field-0.0 c.in_err-row.ensures.fault)

pub returns-in-Ok-clause-machine : goal.returns-in-Ok-clause-machine
returns-in-Ok-clause-machine c =
    next_ok (machine_of c.args.name.now) c.args.line (records_left c.args.rows.now) (records_left c.due_row.new.rows) (fields_of c.in_ok-row.row) c.in-Ok.machine c.in_ok-row.ensures.row (sym c.machine_of.ensures.machine ∙ c.in-Ok.is)

pub returns-clause-fault : goal.returns-clause-fault
returns-clause-fault c =
    rw c.at.ensures (next_err (machine_of c.args.name.now) c.args.line (records_left c.args.rows.now) (records_left c.due_row.new.rows) (fields_of c.in_ok-row.row) c.in-Err.fault c.in_ok-row.ensures.row (sym c.machine_of.ensures.machine ∙ c.in-Err.is))

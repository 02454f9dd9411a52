use Rattle.std.proofs.Common.{[], Err, ◌∙◌}
use Rattle.std.proofs.lemmas.Result.{err_from_is_err_and}
use Rattle.csv.specs.Records.{fields_of}
use Rattle.toml.specs.View.{table_view}
use Rattle.world_text.specs.Spelled.{version_of}
use Rattle.world_text.specs.Toml.{version_told}
use Rattle.world_text.specs.Taken.{array_entries}
use Rattle.world_text.proofs.Documents.{document_from, tables_from}
use Rattle.world_text.proofs.Taking.{said}
use Rattle.world_text.proofs.toml_text.read_document.Goals as goal

pub returns-in_err-take_row : goal.returns-in_err-take_row
returns-in_err-take_row c =
    let t = table_view c.args.document.now in
    let arrays = c.in-Some.arrays in
    let d = c.in_ok-make.field-0 in
    let row = fields_of c.in_ok-first_record.field-0 in
    let fault = c.in_err-take_row.field-0.0 in
    let p = err_from_is_err_and c.from_residual-in_err-take_row.result c.from_residual-in_err-take_row.ensures.1 in
    rw (p.1, p.2)
    (said (Err fault) (document_from t arrays d row c.in-Some.ensures.some c.in_ok-make.ensures c.in_ok-first_record.ensures)
    (c.in_err-take_row.ensures.fault (array_entries (version_told (version_of row)) arrays)))

pub returns-in_err-take_arrays : goal.returns-in_err-take_arrays
returns-in_err-take_arrays c =
    let t = table_view c.args.document.now in
    let arrays = c.in-Some.arrays in
    let d = c.in_ok-make.field-0 in
    let row = fields_of c.in_ok-first_record.field-0 in
    let fault = c.in_err-take_arrays.field-0.0 in
    let p = err_from_is_err_and c.from_residual-in_err-take_arrays.result c.from_residual-in_err-take_arrays.ensures.1 in
    let first = c.in_ok-take_row.ensures in
    rw (p.1, p.2)
    (said (Err fault)
    (tables_from t arrays d c.take_row.new.self.draft row c.take_row.new.self.line c.in-Some.ensures.some c.in_ok-make.ensures c.in_ok-first_record.ensures first.ok first.line)
    (c.in_err-take_arrays.ensures.fault []))

pub returns : goal.returns
returns c =
    let t = table_view c.args.document.now in
    let arrays = c.in-Some.arrays in
    let d = c.in_ok-make.field-0 in
    let row = fields_of c.in_ok-first_record.field-0 in
    let first = c.in_ok-take_row.ensures in
    said c.complete_at.result
    (tables_from t arrays d c.take_row.new.self.draft row c.take_row.new.self.line c.in-Some.ensures.some c.in_ok-make.ensures c.in_ok-first_record.ensures first.ok first.line ∙ c.in_ok-take_arrays.ensures.ok [])
    c.complete_at.ensures

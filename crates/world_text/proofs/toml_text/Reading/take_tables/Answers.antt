use Rattle.std.proofs.Common.{◌≡◌, ◌+◌, Some, None, List, ◌∷◌, ◌++◌, map, drop, sym, ap, refl, ◌∙◌, arith, Err}
use Rattle.std.proofs.lemmas.Result.{err_from_is_err_and}
use Rattle.span_base.specs.declared.words.Cause.TheVariants as cause
use Rattle.csv.specs.Records.{fields_of}
use Rattle.world_text.specs.declared.fault.Fault.TheVariants.{Bad}
use Rattle.world_text.specs.ReadWorld.{Entry, read_from}
use Rattle.world_text.specs.Taken.{entry_of}
use Rattle.world_text.proofs.Taking.{taken_from, refused_from, said, next_entry}
use Rattle.world_text.proofs.toml_text.Reading.take_tables.Goals as goal

pub loop-table-preserved : goal.loop-table-preserved
loop-table-preserved c =
    let inv = c.loop-table.invariant in
    let entry = entry_of c.args.version c.args.kind in
    let values = c.args.tables.now in
    let i = c.loop-table.table-index in
    let row = fields_of c.fill_record.new.row in
    let line = c.loop-table.self.line in
    let d = c.loop-table.self.draft in
    let is : entry c.table-item.result ≡ Some row = rw c.if-not-branch.false at c.in_ok-fill_record.ensures in
    record {
      in_centres = c.in_ok-take_row.ensures.in_centres;
      line = omega (arith, c.in_ok-take_row.ensures.line);
      leads = λ more.
          let rest = map entry (drop (i + 1) values) ++ more in
          inv.leads more
          ∙ ap (read_from line d) (next_entry entry values i c.table-item.result more c.loop-table-test.true c.table-item.is)
          ∙ ap (λ (e : Entry). read_from line d (e ∷ rest)) is
          ∙ taken_from line d c.take_row.new.self.draft (Some row) rest c.in_ok-take_row.ensures.ok
          ∙ ap (λ n. read_from n c.take_row.new.self.draft rest) (sym c.in_ok-take_row.ensures.line);
    }

pub returns-then-not-branch-clause-fault : goal.returns-then-not-branch-clause-fault
returns-then-not-branch-clause-fault c = λ more.
    let inv = c.loop-table.invariant in
    let entry = entry_of c.args.version c.args.kind in
    let values = c.args.tables.now in
    let i = c.loop-table.table-index in
    let line = c.loop-table.self.line in
    let d = c.loop-table.self.draft in
    let is : entry c.table-item.result ≡ None = rw c.if-not-branch.true at c.in_ok-fill_record.ensures in
    let rest = map entry (drop (i + 1) values) ++ more in
    inv.leads more
    ∙ ap (read_from line d) (next_entry entry values i c.table-item.result more c.loop-table-test.true c.table-item.is)
    ∙ ap (λ (e : Entry). read_from line d (e ∷ rest)) is
    ∙ refused_from line d (Bad cause.Key) None rest refl

pub returns-in_err-take_row-clause-fault : goal.returns-in_err-take_row-clause-fault
returns-in_err-take_row-clause-fault c =
    let inv = c.loop-table.invariant in
    let entry = entry_of c.args.version c.args.kind in
    let values = c.args.tables.now in
    let i = c.loop-table.table-index in
    let row = fields_of c.fill_record.new.row in
    let line = c.loop-table.self.line in
    let d = c.loop-table.self.draft in
    let is : entry c.table-item.result ≡ Some row = rw c.if-not-branch.false at c.in_ok-fill_record.ensures in
    let p = err_from_is_err_and c.from_residual-in_err-take_row.result c.from_residual-in_err-take_row.ensures.1 in
    rw (p.1, p.2)
    (λ (more : List Entry).
    let rest = map entry (drop (i + 1) values) ++ more in
    said (Err c.in_err-take_row.field-0.0)
    (inv.leads more
    ∙ ap (read_from line d) (next_entry entry values i c.table-item.result more c.loop-table-test.true c.table-item.is)
    ∙ ap (λ (e : Entry). read_from line d (e ∷ rest)) is) (c.in_err-take_row.ensures.fault rest))

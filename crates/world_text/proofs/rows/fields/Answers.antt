use Rattle.std.proofs.Common.{◌≡◌, ◌∙◌, true, rules, refl, sym}
use Rattle.std.specs.Result.{is_ok}
use Rattle.std.proofs.lemmas.List.{map-append}
use Rattle.csv.specs.Records.{fields_of}
use Rattle.world_text.proofs.RowFields.{take-field, take-all_fields}
use Rattle.world_text.proofs.rows.fields.Goals as goal

pub loop-field-preserved : goal.loop-field-preserved
loop-field-preserved c =
    let inv = c.loop-field.invariant in
    let good : is_ok c.push.result ≡ true = search rules in
    let items = rw good at c.push.ensures.items in
    let step = rw (c.in-Some.is, inv.1) at c.next.ensures in
    let more = take-field (fields_of c.args.row.now) c.loop-field.field-iterator.at c.in-Some.field.now step.steps.1 in
    (rw (items, map-append, inv.0, step.steps.2) (sym more), rw step.steps.0 refl)

pub returns : goal.returns
returns c =
    let inv = c.loop-field.invariant in
    let step = rw (c.in-None.is, inv.1) at c.next.ensures in
    inv.0 ∙ take-all_fields (fields_of c.args.row.now) c.loop-field.field-iterator.at step.steps.1

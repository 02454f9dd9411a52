use Rattle.std.proofs.Common.{◌≡◌, ◌∙◌, ◌*ℤ◌, pos, sym, length, get_or, rules, FitsSigned}
use Rattle.std.specs.Int.{w32}
use Rattle.std.proofs.lemmas.Int.{to_z-of_z}
use Rattle.zero_one.specs.Rows.{KnowsItsVars, HasRisingVars}
use Rattle.bound_cert.proofs.Scratch.{row_is}
use Rattle.dual_ascent.proofs.Changes.{three_added}
use Rattle.dual_ascent.proofs.OneRow.{bound_with_row}
use Rattle.dual_ascent.proofs.short_leaf.value_with_row.Goals as goal

pub returns : goal.returns
returns c =
    let read : c.index-rows-from.result ≡ get_or c.args.program.now.rows c.args.pair.row c.index-rows-from.result = rw (← c.rows.ensures.rows, ← c.from.ensures) c.index-rows-from.is in
    let known : KnowsItsVars (length c.args.program.now.costs) c.index-rows-from.result = rw read (c.rows.ensures.within.known c.args.pair.row c.index-rows-from.result c.requires.row) in
    let rising : HasRisingVars c.index-rows-from.result = rw read (c.rows.ensures.within.rising c.args.pair.row c.index-rows-from.result c.requires.row) in
    let row = row_is c.args.program.now.rows c.args.pair.row c.index-rows-from.result c.requires.row read in
    let whole = bound_with_row c.args.program.now c.args.fixed.now c.args.s c.args.pair c.index-rows-from.result row rising known in
    let change = rw (c.as_slice-entries.ensures, c.costs.ensures.costs, c.as_slice.ensures) at c.change_by_row-change.ensures.exact in
    let fits : FitsSigned w32 c.index-rows-from.result.bound = search rules in
    let asked : c.times-asked.result ≡ pos c.args.pair.mult *ℤ c.index-rows-from.result.bound = simp to_z-of_z at c.times-asked.ensures.exact in
    three_added c.args.bare c.times-asked.result c.change_by_row-change.result _ _ _ c.requires.bare asked change c.requires.small c.times-asked.ensures.bounded c.change_by_row-change.ensures.small ∙ sym whole

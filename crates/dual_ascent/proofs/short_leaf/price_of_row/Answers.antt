use Rattle.std.proofs.Common.{◌≡◌, ℕ, ◌<◌, List, sym, ap, subst, ◌∙◌, get_or}
use Rattle.std.specs.List.{All}
use Rattle.std.proofs.lemmas.List.{take_all}
use Rattle.std.proofs.lemmas.List.Elements.{All-more}
use Rattle.zero_one.specs.declared.rows.Entry.{Entry}
use Rattle.zero_one.specs.declared.rows.Row.{Row}
use Rattle.bound_cert.specs.Leaves.{row_at}
use Rattle.bound_cert.proofs.Scratch.{no_entry, row_is}
use Rattle.dual_ascent.specs.Short.{EndsPath, PriceEnds, one_row}
use Rattle.dual_ascent.proofs.Scan.{not_true}
use Rattle.dual_ascent.proofs.short_leaf.price_of_row.Goals as goal

pub loop-entry-preserved : goal.loop-entry-preserved
loop-entry-preserved c =
    let Open : Entry → Type 0 = λ entry. ¬ PriceEnds c.args.program.now c.args.fixed.now c.args.goal c.args.row entry in
    let Takes : ℕ → Type 0 = λ mult. (0 < mult) × EndsPath c.args.program.now c.args.fixed.now c.args.goal (one_row 1 (record { row = c.args.row; mult = mult })) in
    let price : get_or c.costs.result.now c.from.result 0 ≡ get_or c.args.program.now.costs (get_or c.as_slice-entry-items.result.now c.loop-entry.entry-index no_entry).var 0 = ap (λ (costs : List ℕ). get_or costs c.from.result 0) c.costs.ensures.costs ∙ ap (λ (var : ℕ). get_or c.args.program.now.costs var 0) c.from.ensures in
    All-more Open c.as_slice-entry-items.result.now c.loop-entry.entry-index no_entry c.loop-entry-test.true c.loop-entry.invariant
    (λ priced. not_true c.pair_ends.result c.if-pair_ends.false (c.pair_ends.ensures.1 (subst Takes (sym price) priced)))

pub returns-clause-none : goal.returns-clause-none
returns-clause-none c =
    let read : c.index-rows-row.result ≡ get_or c.args.program.now.rows c.args.row c.index-rows-row.result = rw (← c.rows.ensures.rows) c.index-rows-row.is in
    let row = row_is c.args.program.now.rows c.args.row c.index-rows-row.result c.requires.row read in
    let items : c.as_slice-entry-items.result.now ≡ (row_at c.args.program.now.rows c.args.row).entries = c.as_slice-entry-items.ensures ∙ ap (λ (r : Row). r.entries) (sym c.index-rows-row.is ∙ row) in
    let Open : Entry → Type 0 = λ entry. ¬ PriceEnds c.args.program.now c.args.fixed.now c.args.goal c.args.row entry in
    let whole = take_all c.loop-entry.entry-index c.as_slice-entry-items.result.now c.loop-entry-test.false in
    subst (All Open) (whole ∙ items) c.loop-entry.invariant

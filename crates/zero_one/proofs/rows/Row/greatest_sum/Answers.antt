use Rattle.std.proofs.Common.{◌≡◌, arith, get_or}
use Rattle.std.specs.Int.{w32}
use Rattle.std.specs.Prelude.{FitsSigned}
use Rattle.std.proofs.Common.{rules}
use Rattle.std.proofs.lemmas.Int.{ints, to_z-of_z}
use Rattle.zero_one.specs.Rows.{most_of, fixed_bit}
use Rattle.zero_one.proofs.RowSums.{no_entry, greatest_sum_more, greatest_sum_abs, most_of_abs}
use Rattle.zero_one.proofs.rows.Row.greatest_sum.Goals as goal

part_is : (c : goal.After-most_of-sum) → c.most_of-sum.result ≡ most_of (fixed_bit c.args.fixed.now (get_or c.as_slice-entry-items.result.now c.loop-entry.entry-index no_entry).var) (get_or c.as_slice-entry-items.result.now c.loop-entry.entry-index no_entry).coef
part_is c =
    let fits : FitsSigned w32 (get_or c.as_slice-entry-items.result.now c.loop-entry.entry-index no_entry).coef = search rules in
    rw (← c.from.ensures) (simp to_z-of_z at c.most_of-sum.ensures)

pub overflow_add-sum : goal.overflow_add-sum
overflow_add-sum c =
    let items = c.as_slice-entry-items.result.now in
    let small = greatest_sum_abs c.args.self.now items c.args.fixed.now c.loop-entry.entry-index _ c.as_slice-entry-items.ensures c.requires.light in
    let fits : FitsSigned w32 (get_or items c.loop-entry.entry-index no_entry).coef = search rules in
    omega (arith, ints, small, part_is c, most_of_abs (fixed_bit c.args.fixed.now (get_or items c.loop-entry.entry-index no_entry).var) (get_or items c.loop-entry.entry-index no_entry).coef)

pub loop-entry-preserved : goal.loop-entry-preserved
loop-entry-preserved c =
    let items = c.as_slice-entry-items.result.now in
    let small = greatest_sum_abs c.args.self.now items c.args.fixed.now c.loop-entry.entry-index _ c.as_slice-entry-items.ensures c.requires.light in
    let more = greatest_sum_more items c.args.fixed.now c.loop-entry.entry-index c.loop-entry-test.true in
    let fits : FitsSigned w32 (get_or items c.loop-entry.entry-index no_entry).coef = search rules in
    omega (arith, ints, small, more, part_is c, most_of_abs (fixed_bit c.args.fixed.now (get_or items c.loop-entry.entry-index no_entry).var) (get_or items c.loop-entry.entry-index no_entry).coef)

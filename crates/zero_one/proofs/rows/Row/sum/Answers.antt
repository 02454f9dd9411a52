use Rattle.std.proofs.Common.{arith}
use Rattle.std.proofs.lemmas.Int.{ints}
use Rattle.zero_one.proofs.RowSums.{row_sum_one, row_sum_zero, row_sum_abs}
use Rattle.zero_one.proofs.rows.Row.sum.Goals as goal
use Rattle.zero_one.proofs.rows.Row.sum.Goals.{then-x-from, else-x-from}

pub overflow_add-sum : goal.overflow_add-sum
overflow_add-sum c =
    omega (arith, ints, row_sum_abs c.args.self.now c.as_slice-entry-items.result.now c.args.x.now c.loop-entry.entry-index _ c.as_slice-entry-items.ensures c.requires.light)

pub loop-entry-preserved : goal.loop-entry-preserved
loop-entry-preserved c =
    let items = c.as_slice-entry-items.result.now in
    let small = row_sum_abs c.args.self.now items c.args.x.now c.loop-entry.entry-index _ c.as_slice-entry-items.ensures c.requires.light in
    elim c.if-x-from.branch [
      | then-x-from w ↦
          omega (arith, ints, small, row_sum_one items c.args.x.now c.loop-entry.entry-index c.loop-entry-test.true (rw c.from.ensures at w.if-x-from.true))
      | else-x-from w ↦
          omega (arith, ints, row_sum_zero items c.args.x.now c.loop-entry.entry-index c.loop-entry-test.true (rw c.from.ensures at w.if-x-from.false))
    ]

use Rattle.std.proofs.Common.{arith}
use Rattle.std.proofs.lemmas.List.Sums.{sum_by_more}
use Rattle.zero_one.specs.Rows.{row_weight}
use Rattle.joint_placement.proofs.encoding.rows_weight.Goals as goal

pub overflow_add-weight : goal.overflow_add-weight
overflow_add-weight c = omega (arith, c.row_weight-weight.ensures)

pub loop-row-preserved : goal.loop-row-preserved
loop-row-preserved c =
    let more = sum_by_more row_weight c.args.rows.now c.loop-row.row-index c.row-item.result c.loop-row-test.true in
    let more' = rw (← c.row-item.is) at more in
    (omega (arith, more', c.row_weight-weight.ensures.weight), omega (arith, c.row_weight-weight.ensures.small))

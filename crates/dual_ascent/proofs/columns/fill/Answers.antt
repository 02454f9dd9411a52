use Rattle.std.proofs.Common.{◌∙◌, length, refl}
use Rattle.dual_ascent.proofs.Filling.{lighter, row_more}
use Rattle.dual_ascent.proofs.columns.fill.Goals as goal

pub loop-number-preserved : goal.loop-number-preserved
loop-number-preserved c =
    let light = rw c.as_slice.ensures at (c.in_ok-fill_row.ensures.light _ c.loop-number.invariant.2) in (
      c.in_ok-fill_row.ensures.count ∙ c.loop-number.invariant.0,
      c.in_ok-fill_row.ensures.known (length c.args.rows.now) c.loop-number-test.true c.loop-number.invariant.1,
      lighter _ _ _ (row_more c.args.rows.now c.loop-number.number _ c.index-rows-number.result c.loop-number-test.true c.index-rows-number.is refl) light,
    )

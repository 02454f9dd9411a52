use Rattle.std.proofs.Common.{◌≡◌, arith, length, get_or, subst}
use Rattle.std.proofs.lemmas.Int.{ints}
use Rattle.std.proofs.lemmas.List.Elements.{at_read}
use Rattle.zero_one.specs.Contents.{Contents}
use Rattle.zero_one.specs.Rows.{KnowsItsVars, HasRisingVars, CanHold}
use Rattle.zero_one.specs.Program.{IsWithinLimits}
use Rattle.zero_one.proofs.Holding.{can_hold, holds_enough}
use Rattle.zero_one.proofs.programs.Program.row_can_hold.Goals as goal

-- the row that is read is the program's
row_read : (c : goal.After-from) → c.index-row.result.now ≡ get_or c.args.self.now.rows c.args.row c.index-row.result.now
row_read c = rw (← c.self.view_is) c.index-row.ensures

limits : (c : goal.After-from) → IsWithinLimits c.args.self.now
limits c = let P : Contents → Type 0 = IsWithinLimits in subst P c.self.view_is c.self.invariant

pub returns : goal.returns
returns c =
    let fixed = c.args.fixed.now in
    let row = c.index-row.result.now in
    let known : KnowsItsVars (length fixed) row = rw (c.requires.vars, row_read c) ((limits c).known c.args.row row c.requires.row) in
    let rising : HasRisingVars row = rw (row_read c) ((limits c).rising c.args.row row c.requires.row) in
    let sum = rw c.as_slice.ensures at c.greatest_sum.ensures in (
      λ enough. at_read c.args.self.now.rows (CanHold fixed) c.args.row row c.requires.row (row_read c) (can_hold fixed row known rising (omega (arith, ints, sum, enough))),
      λ holds.
          let can : CanHold fixed row = rw (row_read c) (holds row) in
          let least = holds_enough fixed row can in
          grind (arith, ints, sum, least),
    )

use Rattle.std.proofs.Common.{length, ◌≤◌}
use Rattle.std.proofs.lemmas.List.Elements.{All-more}
use Rattle.std.proofs.lemmas.List.{take_all}
use Rattle.zero_one.specs.Rows.{HasRisingVars}
use Rattle.zero_one.proofs.programs.first_unsorted.Goals as goal

pub loop-i-preserved : goal.loop-i-preserved
loop-i-preserved c =
    let rises : HasRisingVars c.index-rows-i.result = c.has_rising_vars.ensures.0 c.if-not-has_rising_vars.false in
    All-more HasRisingVars c.args.rows.now c.loop-i.i c.index-rows-i.result c.loop-i-test.true c.loop-i.invariant (rw (← c.index-rows-i.is) rises)

pub returns-clause-none : goal.returns-clause-none
returns-clause-none c =
    let past : length c.args.rows.now ≤ c.loop-i.i = c.loop-i-test.false in
    rw take_all at c.loop-i.invariant

use Rattle.std.proofs.Common.{◌≤◌, ◌^◌, refl, ◌∙◌, arith, unsigned_abs, to_z, of_z, length-set}
use Rattle.std.specs.Int.{w64}
use Rattle.std.proofs.lemmas.Int.{ints}
use Rattle.dual_ascent.proofs.Reaching.{reach_none, reach_more}
use Rattle.dual_ascent.proofs.tally.settle.Goals.{then-row-gt0, else-row-gt0}
use Rattle.dual_ascent.proofs.tally.settle.Goals as goal

pub loop-number-init : goal.loop-number-init
loop-number-init c = (refl, refl, omega (arith, reach_none c.args.excess.now))

pub loop-number-preserved : goal.loop-number-preserved
loop-number-preserved c =
    let small : unsigned_abs (to_z w64 (of_z w64 c.of_nothing.result)) ≤ 2 ^ 32 = omega (arith, ints, c.of_nothing.ensures) in (
      length-set c.loop-number.excess c.loop-number.number _ ∙ c.loop-number.invariant.0,
      elim c.if-row-gt0.branch [
        | then-row-gt0 w ↦ w.unmet-is ∙ w.push.ensures ∙ c.loop-number.invariant.1
        | else-row-gt0 w ↦ w.unmet-is ∙ c.loop-number.invariant.1
      ],
      reach_more c.loop-number.excess c.loop-number.number _ (2 ^ 32) (omega (arith, c.loop-number-test.true, c.requires.rows, c.loop-number.invariant.0)) c.loop-number.invariant.2 small,
    )

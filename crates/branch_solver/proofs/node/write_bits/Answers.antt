use Rattle.std.proofs.Common.{◌∙◌, None, ap, length, arith, length-set}
use Rattle.branch_solver.proofs.Improving.{bits_more}
use Rattle.branch_solver.proofs.node.write_bits.Goals as goal

pub loop-i-preserved : goal.loop-i-preserved
loop-i-preserved c =
    rw (c.set.ensures, c.is_one.ensures, c.as_slice-fixed.ensures)
    (length-set c.loop-i.bits c.loop-i.i _ ∙ c.loop-i.invariant.0, bits_more c.loop-i.bits c.args.fixed.now c.loop-i.i None c.loop-i.invariant.0 (omega (arith, c.loop-i-test.true, ap length c.as_slice-fixed.ensures)) c.loop-i.invariant.1)

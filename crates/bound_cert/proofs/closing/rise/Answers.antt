use Rattle.std.proofs.Common.{◌-◌, arith, refl}
use Rattle.bound_cert.specs.declared.leaves.Pair.{Pair}
use Rattle.zero_one.proofs.Risings.{rises_more, rises_not, rises_all}
use Rattle.bound_cert.proofs.closing.rise.Goals as goal

-- the pair past the end
abbrev no_pair : Pair
no_pair = record { row = 0; mult = 0 }

pub returns-then-pairs-i : goal.returns-then-pairs-i
returns-then-pairs-i c = (
  λ t. cc,
  λ rising. absurd (rises_not (λ (pair : Pair). pair.row) c.args.pairs.now c.loop-i.i (c.loop-i.i - 1) no_pair (omega arith) c.loop-i-test.true c.if-pairs-i.true rising),
)

pub loop-i-preserved : goal.loop-i-preserved
loop-i-preserved c =
    rises_more (λ (pair : Pair). pair.row) c.args.pairs.now c.loop-i.i (c.loop-i.i - 1) no_pair (omega arith) c.loop-i-test.true c.loop-i.invariant c.if-pairs-i.false

pub returns : goal.returns
returns c = (λ _. rises_all (λ (pair : Pair). pair.row) c.args.pairs.now c.loop-i.i c.loop-i-test.false c.loop-i.invariant, λ _. refl)

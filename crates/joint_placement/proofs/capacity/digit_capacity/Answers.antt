use Rattle.std.proofs.Common.{arith}
use Rattle.std.proofs.lemmas.Nat.{mul-le}
use Rattle.joint_placement.proofs.capacity.digit_capacity.Goals as goal

pub overflow_mul-result : goal.overflow_mul-result
overflow_mul-result c = omega (arith, mul-le c.digit.result c.args.machine.now.capacity 1023 1000000 c.digit.ensures.small (omega (arith, c.requires.within.capacity)))

pub returns-clause-small : goal.returns-clause-small
returns-clause-small c = omega (arith, mul-le c.digit.result c.args.machine.now.capacity 1023 1000000 c.digit.ensures.small (omega (arith, c.requires.within.capacity)))

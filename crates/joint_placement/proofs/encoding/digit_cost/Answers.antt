use Rattle.std.proofs.Common.{◌^◌, arith}
use Rattle.std.proofs.lemmas.Nat.{mul-le}
use Rattle.joint_placement.proofs.encoding.digit_cost.Goals as goal

pub overflow_mul-result : goal.overflow_mul-result
overflow_mul-result c =
    omega (arith, mul-le c.from.result c.from-2.result 1023 (10 ^ 9) (omega (arith, c.from.ensures, c.digit.ensures.small)) (omega (arith, c.from-2.ensures, c.requires.within.price)))

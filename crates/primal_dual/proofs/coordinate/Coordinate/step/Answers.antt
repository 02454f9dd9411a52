use Rattle.std.proofs.Common.{◌+◌, ◌*◌, ◌≤◌, ◌^◌, ◌-ℤ◌, unsigned_abs, to_z, of_z, arith}
use Rattle.std.specs.Int.{w64}
use Rattle.std.proofs.lemmas.Int.{ints}
use Rattle.primal_dual.proofs.coordinate.Coordinate.step.Goals as goal

pub returns-clause-kept : goal.returns-clause-kept
returns-clause-kept c = λ limit local.
    let at = c.requires.local in
    let low = c.within-target.ensures.low in
    let high = c.within-target.ensures.high in
    let target : unsigned_abs c.within-target.result ≤ limit = omega (arith, ints, at.low, at.high, local.low, local.high, low, high) in
    let short : unsigned_abs c.within-target.result ≤ 2 ^ 50 = omega (arith, ints, at.low, at.high, low, high) in
    let back : unsigned_abs (to_z w64 (of_z w64 c.within-target.result) -ℤ to_z w64 (of_z w64 (to_z w64 (of_z w64 c.within-target.result) -ℤ to_z w64 (of_z w64 c.args.self.now.point)))) ≤ 15 * limit + 8 = omega (arith, ints, short, at.point, local.point) in
    let near = c.reflected.ensures.near limit (omega (arith, ints, target)) back in
    record {
      force = omega (arith, ints, local.force);
      point = omega (arith, ints, near, c.part_of-self.ensures, c.reflected.ensures.small);
      target = omega (arith, ints, target, short);
      moved = omega (arith, ints, target, short, at.point, local.point);
      below = omega (arith, ints, local.below, at.low);
      low = omega (arith, ints, local.low, at.low);
      above = omega (arith, ints, local.above, at.high);
      high = omega (arith, ints, local.high, at.high);
    }

pub returns-clause-wide : goal.returns-clause-wide
returns-clause-wide c = returns-clause-kept c (2 ^ 50) c.requires.local

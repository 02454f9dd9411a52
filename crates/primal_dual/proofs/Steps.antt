-- A coordinate within a limit, and what it takes a step against.
use Rattle.std.proofs.Common.{◌≡◌, ℕ, ◌≤◌, ◌^◌, ℤ, pos, unsigned_abs, to_z, of_z, ◌-ℤ◌, arith}
use Rattle.std.specs.Int.{w64}
use Rattle.std.proofs.Math.Nat.{le_trans}
use Rattle.std.proofs.lemmas.Int.{ints, to_z-of_z}
use Rattle.primal_dual.specs.declared.coordinate.Coordinate.{Coordinate}
use Rattle.primal_dual.specs.Locals.{IsLocal}

abbrev pub still : Coordinate
still = record { force = pos 0; point = pos 0; target = pos 0; moved = pos 0; low = pos 0; high = pos 0 }

-- what is within a limit is within the greatest one
pub wide : (limit : ℕ) (c : Coordinate) → limit ≤ 2 ^ 50 → IsLocal limit c → IsLocal (2 ^ 50) c
wide limit c near local =
    record {
      force = local.force;
      point = omega (arith, local.point, near);
      target = le_trans local.target near;
      moved = omega (arith, local.moved, near);
      below = local.below;
      low = le_trans local.low near;
      above = local.above;
      high = le_trans local.high near;
    }

same : (z : ℤ) → unsigned_abs z ≤ 2 ^ 62 → to_z w64 (of_z w64 z) ≡ z
same z small = to_z-of_z w64 z (omega (arith, ints))

-- half of a force less what two others give
pub half_small : (force a b half : ℤ) → unsigned_abs force ≤ 2 ^ 60 → unsigned_abs a ≤ 2 ^ 56 → unsigned_abs b ≤ 2 ^ 56 → unsigned_abs half ≤ unsigned_abs (to_z w64 (of_z w64 (to_z w64 (of_z w64 force) -ℤ to_z w64 (of_z w64 (to_z w64 (of_z w64 a) -ℤ to_z w64 (of_z w64 b)))))) → unsigned_abs (to_z w64 (of_z w64 half)) ≤ 2 ^ 62
half_small force a b half f p q less =
    let less' = rw (same a (omega arith), same b (omega arith), same force (omega arith)) at less in
    let given : unsigned_abs (a -ℤ b) ≤ 2 ^ 57 = omega (arith, ints, p, q) in
    let less'' = rw (same (a -ℤ b) (omega arith)) at less' in
    let all : unsigned_abs (force -ℤ (a -ℤ b)) ≤ 2 ^ 61 = omega (arith, ints, f, given) in
    let less''' = rw (same (force -ℤ (a -ℤ b)) (omega arith)) at less'' in
    rw (same half (omega (arith, less''', all))) (omega (arith, less''', all))

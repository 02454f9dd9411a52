use Rattle.std.proofs.Common.{◌≡◌, ◌≤◌, ◌+◌, ◌*◌, ◌^◌, pos, arith, unsigned_abs, to_z, of_z, rules, get_or, ap}
use Rattle.std.specs.Int.{w64}
use Rattle.std.proofs.Math.Nat.{mul-le-mul_right, le_trans}
use Rattle.std.proofs.lemmas.Int.{ints}
use Rattle.primal_dual.specs.Locals.{IsLocal, Room}
use Rattle.primal_dual.specs.declared.coordinate.Coordinate.{Coordinate}
use Rattle.primal_dual.proofs.local.Local.error.Goals as goal

abbrev none : Coordinate
none = record { force = pos 0; point = pos 0; target = pos 0; moved = pos 0; low = pos 0; high = pos 0 }

pub weighed_square-error-requires-clause-small : goal.weighed_square-error-requires-clause-small
weighed_square-error-requires-clause-small c =
    let limit = c.self.inside.limit in
    let size = c.size.result in
    let local : IsLocal c.self.inside.limit (get_or c.deref-coordinate-items.result.now c.loop-line.line none) = search rules in
    let moved : unsigned_abs (to_z w64 (of_z w64 (get_or c.deref-coordinate-items.result.now c.loop-line.line none).moved)) ≤ 16 * c.self.inside.limit + 8 = omega (arith, ints, local.moved, c.self.invariant.greatest) in
    let times = mul-le-mul_right size moved in
    let same : c.self.inside.limit ≡ c.args.self.now.limit = ap (λ (r : Room). r.limit) c.self.view_is in
    let small : size * c.args.self.now.limit ≤ 2 ^ 56 = le_trans (mul-le-mul_right c.args.self.now.limit c.size.ensures.most) c.requires.small in
    let small' = rw (← same) at small in
    omega (arith, times, small', c.size.ensures.light)

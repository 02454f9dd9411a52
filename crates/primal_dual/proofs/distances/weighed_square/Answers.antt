use Rattle.std.proofs.Common.{◌*◌, ◌≤◌, ◌^◌, unsigned_abs, rules}
use Rattle.std.proofs.Math.Nat.{mul-le-mul_right, le_trans}
use Rattle.std.proofs.lemmas.Nat.{mul-le}
use Rattle.primal_dual.proofs.distances.weighed_square.Goals as goal

pub returns : goal.returns
returns c =
    let short : c.from-length.result ≤ 2 ^ 49 = search rules in
    let less : c.from-length.result ≤ unsigned_abs c.args.change = search rules in
    let small : c.from-length.result * c.args.size ≤ 2 ^ 61 = le_trans (mul-le-mul_right c.args.size less) c.requires.small in
    rw c.from.ensures (mul-le c.from-length.result (c.from-length.result * c.args.size) (2 ^ 49) (2 ^ 61) short small)

use Rattle.std.proofs.Common.{◌^◌, ◌<◌, arith}
use Rattle.std.proofs.Math.Pow.{pow-lt}
use Rattle.joint_placement.proofs.capacity.digit.Goals as goal

pub returns-clause-small : goal.returns-clause-small
returns-clause-small c =
    let low : 2 ^ c.args.j < 2 ^ 10 = pow-lt c.requires in
    omega (arith, low)

use Rattle.std.proofs.Common.{◌^◌, ◌≤◌, arith}
use Rattle.std.proofs.Math.Pow.{pow_mono}
use Rattle.joint_plan.proofs.judge.most.Goals as goal

pub returns-clause-small : goal.returns-clause-small
returns-clause-small c =
    let low : 2 ^ c.args.digits ≤ 2 ^ 10 = pow_mono c.requires in
    omega (arith, low)

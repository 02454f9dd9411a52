use Rattle.std.proofs.Common.{refl}
use Rattle.joint_plan.proofs.Judged.{cost_small}
use Rattle.joint_plan.proofs.judge.judge.Goals as goal

pub plan_cost-requires-clause-small : goal.plan_cost-requires-clause-small
plan_cost-requires-clause-small c =
    cost_small c.args.world.now c.args.machines.now c.args.plan.now c.centre_count-centres.ensures.complete c.centre_count-centres.ensures.named c.requires.limits c.requires.whole
    (c.if-not-are_allowed.ensures.0 refl) (c.if-not-are_borne.ensures.0 refl)

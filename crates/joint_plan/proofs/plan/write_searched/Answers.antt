use Rattle.std.proofs.Common.{length, ap}
use Rattle.joint_plan.proofs.Said.{opening_failed, tree_failed, searched, searched_said}
use Rattle.joint_plan.proofs.plan.write_searched.Goals as goal

pub returns-in_err-write_opening-clause-says : goal.returns-in_err-write_opening-clause-says
returns-in_err-write_opening-clause-says g c from said =
    opening_failed c.args.world.now c.args.machines.now c.args.budget (length c.costs.result.now) _ from _ c.write_opening.new.pen c.from_residual.result c.requires.program (ap length c.costs.ensures.costs) c.from_residual.ensures.0 (c.in_err-write_opening.ensures.tells from said)

pub returns-in_err-end-clause-says : goal.returns-in_err-end-clause-says
returns-in_err-end-clause-says g c from said =
    tree_failed c.args.world.now c.args.machines.now c.args.budget (length c.costs.result.now) _ c.args.tree.now.search _ _ _ from _ _ _ _
    c.centre_count-centres.ensures.complete c.centre_count-centres.ensures.named c.requires.program (ap length c.costs.ensures.costs) c.requires.budget
    c.in_err-end.ensures.tree c.from_residual-in_err-end.ensures.0 (c.in_ok-write_opening.ensures.tells from said)

pub write_tree-requires : goal.write_tree-requires
write_tree-requires g c = record { stands = c.requires.stands; room = c.requires.room }

pub write_ending-requires : goal.write_ending-requires
write_ending-requires g c = record {
  searched = searched c.args.world.now c.args.machines.now c.args.budget _ c.args.tree.now.search _ _ _ _ _ _ c.requires.program c.costs.ensures.within c.requires.budget c.in_ok-end.ensures.tree;
}

pub returns-clause-says : goal.returns-clause-says
returns-clause-says g c from said =
    let tree = searched_said c.args.world.now c.args.machines.now c.args.budget (length c.costs.result.now) _ c.args.tree.now.search _ _ _ from _ _ _
    c.requires.program (ap length c.costs.ensures.costs) c.costs.ensures.within c.requires.budget c.in_ok-end.ensures.tree (c.in_ok-write_opening.ensures.tells from said) in
    c.write_ending.ensures.says tree.0 from tree.1

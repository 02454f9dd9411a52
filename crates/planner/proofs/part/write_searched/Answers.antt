use Rattle.std.proofs.Common.{length, ap}
use Rattle.planner.proofs.Searched.{set_is, first_line_failed, part_tree_failed, searched, searched_said}
use Rattle.planner.proofs.part.write_searched.Goals as goal

pub returns-in_err-put_set-clause-part : goal.returns-in_err-put_set-clause-part
returns-in_err-put_set-clause-part g c from text said =
    first_line_failed _ _ _ (length c.costs.result.now) _ _ _ _ _ _ c.requires.program (ap length c.costs.ensures.costs) c.from_residual.ensures.0 (c.in_err-put_set.ensures.tells from text said)

pub returns-in_err-end-clause-part : goal.returns-in_err-end-clause-part
returns-in_err-end-clause-part g c from text said =
    part_tree_failed _ _ _ (length c.costs.result.now) _ c.args.tree.now.search _ _ _ from _ _ text _ _
    (set_is _ _ c.centre_count-centres.ensures.complete c.centre_count-centres.ensures.named c.requires.set) c.requires.program (ap length c.costs.ensures.costs) c.requires.budget
    c.in_err-end.ensures.tree c.from_residual-in_err-end.ensures.0 (c.in_ok-put_set.ensures.tells from text said)

pub write_tree-requires : goal.write_tree-requires
write_tree-requires g c = record { stands = c.requires.stands; room = c.requires.room }

pub write_ending-requires : goal.write_ending-requires
write_ending-requires g c = record {
  set = c.requires.set;
  searched = searched _ _ _ _ c.args.tree.now.search _ _ _ _ _ _ c.requires.program c.costs.ensures.within c.requires.budget c.in_ok-end.ensures.tree;
}

pub returns-clause-part : goal.returns-clause-part
returns-clause-part g c from text said =
    let tree = searched_said c.args.world.now c.args.budget c.args.set.0 (length c.costs.result.now) _ c.args.tree.now.search _ _ _ from _ _ text _
    c.requires.program (ap length c.costs.ensures.costs) c.costs.ensures.within c.requires.budget c.in_ok-end.ensures.tree (c.in_ok-put_set.ensures.tells from text said) in
    c.write_ending.ensures.part tree.0 from text tree.1

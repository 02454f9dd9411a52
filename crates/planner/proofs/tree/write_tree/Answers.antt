use Rattle.std.proofs.Common.{arith}
use Rattle.planner.proofs.Trees.{tree_none, tree_more, fewer_left, tree_failed, tree_ended}
use Rattle.planner.proofs.tree.write_tree.Goals as goal

pub tree-init : goal.tree-init
tree-init g c = record {
  tree = tree_none _ _ _ _ c.requires.stands;
  room = c.requires.room;
  faults_stay = omega arith;
}

pub step-requires : goal.step-requires
step-requires g c = record {
  variables = c.tree.invariant.tree.stands.variables;
  rows = c.tree.invariant.tree.stands.rows;
  room = c.tree.invariant.room;
}

pub returns-in_err-put_tree_line-in-Line-clause-tree : goal.returns-in_err-put_tree_line-in-Line-clause-tree
returns-in_err-put_tree_line-in-Line-clause-tree g c =
    let said = c.tree.invariant.tree in
    tree_failed _ _ _ _ _ _ _ _ _ _ _ _ _ said (c.in-Line.ensures.steps said.lines said.stands) c.line.ensures c.from_residual.ensures.0 c.in_err-put_tree_line-in-Line.ensures.tells

pub returns-in_default-clause-tree : goal.returns-in_default-clause-tree
returns-in_default-clause-tree g c =
    let said = c.tree.invariant.tree in
    tree_ended _ _ _ _ _ _ _ _ _ _ said c.in_default.not-Line (c.step.ensures.steps said.lines said.stands)

pub tree-preserved : goal.tree-preserved
tree-preserved g c =
    let said = c.tree.invariant.tree in
    record {
      tree = tree_more _ _ _ _ _ _ _ _ _ _ _ _ said (c.in-Line.ensures.steps said.lines said.stands) c.line.ensures c.in_ok-put_tree_line-in-Line.ensures.tells;
      room = omega (arith, c.tree.invariant.room, c.step.ensures.room);
      faults_stay = omega (arith, c.tree.invariant.faults_stay, c.put_tree_line.ensures.faults_stay);
    }

pub tree-smaller : goal.tree-smaller
tree-smaller g c =
    let said = c.tree.invariant.tree in
    fewer_left _ _ _ _ _ said.stands (c.in-Line.ensures.steps said.lines said.stands)

use Rattle.std.proofs.Common.{length, ◌≤◌, ◌-◌}
use Rattle.planner.proofs.Trees.{IsTreeSaid}
use Rattle.planner.proofs.tree.write_tree.Given as goal

abbrev pub invariant-tree : goal.invariant-tree
invariant-tree g l = record {
  tree : IsTreeSaid l.program l.fn.search.budget l.search (g.K.Sink.taken l.fn.out) l.fn.pen (g.K.Sink.taken l.out) l.pen;
  room : length l.program.rows ≤ l.line.room;
  faults_stay : g.K.Sink.faults l.fn.out ≤ g.K.Sink.faults l.out;
}

abbrev pub decreases-tree : goal.decreases-tree
decreases-tree g l = l.search.budget - l.search.count

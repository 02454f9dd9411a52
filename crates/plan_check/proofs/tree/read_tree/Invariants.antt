use Rattle.std.proofs.Common.{◌≡◌, ◌-◌, ◌≤◌}
use Rattle.plan_check.proofs.Loops.{InTree}
use Rattle.plan_check.proofs.tree.read_tree.Given as goal

abbrev pub invariant-tree : goal.invariant-tree
invariant-tree g l = record {
  in_tree : InTree l.program (g.S.Shelf.files l.initial.shelf) l.name l.initial.lines l.lines l.checker l.before;
  files_stay : g.S.Shelf.files l.shelf ≡ g.S.Shelf.files l.initial.shelf;
  faults_stay : g.S.Shelf.faults l.initial.shelf ≤ g.S.Shelf.faults l.shelf;
  absences_stay : g.S.Shelf.absences l.initial.shelf ≤ g.S.Shelf.absences l.shelf;
}

abbrev pub decreases-tree : goal.decreases-tree
decreases-tree g l = 4294967295 - l.lines.lines.given

use Rattle.std.proofs.Common.{◌≡◌, ℕ, ◌+◌, ◌-◌, ◌≤◌, List, ◌++◌, length, take}
use Rattle.shelf_lines.specs.Lines.{IsLine, Begins}
use Rattle.shelf_lines.proofs.reader.find.Given as goal

abbrev pub invariant-search : goal.invariant-search
invariant-search g l = record {
  within : l.searched ≤ length l.window;
  line : IsLine (take l.searched l.window);
  front : (front : List ℕ) → l.given ≡ length front → Begins (g.S.Shelf.files l.initial.shelf) l.name (front ++ l.initial.window)
      → Begins (g.S.Shelf.files l.initial.shelf) l.name (front ++ l.window);
  files_stay : g.S.Shelf.files l.shelf ≡ g.S.Shelf.files l.initial.shelf;
  faults_stay : g.S.Shelf.faults l.initial.shelf ≤ g.S.Shelf.faults l.shelf;
  absences_stay : g.S.Shelf.absences l.initial.shelf ≤ g.S.Shelf.absences l.shelf;
}

abbrev pub decreases-search : goal.decreases-search
decreases-search g l = l.line_limit + 1 - length l.window

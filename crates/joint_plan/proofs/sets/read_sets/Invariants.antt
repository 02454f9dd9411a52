use Rattle.std.proofs.Common.{◌≡◌, ◌≤◌, ◌++◌, List, ℕ, length}
use Rattle.std.specs.Prelude.{Option}
use Rattle.span_base.specs.Files.{Files}
use Rattle.plan_check.specs.Reading.{HasRead}
use Rattle.joint_plan.specs.Stops.{sets_text}
use Rattle.joint_plan.proofs.sets.read_sets.Given as goal

abbrev pub invariant-loop-set : goal.invariant-loop-set
invariant-loop-set g l = record {
  count : length l.policies.items ≡ l.set;
  read : (files : Option Files) → g.S.Shelf.files l.initial.shelf ≡ files → (front : List ℕ) → HasRead files l.name front l.initial.lines → HasRead files l.name (front ++ sets_text l.world l.policies.items) l.lines;
  files_stay : g.S.Shelf.files l.shelf ≡ g.S.Shelf.files l.initial.shelf;
  faults_stay : g.S.Shelf.faults l.initial.shelf ≤ g.S.Shelf.faults l.shelf;
  absences_stay : g.S.Shelf.absences l.initial.shelf ≤ g.S.Shelf.absences l.shelf;
}

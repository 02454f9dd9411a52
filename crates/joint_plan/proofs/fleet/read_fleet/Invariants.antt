use Rattle.std.proofs.Common.{◌≡◌, ◌≤◌, ◌++◌, List, ℕ, length}
use Rattle.std.specs.Prelude.{Option}
use Rattle.span_base.specs.Files.{Files}
use Rattle.plan_check.specs.Reading.{HasRead}
use Rattle.joint_plan.specs.Stops.{fleet_text}
use Rattle.joint_plan.proofs.fleet.read_fleet.Given as goal

abbrev pub invariant-loop-d : goal.invariant-loop-d
invariant-loop-d g l = record {
  count : length l.numbers.items ≡ l.d;
  read : (files : Option Files) → g.S.Shelf.files l.initial.shelf ≡ files → (front : List ℕ) → HasRead files l.name front l.initial.lines → HasRead files l.name (front ++ fleet_text l.world l.numbers.items) l.lines;
  files_stay : g.S.Shelf.files l.shelf ≡ g.S.Shelf.files l.initial.shelf;
  faults_stay : g.S.Shelf.faults l.initial.shelf ≤ g.S.Shelf.faults l.shelf;
  absences_stay : g.S.Shelf.absences l.initial.shelf ≤ g.S.Shelf.absences l.shelf;
}

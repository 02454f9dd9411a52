use Rattle.std.proofs.Common.{◌≡◌, ◌≤◌, [], List, ℕ}
use Rattle.std.specs.Prelude.{Option}
use Rattle.sink_buffer.specs.Said.{IsSaid}
use Rattle.plan_check.specs.Places.{parts_read}
use Rattle.plan_check.specs.Reading.{HasRead}
use Rattle.plan_check.proofs.Sets.{HasCheckedSo}
use Rattle.plan_check.proofs.check.check_sets.Given as goal

abbrev pub invariant-sets : goal.invariant-sets
invariant-sets g l = record {
  so_far : (from : Option (List ℕ)) → HasRead (g.S.Shelf.files l.initial.shelf) l.name (parts_read l.world []) l.initial.lines → IsSaid from (g.K.Sink.taken l.initial.out) l.initial.told []
      → HasCheckedSo l.world (g.S.Shelf.files l.initial.shelf) l.name from (g.K.Sink.taken l.out) l.lines l.told l.number;
  files_stay : g.S.Shelf.files l.shelf ≡ g.S.Shelf.files l.initial.shelf;
  faults_stay : g.S.Shelf.faults l.initial.shelf ≤ g.S.Shelf.faults l.shelf;
  absences_stay : g.S.Shelf.absences l.initial.shelf ≤ g.S.Shelf.absences l.shelf;
  write_faults_stay : g.K.Sink.faults l.initial.out ≤ g.K.Sink.faults l.out;
}

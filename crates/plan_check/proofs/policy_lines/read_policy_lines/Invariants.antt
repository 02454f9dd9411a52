use Rattle.std.proofs.Common.{◌≡◌, ◌-◌, ◌≤◌}
use Rattle.plan_check.proofs.Loops.{InPolicyLines}
use Rattle.plan_check.proofs.policy_lines.read_policy_lines.Given as goal

abbrev pub invariant-policy : goal.invariant-policy
invariant-policy g l = record {
  in_policy : InPolicyLines l.world l.set.0 (g.S.Shelf.files l.initial.shelf) l.name l.initial.lines l.lines l.reader;
  files_stay : g.S.Shelf.files l.shelf ≡ g.S.Shelf.files l.initial.shelf;
  faults_stay : g.S.Shelf.faults l.initial.shelf ≤ g.S.Shelf.faults l.shelf;
  absences_stay : g.S.Shelf.absences l.initial.shelf ≤ g.S.Shelf.absences l.shelf;
}

abbrev pub decreases-policy : goal.decreases-policy
decreases-policy g l = 4294967295 - l.lines.lines.given

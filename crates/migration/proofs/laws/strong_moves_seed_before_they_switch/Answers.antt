use Rattle.std.proofs.Common.{◌+◌, ◌≤◌, length, subst}
use Rattle.std.proofs.lemmas.Bool.{leb-true}
use Rattle.span_base.specs.declared.dc_set.DcSet.{DcSet}
use Rattle.span_base.specs.DcSet.{centres_of}
use Rattle.span_base.specs.PolicyParts.{faults_of}
use Rattle.migration.specs.Strong.{strong, first_write_set}
use Rattle.migration.proofs.Switches.{stored_before_switch}
use Rattle.migration.proofs.laws.strong_moves_seed_before_they_switch.Goals as goal

pub returns : goal.returns
returns c =
    stored_before_switch strong (λ policy answered. length (centres_of (first_write_set policy)) ≤ length (centres_of answered) + faults_of policy)
    (λ policy phase set enough. subst (λ (s : DcSet). length (centres_of s) ≤ length (centres_of phase.good) + faults_of policy) set (leb-true (length (centres_of phase.asked)) (length (centres_of phase.good) + faults_of policy) enough))

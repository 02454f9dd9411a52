use Rattle.std.proofs.Common.{◌+◌, ◌≤◌, length}
use Rattle.std.proofs.lemmas.Bool.{leb-true}
use Rattle.span_base.specs.DcSet.{centres_of}
use Rattle.span_base.specs.PolicyParts.{faults_of}
use Rattle.migration.specs.Eventual.{eventual}
use Rattle.migration.proofs.Switches.{stored_before_switch}
use Rattle.migration.proofs.laws.eventual_moves_seed_before_they_switch.Goals as goal

pub returns : goal.returns
returns c =
    stored_before_switch eventual (λ policy answered. faults_of policy + 1 ≤ length (centres_of answered))
    (λ policy phase set enough. leb-true (faults_of policy + 1) (length (centres_of phase.good)) enough)

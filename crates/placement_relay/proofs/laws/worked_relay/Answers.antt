use Rattle.std.proofs.Common.{refl}
use Rattle.placement_relay.specs.Programs.{set_program}
use Rattle.placement_relay.specs.Placed.{placed, decoded}
use Rattle.placement_relay.proofs.laws.worked_relay.Goals as goal

pub returns-clause-program : goal.returns-clause-program
unfolding set_program
returns-clause-program c = refl

pub returns-clause-variables : goal.returns-clause-variables
returns-clause-variables c = refl

pub returns-clause-rows : goal.returns-clause-rows
returns-clause-rows c = refl

pub returns-clause-value : goal.returns-clause-value
unfolding placed
returns-clause-value c = refl

pub returns-clause-back : goal.returns-clause-back
unfolding placed decoded
returns-clause-back c = refl

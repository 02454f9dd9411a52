use Rattle.std.proofs.Common.{ℕ, ◌<◌, ◌≢◌, []}
use Rattle.workload.specs.Load.{set_at}
use Rattle.workload.proofs.load.Workload.first_empty.Given as goal

abbrev pub invariant-loop-set : goal.invariant-loop-set
invariant-loop-set l = (s : ℕ) → s < l.set → (set_at l.self s).members ≢ []

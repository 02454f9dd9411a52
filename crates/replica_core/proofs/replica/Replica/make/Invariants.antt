use Rattle.std.proofs.Common.{◌≡◌, replicate}
use Rattle.replica_core.specs.Keeping.{opening}
use Rattle.replica_core.proofs.replica.Replica.make.Given as goal

abbrev pub invariant-loop : goal.invariant-loop
invariant-loop l = l.kept.items ≡ replicate l.counter opening

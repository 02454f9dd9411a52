use Rattle.std.proofs.Common.{◌≡◌, ℕ, ◌*◌, ◌<◌, pos, get_or}
use Rattle.bound_cert.proofs.bounds.scale_costs.Given as goal

abbrev pub invariant-loop-var : goal.invariant-loop-var
invariant-loop-var l = (var : ℕ) → var < l.var → get_or l.scratch var (pos 0) ≡ pos (l.s * get_or l.costs var 0)

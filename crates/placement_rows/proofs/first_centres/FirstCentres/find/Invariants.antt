use Rattle.std.proofs.Common.{◌≡◌, ℕ, ◌<◌, length, get_or}
use Rattle.placement_rows.specs.FirstCentres.{IsFirstOf}
use Rattle.placement_rows.proofs.first_centres.FirstCentres.find.Given as goal

abbrev pub invariant-loop-d : goal.invariant-loop-d
invariant-loop-d l = (length l.firsts ≡ 16) × ((k : ℕ) → k < l.d → IsFirstOf l.world k (get_or l.firsts k 0))

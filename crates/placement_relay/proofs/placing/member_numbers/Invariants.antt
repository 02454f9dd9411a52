use Rattle.std.proofs.Common.{◌≡◌, ℕ, ◌<◌, length, get_or}
use Rattle.workload.specs.World.{members_of}
use Rattle.placement_rows.specs.Centres.{nobody}
use Rattle.placement_relay.proofs.placing.member_numbers.Given as goal

abbrev pub invariant-loop-a : goal.invariant-loop-a
invariant-loop-a l = (length l.numbers ≡ 16) × ((j : ℕ) → j < l.a → get_or l.numbers (get_or (members_of l.world l.fn.set.0) j nobody).dc.0 0 ≡ j)

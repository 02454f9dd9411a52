-- What a strong set is, part by part.
use Rattle.std.proofs.Common.{ℕ, ◌≤◌}
use Rattle.workload.specs.Load.{no_set}
use Rattle.workload.specs.World.{Lists, IsSetWithin, centre_count, set_of}
use Rattle.placement_strong.specs.Variables.{member_count}
use Rattle.placement_strong.specs.Laws.{IsStrongSet}

pub set_within : (w : Lists) (set : ℕ) → IsStrongSet w set → IsSetWithin (centre_count w) (set_of w set)
set_within w set s = s.complete.sets set no_set s.there

pub few_members : (w : Lists) (set : ℕ) → IsStrongSet w set → member_count w set ≤ 8
few_members w set s = (set_within w set s).few_members

-- The greatest version, with one more.
use Rattle.std.proofs.Common.{◌≡◌, ℕ, true, false, cond, List, Option, Some, None, refl}
use Rattle.std.specs.Ordering.{is_gt}
use Rattle.ticket_rules.specs.declared.stamp.Stamp.{Stamp}
use Rattle.ticket_rules.specs.Stamp.{stamp_cmp}
use Rattle.call_phase.specs.declared.best.Found.{Found}
use Rattle.call_phase.specs.Best.{better, greatest}

-- what was found so far is the greatest version from then on
pub better-greatest : (best : Option Found) (stamp : Stamp) (value : List ℕ) → better best stamp value ≡ Some (greatest best stamp value)
better-greatest None stamp value = refl
better-greatest (Some found) stamp value =
    let more : Found = record { stamp = stamp; value = value } in
    elim (is_gt (stamp_cmp stamp found.stamp)) as (λ b. cond b (Some more) (Some found) ≡ Some (cond b more found)) [ true ↦ refl | false ↦ refl ]

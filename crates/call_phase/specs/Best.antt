-- The greatest version among the answers of a phase.
use Rattle.std.specs.Prelude.{ℕ, if◌then◌else◌, List, Option, Some, None}
use Rattle.std.specs.Option.{option_map}
use Rattle.std.specs.Ordering.{is_gt}
use Rattle.ticket_rules.specs.declared.stamp.Stamp.{Stamp}
use Rattle.ticket_rules.specs.Stamp.{stamp_cmp}
use Rattle.call_phase.specs.declared.best.Found.{Found}
use Rattle.call_phase.specs.declared.best.Lent.{Lent}

-- the greater of what was found so far and one more version; of equal stamps the first stays
abbrev pub greatest : Option Found → Stamp → List ℕ → Found
greatest None stamp value = record { stamp = stamp; value = value }
greatest (Some found) stamp value = if is_gt (stamp_cmp stamp found.stamp) then record { stamp = stamp; value = value } else found

-- the same, as what was found so far from then on
abbrev pub better : Option Found → Stamp → List ℕ → Option Found
better None stamp value = Some (record { stamp = stamp; value = value })
better (Some found) stamp value = if is_gt (stamp_cmp stamp found.stamp) then Some (record { stamp = stamp; value = value }) else Some found

-- a lent version
abbrev pub found_of : Lent → Found
found_of lent = record { stamp = lent.stamp; value = lent.value.now }

-- a lent version, where there is one
abbrev pub lent_found : Option Lent → Option Found
lent_found lent = option_map found_of lent

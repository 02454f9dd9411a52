-- The 0-1 program of a strong set, of one provider or several.
use Rattle.std.specs.Prelude.{ℕ, List, ◌++◌, length}
use Rattle.zero_one.specs.Contents.{Contents}
use Rattle.zero_one.specs.declared.rows.Row.{Row}
use Rattle.workload.specs.World.{Lists}
use Rattle.placement_rows.specs.Providers.{provider_costs, provider_rows}
use Rattle.placement_strong.specs.Variables.{strong_costs}
use Rattle.placement_strong.specs.Rows.{strong_rows, keeping}

-- the costs of all variables: the mode's, then those of the providers
abbrev pub set_costs : Lists → ℕ → List ℕ
set_costs w set = strong_costs w set ++ provider_costs w set

-- all rows: the mode's, then those of the providers, whose variables follow the mode's
abbrev pub set_rows : Lists → ℕ → List Row
set_rows w set = strong_rows w set ++ provider_rows w set (length (strong_costs w set)) (keeping w set)

-- the 0-1 program of a set
unfoldable pub set_program : Lists → ℕ → Contents
set_program w set = record { costs = set_costs w set; rows = set_rows w set }

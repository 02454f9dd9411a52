-- The 0-1 program of a direct or relay set, of one provider or several.
use Rattle.std.specs.Prelude.{ℕ, List, [], ◌++◌, length, map}
use Rattle.zero_one.specs.Contents.{Contents}
use Rattle.zero_one.specs.declared.rows.Row.{Row}
use Rattle.workload.specs.World.{Lists, rule_of}
use Rattle.workload.specs.declared.rules.Mode.{Mode}
use Rattle.workload.specs.declared.rules.Mode.TheVariants as mode
use Rattle.placement_rows.specs.Centres.{centres}
use Rattle.placement_rows.specs.Providers.{provider_costs, provider_rows}
use Rattle.placement_relay.specs.Direct.{direct_costs, direct_rows}
use Rattle.placement_relay.specs.Relay.{relay_costs, relay_rows}

-- the costs and rows of a set's own mode
abbrev pub costs_by : Mode → Lists → ℕ → List ℕ
costs_by mode.Direct w set = direct_costs w set
costs_by mode.Relay w set = relay_costs w set
costs_by mode.Strong w set = []

abbrev pub rows_by : Mode → Lists → ℕ → List Row
rows_by mode.Direct w set = direct_rows w set
rows_by mode.Relay w set = relay_rows w set
rows_by mode.Strong w set = []

abbrev pub mode_costs : Lists → ℕ → List ℕ
mode_costs w set = costs_by (rule_of w set).mode w set

abbrev pub mode_rows : Lists → ℕ → List Row
mode_rows w set = rows_by (rule_of w set).mode w set

-- the costs of all variables: the mode's, then those of the providers
abbrev pub set_costs : Lists → ℕ → List ℕ
set_costs w set = mode_costs w set ++ provider_costs w set

-- what keeps a replica in a centre: its own variable
abbrev pub keeping : Lists → List (ℕ × ℕ)
keeping w = map (λ d. (d, d)) (centres w)

-- all rows: the mode's, then those of the providers, whose variables follow the mode's
abbrev pub set_rows : Lists → ℕ → List Row
set_rows w set = mode_rows w set ++ provider_rows w set (length (mode_costs w set)) (keeping w)

-- the 0-1 program of a set
unfoldable pub set_program : Lists → ℕ → Contents
set_program w set = record { costs = set_costs w set; rows = set_rows w set }

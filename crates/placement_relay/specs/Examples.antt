-- Programs and choices of small worlds, written out.
use Rattle.std.specs.Prelude.{ℕ, pos, Bool, true, false, List, [], ◌∷◌, ◌++◌}
use Rattle.workload.specs.World.{Lists}
use Rattle.workload.specs.declared.rules.Mode.TheVariants as mode
use Rattle.zero_one.specs.Contents.{Contents}
use Rattle.zero_one.specs.declared.rows.Entry.{Entry}
use Rattle.zero_one.specs.declared.rows.Row.{Row}
use Rattle.slo_rules.specs.Examples.{two_centres, asking, member}
use Rattle.placement_rows.specs.Rows.{plus, minus}

-- a row of these entries
abbrev pub row : List Entry → ℕ → Row
row entries bound = record { entries = entries; bound = pos bound }

-- the rows of the world of two centres: variables 0 and 1 are the replicas, 2 and 3 where the
-- member reads
abbrev pub two_centres_rows : List Row
two_centres_rows =
    row (plus 2 ∷ plus 3 ∷ []) 1
    ∷ row (plus 0 ∷ minus 2 ∷ []) 0 ∷ row (plus 1 ∷ minus 3 ∷ []) 0
    ∷ row (plus 0 ∷ plus 1 ∷ []) 1
    ∷ row (plus 0 ∷ plus 1 ∷ []) 1 ∷ []

abbrev pub two_centres_program : Contents
two_centres_program = record { costs = 1028 ∷ 152 ∷ 50 ∷ 110 ∷ []; rows = two_centres_rows }

-- the same where two providers are asked, each of which has one of the centres: variables 4 and 5
abbrev pub two_providers_program : Contents
two_providers_program = record {
  costs = 1028 ∷ 152 ∷ 50 ∷ 110 ∷ 0 ∷ 0 ∷ [];
  rows = two_centres_rows ++ row (plus 0 ∷ minus 4 ∷ []) 0 ∷ row (plus 1 ∷ minus 5 ∷ []) 0 ∷ row (plus 4 ∷ plus 5 ∷ []) 2 ∷ [];
}

-- the two centres with a relay set
abbrev pub relayed : Lists
relayed = asking (record { mode = mode.Relay; f = 0; read_slo = 30; write_slo = 30; stored = 100; object = 2; providers = 1 }) (member 0 10 4 ∷ []) two_centres

-- its program: variables 4 and 5 are what comes from the first centre to both, 6 and 7 what comes
-- from the second
abbrev pub relayed_program : Contents
relayed_program = record {
  costs = 1000 ∷ 100 ∷ 50 ∷ 110 ∷ 28 ∷ 52 ∷ 52 ∷ 52 ∷ [];
  rows = row (plus 2 ∷ plus 3 ∷ []) 1
      ∷ row (plus 0 ∷ minus 2 ∷ []) 0 ∷ row (plus 1 ∷ minus 3 ∷ []) 0
      ∷ row (plus 0 ∷ plus 1 ∷ []) 1
      ∷ row (minus 0 ∷ plus 4 ∷ plus 6 ∷ []) 0 ∷ row (minus 1 ∷ plus 5 ∷ plus 7 ∷ []) 0
      ∷ row (plus 4 ∷ minus 5 ∷ []) 0 ∷ row (minus 6 ∷ plus 7 ∷ []) 0
      ∷ row (plus 0 ∷ minus 4 ∷ []) 0 ∷ row (plus 1 ∷ minus 7 ∷ []) 0
      ∷ row (plus 4 ∷ plus 7 ∷ []) 1 ∷ [];
}

-- the choice of one replica, in the first centre or the second, and of both
abbrev pub choice_of_x : List Bool
choice_of_x = true ∷ false ∷ true ∷ false ∷ []

abbrev pub choice_of_y : List Bool
choice_of_y = false ∷ true ∷ false ∷ true ∷ []

abbrev pub choice_of_both : List Bool
choice_of_both = true ∷ true ∷ true ∷ false ∷ []

-- both replicas, and reads at both
abbrev pub choice_of_all : List Bool
choice_of_all = true ∷ true ∷ true ∷ true ∷ []

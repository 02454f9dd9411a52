-- A worked file: machines for the two centres `x` and `y`, in units of one request.
use Rattle.std.specs.Prelude.{ℕ, List, [], ◌∷◌, codes}
use Rattle.price_tables.specs.declared.prices.Centre.{Centre}
use Rattle.workload.specs.World.{Lists}
use Rattle.machine_text.specs.Spelled.{Record}
use Rattle.machine_text.specs.Machines.{Fleet}

-- a world of these centres
abbrev pub centre : List ℕ → Centre
centre name = record { name = name; provider = codes "p"; price = record { store = 0; get = 0; put = 0 } }

abbrev pub two_centres : Lists
two_centres = record { centres = centre (codes "x") ∷ centre (codes "y") ∷ []; fares = []; sets = [] }

-- the records before those of the machines
abbrev pub in_ones : List Record
in_ones = (codes "span-machines" ∷ codes "1" ∷ []) ∷ (codes "unit" ∷ codes "1" ∷ []) ∷ []

-- a record of machines
abbrev pub machine : List ℕ → List ℕ → List ℕ → List ℕ → Record
machine centre price capacity digits = codes "machine" ∷ centre ∷ price ∷ capacity ∷ digits ∷ []

abbrev pub cheap_at_x : Record
cheap_at_x = machine (codes "x") (codes "100") (codes "20") (codes "3")

abbrev pub dear_at_y : Record
dear_at_y = machine (codes "y") (codes "1000") (codes "20") (codes "3")

-- what they say together
abbrev pub cheap_and_dear : Fleet
cheap_and_dear = record {
  unit = 1;
  each = record { price = 100; capacity = 20; digits = 3 } ∷ record { price = 1000; capacity = 20; digits = 3 } ∷ [];
}

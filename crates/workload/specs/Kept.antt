-- How a workload is kept: the name of each set at its number.
use Rattle.std.specs.Prelude.{◌≡◌, ℕ, List, map}
use Rattle.std.specs.Global.{Vec}
use Rattle.workload.specs.declared.rules.AccessSet.{AccessSet}

-- the names are those of the sets
abbrev pub AreNames : List (Vec ℕ) → List AccessSet → Type 0
AreNames names sets = map (λ k. k.items) names ≡ map (λ s. s.name) sets

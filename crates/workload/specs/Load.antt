-- What a workload says: its access sets in the order in which they were named.
use Rattle.std.specs.Prelude.{◌≢◌, ℕ, ◌≤◌, List, [], ◌∷◌, ◌++◌, length, map, nat_eq, Option, All, slice_index_or, slice_set}
use Rattle.std.specs.List.{position, IsDistinct, AllPairs}
use Rattle.std.specs.Cmp.Lexicographic.{pointwise}
use Rattle.span_base.specs.Name.{IsName}
use Rattle.workload.specs.declared.rules.Mode.TheVariants.{Direct}
use Rattle.workload.specs.declared.rules.SetRule.{SetRule}
use Rattle.workload.specs.declared.rules.Demand.{Demand}
use Rattle.workload.specs.declared.rules.AccessSet.{AccessSet}
use Rattle.workload.specs.Limits.{IsRuleWithin, AreCountsWithin}

-- what a place past the end of the list stands for
abbrev pub no_rule : SetRule
no_rule = record { mode = Direct; f = 0; read_slo = 0; write_slo = 0; stored = 0; object = 0; providers = 1 }

abbrev pub no_set : AccessSet
no_set = record { name = []; rule = no_rule; members = [] }

-- the set of a number
abbrev pub set_at : List AccessSet → ℕ → AccessSet
set_at sets set = slice_index_or sets set no_set

-- the number of the set of this name
abbrev pub set_number : List AccessSet → List ℕ → Option ℕ
set_number sets name = position (pointwise nat_eq name) (map (λ s. s.name) sets)

-- the sets with one more, which has no member yet
abbrev pub with_set : List AccessSet → List ℕ → SetRule → List AccessSet
with_set sets name rule = sets ++ record { name = name; rule = rule; members = [] } ∷ []

-- the set with one more member
abbrev pub with_member : AccessSet → Demand → AccessSet
with_member set demand = record { name = set.name; rule = set.rule; members = set.members ++ demand ∷ [] }

-- the sets with one more member of the set at a place
abbrev pub with_demand : List AccessSet → ℕ → Demand → List AccessSet
with_demand sets set demand = slice_set sets set (with_member (set_at sets set) demand)

-- a set is in order: a name, a rule within the limits, and at most 8 members in different centres,
-- with their counts within the limits
pub record IsSetLoaded (set : AccessSet) : Type 0 where
  pub name : IsName set.name
  pub rule : IsRuleWithin set.rule
  pub few : length set.members ≤ 8
  pub counts : All AreCountsWithin set.members
  pub distinct : AllPairs (λ a b. a.dc.0 ≢ b.dc.0) set.members

-- the sets are in order: at most 1,000, each in order, with a name of its own
pub record AreLoaded (sets : List AccessSet) : Type 0 where
  pub few : length sets ≤ 1000
  pub distinct : IsDistinct (pointwise nat_eq) (map (λ s. s.name) sets)
  pub each : All IsSetLoaded sets

-- What a world says.
use Rattle.std.specs.Prelude.{◌≡◌, ℕ, ◌+◌, ◌*◌, ◌<◌, ◌≤◌, ◌&&◌, nat_lt, nat_eq, if◌then◌else◌, List, length, map, Option, Some, None, All, slice_index_or}
use Rattle.std.specs.List.{flat_map, range_with_len, IsDistinct}
use Rattle.std.specs.Cmp.Lexicographic.{pointwise}
use Rattle.span_base.specs.Name.{IsName}
use Rattle.price_tables.specs.declared.prices.DcPrice.{DcPrice}
use Rattle.price_tables.specs.declared.prices.Fare.{Fare}
use Rattle.price_tables.specs.declared.prices.Centre.{Centre}
use Rattle.price_tables.specs.Limits.{IsPriceWithin, IsFareWithin}
use Rattle.price_tables.specs.Tables.{Tabled, count_of, link_at, no_centre}
use Rattle.workload.specs.declared.rules.SetRule.{SetRule}
use Rattle.workload.specs.declared.rules.Demand.{Demand}
use Rattle.workload.specs.declared.rules.AccessSet.{AccessSet}
use Rattle.workload.specs.Limits.{IsRuleWithin, AreCountsWithin}
use Rattle.workload.specs.Load.{no_set, AreLoaded}

-- a world: its centres and its access sets with their members, both in file order, and a fare for
-- every ordered pair of centres, in lexicographic order of the pair
pub record Lists : Type 0 where
  pub centres : List Centre
  pub fares : List Fare
  pub sets : List AccessSet

-- how many centres there are
abbrev pub centre_count : Lists → ℕ
centre_count w = length w.centres

-- what a place past the end of a list stands for
abbrev pub no_fare : Fare
no_fare = record { transfer = 0; latency = 0 }

-- the centre of a number
abbrev pub centre_of : Lists → ℕ → Centre
centre_of w dc = slice_index_or w.centres dc no_centre

abbrev pub price_of : Lists → ℕ → DcPrice
price_of w dc = (centre_of w dc).price

-- the fare of the link from one centre to another, nothing where one of them isn't in the world
abbrev pub fare_of : Lists → ℕ → ℕ → Fare
fare_of w from to =
    if nat_lt from (centre_count w) && nat_lt to (centre_count w) then slice_index_or w.fares (from * centre_count w + to) no_fare
    else no_fare

-- what a KiB costs from one centre to another, in pico-dollars
abbrev pub transfer_of : Lists → ℕ → ℕ → ℕ
transfer_of w from to = (fare_of w from to).transfer

-- the round trip from one centre to another and back, in ms
abbrev pub latency_of : Lists → ℕ → ℕ → ℕ
latency_of w from to = (fare_of w from to).latency

-- the access set of a number
abbrev pub set_of : Lists → ℕ → AccessSet
set_of w set = slice_index_or w.sets set no_set

abbrev pub rule_of : Lists → ℕ → SetRule
rule_of w set = (set_of w set).rule

abbrev pub members_of : Lists → ℕ → List Demand
members_of w set = (set_of w set).members

-- the name of a centre
abbrev pub name_of : Lists → ℕ → List ℕ
name_of w dc = (centre_of w dc).name

-- the fare of a link, nothing where there is none
abbrev pub fare_or_none : Option Fare → Fare
fare_or_none (Some fare) = fare
fare_or_none None = no_fare

-- the fares of the links from a centre, in the order of the centres they go to
abbrev pub fares_from : Tabled → ℕ → List Fare
fares_from t from = map (λ to. fare_or_none (link_at t from to)) (range_with_len 0 (count_of t))

-- the world of these tables and sets
abbrev pub world_of : Tabled → List AccessSet → Lists
world_of t sets = record {
  centres = t.centres;
  fares = flat_map (fares_from t) (range_with_len 0 (count_of t));
  sets = sets;
}

-- a member stands in one of the centres, and its counts are within their limits
pub record IsDemandWithin (centres : ℕ) (demand : Demand) : Type 0 where
  pub dc : demand.dc.0 < centres
  pub counts : AreCountsWithin demand

-- a set has 1 to 8 members, each of them and its rule within the limits
pub record IsSetWithin (centres : ℕ) (set : AccessSet) : Type 0 where
  pub rule : IsRuleWithin set.rule
  pub some_member : 1 ≤ length set.members
  pub few_members : length set.members ≤ 8
  pub members : All (IsDemandWithin centres) set.members

-- a world is complete: every pair of centres has a fare, every set a member, all within the limits
pub record IsComplete (w : Lists) : Type 0 where
  pub few_centres : centre_count w ≤ 16
  pub few_sets : length w.sets ≤ 1000
  pub every_fare : length w.fares ≡ centre_count w * centre_count w
  pub prices : All (λ c. IsPriceWithin c.price) w.centres
  pub fares : All IsFareWithin w.fares
  pub sets : All (IsSetWithin (centre_count w)) w.sets

-- the names of a world are spelled as names; no two centres share one, nor do two sets, and the
-- members of a set stand in different centres
pub record IsNamed (w : Lists) : Type 0 where
  pub names : All (λ c. IsName c.name) w.centres
  pub providers : All (λ c. IsName c.provider) w.centres
  pub distinct : IsDistinct (pointwise nat_eq) (map (λ c. c.name) w.centres)
  pub sets : AreLoaded w.sets

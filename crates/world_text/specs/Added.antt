-- What a record adds to the tables and sets that were read before it, or why it is refused: a name
-- that is unknown, then one that stands already, then a limit on how many there can be.
use Rattle.std.specs.Prelude.{ℕ, ◌+◌, Bool, nat_lt, if◌then◌else◌, List, length, Option, Some, None, is_some, Result, Ok, Err}
use Rattle.span_base.specs.declared.words.What.{What}
use Rattle.span_base.specs.declared.words.What.TheVariants as what
use Rattle.span_base.specs.declared.words.Cause.TheVariants as cause
use Rattle.price_tables.specs.declared.prices.Centre.{Centre}
use Rattle.price_tables.specs.declared.prices.Fare.{Fare}
use Rattle.price_tables.specs.Tables.{Tabled, count_of, number_of, link_at, with_centre, with_link}
use Rattle.workload.specs.declared.rules.SetRule.{SetRule}
use Rattle.workload.specs.declared.rules.Demand.{Demand}
use Rattle.workload.specs.declared.rules.AccessSet.{AccessSet}
use Rattle.workload.specs.Load.{set_at, set_number, with_set, with_demand}
use Rattle.workload.specs.Faults.{has_member}
use Rattle.world_text.specs.declared.fault.Fault.{Fault}
use Rattle.world_text.specs.declared.fault.Fault.TheVariants.{Bad, Limit}
use Rattle.world_text.specs.Steps.{◌>>=◌}

-- the number of a name that is known
abbrev pub known : Option ℕ → Result ℕ Fault
known (Some number) = Ok number
known None = Err (Bad cause.Unknown)

-- nothing stands there yet
abbrev pub not_twice : Bool → Result (Unit {0}) Fault
not_twice stands = if stands then Err (Bad cause.Twice) else Ok tt

-- there is room for one more beside so many
abbrev pub room : What → ℕ → ℕ → Result (Unit {0}) Fault
room what most count = if nat_lt count most then Ok tt else Err (Limit what (count + 1))

-- one more centre
unfoldable pub centre_added : Tabled → Centre → Result Tabled Fault
centre_added t c = do
  new ← not_twice (is_some (number_of t c.name))
  fits ← room what.Centres 16 (count_of t)
  Ok (with_centre t c)

-- one more link
unfoldable pub link_added : Tabled → (from to : List ℕ) → Fare → Result Tabled Fault
link_added t from to fare = do
  a ← known (number_of t from)
  b ← known (number_of t to)
  new ← not_twice (is_some (link_at t a b))
  Ok (with_link t a b fare)

-- one more set, without members
unfoldable pub set_added : List AccessSet → List ℕ → SetRule → Result (List AccessSet) Fault
set_added sets name rule = do
  new ← not_twice (is_some (set_number sets name))
  fits ← room what.Sets 1000 (length sets)
  Ok (with_set sets name rule)

-- one more member of the set of this name
unfoldable pub member_added : List AccessSet → List ℕ → Demand → Result (List AccessSet) Fault
member_added sets name demand = do
  set ← known (set_number sets name)
  new ← not_twice (has_member (set_at sets set).members demand.dc.0)
  fits ← room what.Members 8 (length (set_at sets set).members)
  Ok (with_demand sets set demand)

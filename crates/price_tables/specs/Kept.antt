-- How the tables are kept: each centre under its name, and a place for every pair of centres.
use Rattle.std.specs.Prelude.{◌≡◌, ℕ, List, map, Option}
use Rattle.std.specs.Global.{Vec}
use Rattle.price_tables.specs.declared.prices.Fare.{Fare}
use Rattle.price_tables.specs.declared.prices.Centre.{Centre}
use Rattle.price_tables.specs.Tables.{IsTabled}

-- an entry: a centre under its name
abbrev pub Entry : Type 0
Entry = Vec ℕ × Centre

-- the centres of the entries
abbrev pub centres_of : List Entry → List Centre
centres_of entries = map (λ e. e.1) entries

-- each centre stands under its own name
abbrev pub AreUnderNames : List Entry → Type 0
AreUnderNames entries = map (λ e. e.0.items) entries ≡ map (λ e. e.1.name) entries

-- each centre stands under its own name, and the tables are in order
pub record IsKept (entries : List Entry) (links : List (Option Fare)) : Type 0 where
  pub keys : AreUnderNames entries
  pub tabled : IsTabled (record { centres = centres_of entries; links = links })

-- What price tables say.
use Rattle.std.specs.Prelude.{◌≡◌, ℕ, ◌+◌, ◌*◌, ◌<◌, ◌≤◌, ◌&&◌, if◌then◌else◌, List, [], ◌∷◌, ◌++◌, length, map, replicate, nat_eq, nat_lt, Option, Some, None, IsSome, All, slice_index_or, slice_set}
use Rattle.std.specs.List.{position, IsDistinct}
use Rattle.std.specs.Cmp.Lexicographic.{pointwise}
use Rattle.span_base.specs.Name.{IsName}
use Rattle.price_tables.specs.Limits.{IsPriceWithin, IsFareWithin}
use Rattle.price_tables.specs.declared.prices.Fare.{Fare}
use Rattle.price_tables.specs.declared.prices.Centre.{Centre}

-- the centres in the order in which they were named, and the fare of the link from a to b at the
-- place a * 16 + b, where there is one
pub record Tabled : Type 0 where
  pub centres : List Centre
  pub links : List (Option Fare)

-- no centre and no link
abbrev pub nothing_tabled : Tabled
nothing_tabled = record { centres = []; links = replicate 256 None }

-- how many centres there are
abbrev pub count_of : Tabled → ℕ
count_of t = length t.centres

-- what a place past the end of the list stands for
abbrev pub no_centre : Centre
no_centre = record { name = []; provider = []; price = record { store = 0; get = 0; put = 0 } }

-- the centre of a number
abbrev pub centre_at : Tabled → ℕ → Centre
centre_at t dc = slice_index_or t.centres dc no_centre

-- the number of the centre of this name
abbrev pub number_of : Tabled → List ℕ → Option ℕ
number_of t name = position (pointwise nat_eq name) (map (λ c. c.name) t.centres)

-- the fare at the place of a link
abbrev pub link_at : Tabled → ℕ → ℕ → Option Fare
link_at t from to = slice_index_or t.links (from * 16 + to) None

-- the fare of the link from one centre to another, nothing where one of them isn't in the tables
abbrev pub link_between : Tabled → ℕ → ℕ → Option Fare
link_between t from to =
    if nat_lt from (count_of t) && nat_lt to (count_of t) then link_at t from to else None

-- the tables with one more centre
abbrev pub with_centre : Tabled → Centre → Tabled
with_centre t c = record { centres = t.centres ++ c ∷ []; links = t.links }

-- the tables with one more link
abbrev pub with_link : Tabled → ℕ → ℕ → Fare → Tabled
with_link t from to fare = record { centres = t.centres; links = slice_set t.links (from * 16 + to) (Some fare) }

-- every pair that comes before this one, in lexicographic order, has a link
abbrev pub AreLinkedBefore : Tabled → ℕ → ℕ → Type 0
AreLinkedBefore t from to =
    (a b : ℕ) → a < count_of t → b < count_of t → a * 16 + b < from * 16 + to → IsSome (link_at t a b)

-- every pair of centres has a link
abbrev pub AreAllLinked : Tabled → Type 0
AreAllLinked t = (a b : ℕ) → a < count_of t → b < count_of t → IsSome (link_at t a b)

-- there is no link, or its fare is within the limits
abbrev pub IsLinkWithin : Option Fare → Type 0
IsLinkWithin None = Unit {0}
IsLinkWithin (Some fare) = IsFareWithin fare

-- the tables are in order: at most 16 centres, each with a name of its own, a place for every pair,
-- and all numbers within their limits
pub record IsTabled (t : Tabled) : Type 0 where
  pub few : count_of t ≤ 16
  pub places : length t.links ≡ 256
  pub distinct : IsDistinct (pointwise nat_eq) (map (λ c. c.name) t.centres)
  pub names : All (λ c. IsName c.name) t.centres
  pub providers : All (λ c. IsName c.provider) t.centres
  pub prices : All (λ c. IsPriceWithin c.price) t.centres
  pub fares : All IsLinkWithin t.links

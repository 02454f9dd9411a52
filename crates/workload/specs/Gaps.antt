-- What tables and sets lack to make a world.
use Rattle.std.specs.Prelude.{◌≡◌, ◌≢◌, ℕ, ◌<◌, List, [], length, All, None}
use Rattle.price_tables.specs.Tables.{Tabled, count_of, link_at, AreLinkedBefore, AreAllLinked}
use Rattle.workload.specs.declared.rules.AccessSet.{AccessSet}
use Rattle.workload.specs.declared.fault.Gap.{Gap}
use Rattle.workload.specs.declared.fault.Gap.TheVariants.{NoLink, NoMember}
use Rattle.workload.specs.Load.{set_at}

-- each demand's centre is one of so many
abbrev pub AreInCentres : ℕ → List AccessSet → Type 0
AreInCentres count sets = All (λ set. All (λ demand. demand.dc.0 < count) set.members) sets

-- every set before this one has a member
abbrev pub HaveMembersBefore : List AccessSet → ℕ → Type 0
HaveMembersBefore sets set = (s : ℕ) → s < set → (set_at sets s).members ≢ []

-- the pair is the first, in lexicographic order, that has no link
pub record IsFirstUnlinked (t : Tabled) (from to : ℕ) : Type 0 where
  pub from_within : from < count_of t
  pub to_within : to < count_of t
  pub unlinked : link_at t from to ≡ None
  pub first : AreLinkedBefore t from to

-- every pair has a link, and the set is the first that has no member
pub record IsFirstEmpty (t : Tabled) (sets : List AccessSet) (set : ℕ) : Type 0 where
  pub linked : AreAllLinked t
  pub within : set < length sets
  pub empty : (set_at sets set).members ≡ []
  pub first : HaveMembersBefore sets set

-- the gap is the first one: a pair without a link comes before a set without a member
abbrev pub IsFirstGap : Tabled → List AccessSet → Gap → Type 0
IsFirstGap t sets (NoLink from to) = IsFirstUnlinked t from.0 to.0
IsFirstGap t sets (NoMember set) = IsFirstEmpty t sets set.0

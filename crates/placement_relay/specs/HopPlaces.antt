-- Where the bits of hops stand: words of inner contracts alone.
use Rattle.std.specs.Prelude.{◌≡◌, ℕ, ◌<◌, ◌==◌, true, List, length, slice_index, slice_index_or}
use Rattle.std.specs.List.{list_any}
use Rattle.span_base.specs.declared.policy.Hop.{Hop}
use Rattle.workload.specs.World.{Lists, centre_count, members_of}
use Rattle.slo_rules.specs.Rules.{centres_asking}
use Rattle.placement_rows.specs.Centres.{nobody}

-- the numbers of a set's members, each at the member's centre
pub record AreNumbers (w : Lists) (set : ℕ) (numbers : List ℕ) : Type 0 where
  pub each : (a : ℕ) → a < length (members_of w set) → slice_index numbers (slice_index_or (members_of w set) a nobody).dc.0 ≡ a

-- a hop is a member's, from a centre to a centre
pub record IsHopOf (w : Lists) (set : ℕ) (hop : Hop) : Type 0 where
  pub member : list_any (λ dc. dc == hop.member.0) (centres_asking (members_of w set)) ≡ true
  pub child : hop.child.0 < centre_count w
  pub parent : hop.parent.0 < centre_count w

-- The room for the lines of a policy.
use Rattle.std.specs.Prelude.{ℕ, ◌<◌, ◌≤◌, length}
use Rattle.slo_rules.specs.PolicyReading.{Draft}
use Rattle.slo_rules.specs.declared.turn.Due.{Due}
use Rattle.slo_rules.specs.declared.turn.Due.TheVariants.{Replicas, Primary, Hop, Quorum}

-- room for the primaries and quorums of 8 members, and for their hops to 16 centres
pub record HasRoom (primaries passed asked : ℕ) : Type 0 where
  pub primary : 8 ≤ primaries
  pub hops : 128 ≤ passed
  pub quorums : 8 ≤ asked

-- the line that is due has a place in that room
abbrev pub HasPlace : Draft → Due → Type 0
HasPlace d Replicas = Unit {0}
HasPlace d (Primary turn) = length d.primary < 8
HasPlace d (Hop turn replica) = length d.hops < 128
HasPlace d (Quorum turn) = length d.quorums < 8

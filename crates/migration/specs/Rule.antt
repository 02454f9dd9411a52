-- What the moves of strong and of eventual keys do differently.
use Rattle.std.specs.Prelude.{Bool}
use Rattle.span_base.specs.declared.dc_set.DcSet.{DcSet}
use Rattle.span_base.specs.declared.policy.Policy.{Policy}
use Rattle.call_phase.specs.declared.phase.Phase.{Phase}

-- The replicas of the old policy are frozen enough, by the answers of the phase; where the seed
-- goes under the new policy; it is stored at enough of them; and too many of them refused it.
pub record Rule : Type 0 where
  pub is_frozen : Policy → Phase → Bool
  pub seed_set : Policy → DcSet
  pub is_seeded : Policy → Phase → Bool
  pub is_lost : Policy → Phase → Bool

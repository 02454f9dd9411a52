-- What lasts in a directory.
use Rattle.std.specs.Prelude.{◌≡◌, ◌≤◌, ℕ}
use Rattle.span_base.specs.declared.ids.KeyId.{KeyId}
use Rattle.epoch_directory.specs.State.{State, latest, policy_in, current_of, IsPublished}

-- the keys' sets stay, epochs are only added, a published one keeps the policy of each set, and no key goes back to an earlier epoch
pub record Follows (old new : State) : Type 0 where
  pub sets : new.sets ≡ old.sets
  pub latest : latest old ≤ latest new
  pub policies : (epoch set : ℕ) → IsPublished old epoch → policy_in new epoch set ≡ policy_in old epoch set
  pub current : (key : KeyId) → current_of old key ≤ current_of new key

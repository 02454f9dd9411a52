-- The epochs of an eventual key that have been current, and what the directory told of them.
use Rattle.std.specs.Prelude.{ℕ, ◌≡◌, ◌<◌, ◌≤◌, length, Contains}
use Rattle.span_base.specs.declared.ids.KeyId.{KeyId}
use Rattle.span_base.specs.declared.policy.Policy.{Policy}
use Rattle.wire_msg.specs.declared.tag.Tag.{Tag}
use Rattle.wire_msg.specs.declared.message.Message.TheVariants as m
use Rattle.epoch_directory.specs.State.{latest, current_of}
use Rattle.world_core.specs.State.{Store, policy_of}
use Rattle.register_law.specs.Ghost.{Ghost}
use Rattle.register_law.specs.Seen.{WasSent}
use Rattle.register_law.specs.Ends.{IsChain, IsNewest}

-- what the directory told of the key
pub record HereIs (key : KeyId) (s : Store) (g : Ghost) (epoch : ℕ) (policy : Policy) (latest_epoch : ℕ) (latest_policy : Policy) : Type 0 where
  pub opened : Contains g.opened epoch
  pub within : (epoch ≤ latest_epoch) × (latest_epoch ≤ latest s.directory)
  pub policy_is : policy ≡ policy_of s key epoch
  pub newest_is : latest_policy ≡ policy_of s key latest_epoch

pub record EpochsAreChained (key : KeyId) (s : Store) (g : Ghost) : Type 0 where
  pub exists : key.0 < length s.directory.current
  pub chain : IsChain key s g.opened
  pub newest : IsNewest (current_of s.directory key) g.opened
  pub published : (e : ℕ) → Contains g.opened e → (1 ≤ e) × (e ≤ latest s.directory)
  pub here_opened : (tag : Tag) (epoch : ℕ) (policy : Policy) (latest_epoch : ℕ) (latest_policy : Policy) → WasSent s (m.Here tag key epoch policy latest_epoch latest_policy) → HereIs key s g epoch policy latest_epoch latest_policy

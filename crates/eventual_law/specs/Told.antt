-- What the answers of replicas tell of an eventual key.
use Rattle.std.specs.Prelude.{ℕ, ◌≡◌, ◌≤◌, List, Some}
use Rattle.span_base.specs.declared.ids.KeyId.{KeyId}
use Rattle.span_base.specs.declared.dc_set.DcSet.{DcSet}
use Rattle.ticket_rules.specs.declared.stamp.Stamp.{Stamp}
use Rattle.ticket_rules.specs.Stamp.{IsAtMost}
use Rattle.wire_msg.specs.declared.tag.Tag.{Tag}
use Rattle.wire_msg.specs.declared.message.Message.{Message}
use Rattle.wire_msg.specs.declared.message.Message.TheVariants as m
use Rattle.world_core.specs.State.{Store, kept_of}
use Rattle.wire_msg.specs.Posts.{tag_of}
use Rattle.register_law.specs.Ghost.{Ghost}
use Rattle.register_law.specs.Seen.{WasSent, version_before}
use Rattle.register_law.specs.Tags.{request_key}
use Rattle.eventual_law.specs.Kinds.{shape}

pub record EventualAnswersTell (key : KeyId) (s : Store) (g : Ghost) : Type 0 where
  pub one_shape : (a b : Message) → WasSent s a → WasSent s b → request_key a ≡ Some key → request_key b ≡ Some key → tag_of a ≡ tag_of b → shape a ≡ shape b
  pub yes_push : (tag : Tag) (stamp : Stamp) (onward : DcSet) (value : List ℕ) (d : ℕ) → WasSent s (m.Push tag key stamp onward value) → WasSent s (m.Yes tag (record { 0 = d })) → IsAtMost stamp (version_before key s g d stamp.epoch)
  pub yes_seed : (tag : Tag) (d epoch : ℕ) (stamp : Stamp) (value : List ℕ) → WasSent s (m.Seed tag key epoch stamp value) → WasSent s (m.Yes tag (record { 0 = d })) → IsAtMost stamp (version_before key s g d epoch)
  pub have_freeze : (tag : Tag) (d epoch : ℕ) (version mark : Stamp) (value : List ℕ) → WasSent s (m.Freeze tag key epoch) → WasSent s (m.Have tag (record { 0 = d }) version mark value) → (epoch ≤ (kept_of s d key).frozen) × IsAtMost (version_before key s g d epoch) version
  pub fixed_below : (d e : ℕ) → e ≤ (kept_of s d key).frozen → IsAtMost (g.fixed d e) (kept_of s d key).version

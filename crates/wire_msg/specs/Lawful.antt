-- Which messages are lawful: those whose fields are in their ranges.
use Rattle.std.specs.Prelude.{◌<◌, ◌≤◌, List, length, All}
use Rattle.std.specs.List.{AllByRecursion}
use Rattle.span_base.specs.declared.ids.KeyId.{KeyId}
use Rattle.span_base.specs.declared.ids.DcId.{DcId}
use Rattle.span_base.specs.Policy.{IsSoundPolicy}
use Rattle.ticket_rules.specs.declared.stamp.Stamp.{Stamp}
use Rattle.wire_msg.specs.declared.tag.Tag.{Tag}
use Rattle.wire_msg.specs.declared.message.Message.{Message}
use Rattle.wire_msg.specs.declared.outputs.Post.{Post}
use Rattle.wire_msg.specs.declared.outputs.View.{View}
use Rattle.wire_msg.specs.declared.outputs.Reply.{Reply}
use Rattle.wire_msg.specs.declared.outputs.Reply.TheVariants.{Value, Stored, At, Fenced, Current}
use Rattle.wire_msg.specs.Fields.{Field, a_tag, a_key, an_epoch, a_frozen_epoch, a_stamp, a_value, a_set, a_replica, a_policy, a_flag, fields_of}

-- the numbers of a tag are in their ranges
pub record IsLawfulTag (tag : Tag) : Type 0 where
  pub proxy : tag.call.proxy < 64
  pub seq : 1 ≤ tag.call.seq
  pub slot : tag.slot < 64
  pub generation : 1 ≤ tag.generation
  pub phase : 1 ≤ tag.phase

abbrev pub IsLawfulKey : KeyId → Type 0
IsLawfulKey key = key.0 < 1000

abbrev pub IsLawfulStamp : Stamp → Type 0
IsLawfulStamp stamp = stamp.proxy < 64

abbrev pub IsLawfulReplica : DcId → Type 0
IsLawfulReplica replica = replica.0 < 16

-- the field is in its range
abbrev pub IsInRange : Field → Type 0
IsInRange (a_tag tag) = IsLawfulTag tag
IsInRange (a_key key) = IsLawfulKey key
IsInRange (an_epoch epoch) = 1 ≤ epoch
IsInRange (a_frozen_epoch epoch) = Unit {0}
IsInRange (a_stamp stamp) = IsLawfulStamp stamp
IsInRange (a_value value) = length value ≤ 4096
IsInRange (a_set centres) = Unit {0}
IsInRange (a_replica replica) = IsLawfulReplica replica
IsInRange (a_policy policy) = IsSoundPolicy policy
IsInRange (a_flag flag) = Unit {0}

-- the message's fields are all in their ranges
abbrev pub IsLawful : Message → Type 0
IsLawful message = AllByRecursion IsInRange (fields_of message)

-- the posts carry lawful messages
abbrev pub AreLawful : List Post → Type 0
AreLawful posts = All (λ post. IsLawful post.message) posts

-- the fields of a view are in their ranges
pub record IsLawfulView (view : View) : Type 0 where
  pub key : IsLawfulKey view.key
  pub epoch : 1 ≤ view.epoch
  pub policy : IsSoundPolicy view.policy

-- the fields of a reply are in their ranges
abbrev pub IsLawfulReply : Reply → Type 0
IsLawfulReply (Value stamp value) = IsLawfulStamp stamp × (length value ≤ 4096)
IsLawfulReply (Stored stamp) = IsLawfulStamp stamp
IsLawfulReply (At epoch) = 1 ≤ epoch
IsLawfulReply (Fenced held) = IsLawfulStamp held
IsLawfulReply (Current epoch) = 1 ≤ epoch
IsLawfulReply reply = Unit {0}

-- How many bytes frames have.
use Rattle.std.specs.Prelude.{ℕ, ◌+◌, ◌*◌, List, length, sum_by}
use Rattle.span_base.specs.DcSet.{centres_of}
use Rattle.span_base.specs.declared.policy.Policy.{Policy}
use Rattle.span_base.specs.declared.policy.Policy.TheVariants.{Direct, Relay, Strong}
use Rattle.wire_msg.specs.declared.message.Message.{Message}
use Rattle.wire_msg.specs.declared.outputs.Post.{Post}
use Rattle.wire_msg.specs.declared.outputs.Bulk.{Bulk}
use Rattle.wire_msg.specs.Fields.{Field, a_tag, a_key, an_epoch, a_frozen_epoch, a_stamp, a_value, a_set, a_replica, a_policy, a_flag, fields_of}

-- the bytes of a policy: its mode, f, replicas and number of members, and what each member takes
abbrev pub policy_size : Policy → ℕ
policy_size (Direct f replicas primary) = 5 + length primary * 2
policy_size (Relay f replicas primary parent) = 5 + length primary * (2 + length (centres_of replicas))
policy_size (Strong f replicas members) = 5 + length members * 5

-- the bytes of a field
abbrev pub field_size : Field → ℕ
field_size (a_tag tag) = 11
field_size (a_key key) = 2
field_size (an_epoch epoch) = 4
field_size (a_frozen_epoch epoch) = 4
field_size (a_stamp stamp) = 17
field_size (a_value value) = 2 + length value
field_size (a_set centres) = 2
field_size (a_replica replica) = 1
field_size (a_policy policy) = policy_size policy
field_size (a_flag flag) = 1

-- the bytes of a message's frame: its kind and its fields
abbrev pub frame_size : Message → ℕ
frame_size message = 1 + sum_by field_size (fields_of message)

-- the number of the posts, and the bytes of their frames together
abbrev pub bulk_of : List Post → Bulk
bulk_of posts = record { posts = length posts; bytes = sum_by (λ post. frame_size post.message) posts }

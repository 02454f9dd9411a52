-- How messages are spelled as frames. Every number has its greatest byte first.
use Rattle.std.specs.Prelude.{ℕ, List, [], ◌∷◌, ◌++◌, length, take, drop, if◌then◌else◌}
use Rattle.std.specs.List.{flat_map}
use Rattle.std.specs.Int.{Width, w8, w16, w32, w64, to_be_bytes}
use Rattle.span_base.specs.declared.dc_set.DcSet.{DcSet}
use Rattle.span_base.specs.DcSet.{bits_of, centres_of}
use Rattle.span_base.specs.declared.policy.Near.{Near}
use Rattle.span_base.specs.declared.policy.Hop.{Hop}
use Rattle.span_base.specs.declared.policy.Quorum.{Quorum}
use Rattle.span_base.specs.declared.policy.Policy.{Policy}
use Rattle.span_base.specs.declared.policy.Policy.TheVariants.{Direct, Relay, Strong}
use Rattle.ticket_rules.specs.declared.stamp.Stamp.{Stamp}
use Rattle.wire_msg.specs.declared.tag.Tag.{Tag}
use Rattle.wire_msg.specs.declared.message.Message.{Message}
use Rattle.wire_msg.specs.Fields.{Field, a_tag, a_key, an_epoch, a_frozen_epoch, a_stamp, a_value, a_set, a_replica, a_policy, a_flag, kind_of, fields_of}

-- a number of this width
unfoldable pub big : Width → ℕ → List ℕ
big width number = to_be_bytes width number

unfoldable pub tag_bytes : Tag → List ℕ
tag_bytes tag = big w8 tag.call.proxy ++ big w8 tag.slot ++ big w32 tag.generation ++ big w32 tag.call.seq ++ big w8 tag.phase

unfoldable pub stamp_bytes : Stamp → List ℕ
stamp_bytes stamp = big w32 stamp.epoch ++ big w64 stamp.number ++ big w8 stamp.proxy ++ big w32 stamp.seq

unfoldable pub value_bytes : List ℕ → List ℕ
value_bytes value = big w16 (length value) ++ value

unfoldable pub set_bytes : DcSet → List ℕ
set_bytes centres = big w16 (bits_of centres)

-- what a policy begins with: its mode, f, the replicas, the number of its members
unfoldable pub policy_head : ℕ → ℕ → DcSet → ℕ → List ℕ
policy_head mode f replicas members = big w8 mode ++ big w8 f ++ set_bytes replicas ++ big w8 members

-- a member and its primary
unfoldable pub near_bytes : Near → List ℕ
near_bytes near = big w8 near.member.0 ++ big w8 near.at.0

-- each member with its primary, and then the parents of its hops, as many as there are replicas
unfoldable pub lanes_bytes : ℕ → List Near → List Hop → List ℕ
lanes_bytes replicas [] hops = []
lanes_bytes replicas (near ∷ nears) hops =
    near_bytes near ++ flat_map (λ hop. big w8 hop.parent.0) (take replicas hops) ++ lanes_bytes replicas nears (drop replicas hops)

-- a member, what it reads from and what it writes to
unfoldable pub quorum_bytes : Quorum → List ℕ
quorum_bytes quorum = big w8 quorum.dc.0 ++ set_bytes quorum.read ++ set_bytes quorum.write

unfoldable pub policy_bytes : Policy → List ℕ
policy_bytes (Direct f replicas primary) = policy_head 1 f replicas (length primary) ++ flat_map near_bytes primary
policy_bytes (Relay f replicas primary parent) = policy_head 2 f replicas (length primary) ++ lanes_bytes (length (centres_of replicas)) primary parent
policy_bytes (Strong f replicas members) = policy_head 3 f replicas (length members) ++ flat_map quorum_bytes members

-- the bytes of a field
abbrev pub bytes_of : Field → List ℕ
bytes_of (a_tag tag) = tag_bytes tag
bytes_of (a_key key) = big w16 key.0
bytes_of (an_epoch epoch) = big w32 epoch
bytes_of (a_frozen_epoch epoch) = big w32 epoch
bytes_of (a_stamp stamp) = stamp_bytes stamp
bytes_of (a_value value) = value_bytes value
bytes_of (a_set centres) = set_bytes centres
bytes_of (a_replica replica) = big w8 replica.0
bytes_of (a_policy policy) = policy_bytes policy
bytes_of (a_flag flag) = big w8 (if flag then 1 else 0)

-- the bytes of fields, one after the other
abbrev pub fields_bytes : List Field → List ℕ
fields_bytes fields = flat_map bytes_of fields

-- the frame of a message: its kind, and then its fields
abbrev pub frame_of : Message → List ℕ
frame_of message = kind_of message ∷ fields_bytes (fields_of message)

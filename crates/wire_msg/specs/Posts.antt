-- To whom posts go, and of which key they speak.
use Rattle.std.specs.Prelude.{◌≡◌, ◌≤◌, ◌*◌, ⊤, IsTrue, List, [], ◌∷◌, All, Option, Some, None, IfSome}
use Rattle.span_base.specs.declared.ids.KeyId.{KeyId}
use Rattle.span_base.specs.declared.dc_set.DcSet.{DcSet}
use Rattle.span_base.specs.DcSet.{has, no_centre}
use Rattle.wire_msg.specs.declared.tag.Tag.{Tag}
use Rattle.wire_msg.specs.declared.actor.Actor.{Actor}
use Rattle.wire_msg.specs.declared.actor.Actor.TheVariants.{Replica, Directory, Proxy}
use Rattle.wire_msg.specs.declared.message.Message.{Message}
use Rattle.wire_msg.specs.declared.message.Message.TheVariants.{Read, Ask, Store, Repair, Confirm, Freeze, Seed, Push, Lookup, Switch, Have, Yes, Held, Gone, Here, Switched}
use Rattle.wire_msg.specs.declared.outputs.Post.{Post}
use Rattle.wire_msg.specs.Sizes.{bulk_of}

-- one message to the directory
abbrev pub to_directory : Message → List Post
to_directory message = record { to = Directory; message = message } ∷ []

-- one message to the proxy whose call has the tag
abbrev pub to_proxy : Tag → Message → List Post
to_proxy tag message = record { to = Proxy tag.call.proxy; message = message } ∷ []

-- the tag of a message
abbrev pub tag_of : Message → Tag
tag_of (Read tag key epoch) = tag
tag_of (Ask tag key stamp) = tag
tag_of (Store tag key stamp value) = tag
tag_of (Repair tag key epoch stamp value) = tag
tag_of (Confirm tag key stamp) = tag
tag_of (Freeze tag key epoch) = tag
tag_of (Seed tag key epoch stamp value) = tag
tag_of (Push tag key stamp onward value) = tag
tag_of (Lookup tag key) = tag
tag_of (Switch tag key closing opening) = tag
tag_of (Have tag replica version mark value) = tag
tag_of (Yes tag replica) = tag
tag_of (Held tag replica stamp) = tag
tag_of (Gone tag replica epoch) = tag
tag_of (Here tag key epoch policy latest_epoch latest_policy) = tag
tag_of (Switched tag key done epoch) = tag

-- the key that a message speaks of: a replica's answers speak of none
abbrev pub key_of : Message → Option KeyId
key_of (Read tag key epoch) = Some key
key_of (Ask tag key stamp) = Some key
key_of (Store tag key stamp value) = Some key
key_of (Repair tag key epoch stamp value) = Some key
key_of (Confirm tag key stamp) = Some key
key_of (Freeze tag key epoch) = Some key
key_of (Seed tag key epoch stamp value) = Some key
key_of (Push tag key stamp onward value) = Some key
key_of (Lookup tag key) = Some key
key_of (Switch tag key closing opening) = Some key
key_of (Have tag replica version mark value) = None
key_of (Yes tag replica) = None
key_of (Held tag replica stamp) = None
key_of (Gone tag replica epoch) = None
key_of (Here tag key epoch policy latest_epoch latest_policy) = Some key
key_of (Switched tag key done epoch) = Some key

-- the replicas that a message is to be sent on to
abbrev pub onward_of : Message → DcSet
onward_of (Push tag key stamp onward value) = onward
onward_of message = no_centre

-- a replica of the set, or the directory
abbrev pub IsAsked : DcSet → Actor → Type 0
IsAsked asked (Replica d) = IsTrue (has asked d)
IsAsked asked Directory = ⊤
IsAsked asked (Proxy number) = ⊥

-- the proxy whose call the message is of, or a replica that it is to be sent on to
abbrev pub IsAnswered : Message → Actor → Type 0
IsAnswered message (Replica d) = IsTrue (has (onward_of message) d)
IsAnswered message Directory = ⊥
IsAnswered message (Proxy number) = number ≡ (tag_of message).call.proxy

-- The posts of a call on this key, which asks replicas of this set and the directory. A Repair or
-- a Seed with 4,096 bytes of value has the longest frame, of 4,133 bytes.
pub record ArePostsOf (key : KeyId) (asked : DcSet) (posts : List Post) : Type 0 where
  pub to : All (λ post. IsAsked asked post.to) posts
  pub of_key : All (λ post. key_of post.message ≡ Some key) posts
  pub count : (bulk_of posts).posts ≤ 16
  pub bytes : (bulk_of posts).bytes ≤ 16 * 4133

-- The posts that a replica or the directory puts out for a message: each speaks of the message's
-- key or of none. A Push to 16 replicas has the most, its answer and one for each.
pub record AreAnswersTo (message : Message) (posts : List Post) : Type 0 where
  pub to : All (λ post. IsAnswered message post.to) posts
  pub of_key : All (λ post. IfSome (key_of post.message) (λ key. key_of message ≡ Some key)) posts
  pub count : (bulk_of posts).posts ≤ 17
  pub bytes : (bulk_of posts).bytes ≤ 16 * 4133

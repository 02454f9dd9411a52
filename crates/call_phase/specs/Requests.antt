-- The requests of a phase.
use Rattle.std.specs.Prelude.{ℕ, List, map}
use Rattle.span_base.specs.declared.dc_set.DcSet.{DcSet}
use Rattle.span_base.specs.DcSet.{centres_of, centres_below}
use Rattle.wire_msg.specs.declared.tag.Tag.{Tag}
use Rattle.wire_msg.specs.declared.actor.Actor.TheVariants.{Replica}
use Rattle.wire_msg.specs.declared.message.Message.{Message}
use Rattle.wire_msg.specs.declared.message.Message.TheVariants as m
use Rattle.wire_msg.specs.declared.outputs.Post.{Post}
use Rattle.call_phase.specs.declared.request.Request.{Request}
use Rattle.call_phase.specs.declared.request.Request.TheVariants.{Read, Ask, Store, Repair, Confirm, Freeze, Seed}

-- the message of a request
abbrev pub message_of : Tag → Request → Message
message_of tag (Read key epoch) = m.Read tag key epoch
message_of tag (Ask key stamp) = m.Ask tag key stamp
message_of tag (Store key stamp value) = m.Store tag key stamp value.now
message_of tag (Repair key epoch stamp value) = m.Repair tag key epoch stamp value.now
message_of tag (Confirm key stamp) = m.Confirm tag key stamp
message_of tag (Freeze key epoch) = m.Freeze tag key epoch
message_of tag (Seed key epoch stamp value) = m.Seed tag key epoch stamp value.now

-- one message to a replica
abbrev pub post_to : Message → ℕ → Post
post_to message d = record { to = Replica d; message = message }

-- one message to each replica of the set, in rising order
abbrev pub posts_to : DcSet → Message → List Post
posts_to set message = map (post_to message) (centres_of set)

-- the same to the replicas below d
abbrev pub posts_from : DcSet → Message → ℕ → List Post
posts_from set message d = map (post_to message) (centres_below set d)

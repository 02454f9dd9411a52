-- What a replica puts out for a message, by what it kept of the key before.
use Rattle.std.specs.Prelude.{ℕ, if◌then◌else◌, List, [], ◌++◌, map}
use Rattle.span_base.specs.declared.ids.KeyId.{KeyId}
use Rattle.span_base.specs.declared.dc_set.DcSet.{DcSet}
use Rattle.span_base.specs.DcSet.{centres_of, no_centre}
use Rattle.ticket_rules.specs.declared.stamp.Stamp.{Stamp}
use Rattle.ticket_rules.specs.Stamp.{greater, grants, stores}
use Rattle.wire_msg.specs.declared.tag.Tag.{Tag}
use Rattle.wire_msg.specs.declared.actor.Actor.TheVariants.{Replica}
use Rattle.wire_msg.specs.declared.message.Message.{Message}
use Rattle.wire_msg.specs.declared.message.Message.TheVariants.{Read, Ask, Store, Repair, Confirm, Freeze, Seed, Push, Lookup, Switch, Have, Yes, Held, Gone, Here, Switched}
use Rattle.wire_msg.specs.declared.outputs.Post.{Post}
use Rattle.wire_msg.specs.Posts.{to_proxy}
use Rattle.replica_core.specs.declared.kept.Kept.{Kept}
use Rattle.replica_core.specs.Keeping.{is_over}

-- that the epoch is over
abbrev pub gone : ℕ → Kept → Tag → Message
gone number kept tag = Gone tag (record { 0 = number }) kept.frozen

-- what is kept
abbrev pub have : ℕ → Kept → Tag → Message
have number kept tag = Have tag (record { 0 = number }) kept.version kept.mark kept.value

-- that it is done
abbrev pub done : ℕ → Tag → Message
done number tag = Yes tag (record { 0 = number })

-- that a greater stamp stands against it
abbrev pub held : ℕ → Kept → Tag → Message
held number kept tag = Held tag (record { 0 = number }) (greater kept.fence kept.version)

-- the answer to a read
abbrev pub read_answer : ℕ → Kept → Tag → ℕ → Message
read_answer number kept tag epoch = if is_over kept epoch then gone number kept tag else have number kept tag

-- the answer to one who asks for a ticket
abbrev pub ask_answer : ℕ → Kept → Tag → Stamp → Message
ask_answer number kept tag stamp =
    if is_over kept stamp.epoch then gone number kept tag else (if grants stamp kept.fence kept.version then done number tag else held number kept tag)

-- the answer to one who stores under a ticket
abbrev pub store_answer : ℕ → Kept → Tag → Stamp → Message
store_answer number kept tag stamp =
    if is_over kept stamp.epoch then gone number kept tag else (if stores stamp kept.fence then done number tag else held number kept tag)

-- the answer to one who stores without a ticket
abbrev pub merge_answer : ℕ → Kept → Tag → ℕ → Message
merge_answer number kept tag epoch = if is_over kept epoch then gone number kept tag else done number tag

-- the push to one more replica, which sends it no further
abbrev pub push_to : Tag → KeyId → Stamp → List ℕ → ℕ → Post
push_to tag key stamp value d = record { to = Replica d; message = Push tag key stamp no_centre value }

-- the push to each replica of the set, in rising order
abbrev pub pushes_to : Tag → KeyId → Stamp → List ℕ → DcSet → List Post
pushes_to tag key stamp value onward = map (push_to tag key stamp value) (centres_of onward)

-- the posts of a push: the answer, and then the push to the replicas of its set
abbrev pub push_posts : ℕ → Kept → Tag → KeyId → Stamp → DcSet → List ℕ → List Post
push_posts number kept tag key stamp onward value =
    if is_over kept stamp.epoch then to_proxy tag (gone number kept tag) else to_proxy tag (done number tag) ++ pushes_to tag key stamp value onward

-- what the replica of this number puts out for a message
abbrev pub answers : ℕ → Kept → Message → List Post
answers number kept (Read tag key epoch) = to_proxy tag (read_answer number kept tag epoch)
answers number kept (Ask tag key stamp) = to_proxy tag (ask_answer number kept tag stamp)
answers number kept (Store tag key stamp value) = to_proxy tag (store_answer number kept tag stamp)
answers number kept (Repair tag key epoch stamp value) = to_proxy tag (merge_answer number kept tag epoch)
answers number kept (Confirm tag key stamp) = []
answers number kept (Freeze tag key epoch) = to_proxy tag (have number kept tag)
answers number kept (Seed tag key epoch stamp value) = to_proxy tag (merge_answer number kept tag epoch)
answers number kept (Push tag key stamp onward value) = push_posts number kept tag key stamp onward value
answers number kept (Lookup tag key) = []
answers number kept (Switch tag key old_epoch new_epoch) = []
answers number kept (Have tag replica version mark value) = []
answers number kept (Yes tag replica) = []
answers number kept (Held tag replica stamp) = []
answers number kept (Gone tag replica epoch) = []
answers number kept (Here tag key epoch policy latest_epoch latest_policy) = []
answers number kept (Switched tag key done epoch) = []

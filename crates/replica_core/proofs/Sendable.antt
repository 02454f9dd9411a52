-- What a replica puts out can be sent, and what it keeps stays so, where the message and what it kept were lawful.
use Rattle.std.proofs.Common.{ℕ, ◌<◌, ◌≤◌, Bool, true, false, cond, ◌&&◌, not, List, [], ◌∷◌, ◌++◌, length, map}
use Rattle.std.specs.Ordering.{is_gt}
use Rattle.std.proofs.lemmas.List.Elements.{All-nil, All-cons, All-append, All-from_recursion}
use Rattle.span_base.specs.declared.ids.KeyId.{KeyId}
use Rattle.span_base.specs.DcSet.{centres_of}
use Rattle.ticket_rules.specs.declared.stamp.Stamp.{Stamp}
use Rattle.ticket_rules.specs.Stamp.{stamp_cmp, greater, grants, stores}
use Rattle.wire_msg.specs.declared.tag.Tag.{Tag}
use Rattle.wire_msg.specs.declared.message.Message.{Message}
use Rattle.wire_msg.specs.declared.message.Message.TheVariants.{Read, Ask, Store, Repair, Confirm, Freeze, Seed, Push, Lookup, Switch, Have, Yes, Held, Gone, Here, Switched}
use Rattle.wire_msg.specs.declared.outputs.Post.{Post}
use Rattle.wire_msg.specs.Lawful.{IsLawful, AreLawful, IsLawfulTag, IsLawfulKey, IsLawfulStamp}
use Rattle.wire_msg.specs.Posts.{to_proxy}
use Rattle.replica_core.specs.declared.kept.Kept.{Kept}
use Rattle.replica_core.specs.Keeping.{is_over, merge, after_merge, kept_after}
use Rattle.replica_core.specs.Answering.{gone, have, done, held, push_to, pushes_to, answers}
use Rattle.replica_core.specs.Rule.{IsLawfulKept}

-- a post's message is lawful
abbrev IsLawfulPost : Post → Type 0
IsLawfulPost post = IsLawful post.message

-- a choice of two messages is lawful where both are
either : (b : Bool) (x y : Message) → IsLawful x → IsLawful y → IsLawful (cond b x y)
either true x y p q = p
either false x y p q = q

-- a choice of what is kept is lawful where both are
kept_either : (b : Bool) (x y : Kept) → IsLawfulKept x → IsLawfulKept y → IsLawfulKept (cond b x y)
kept_either true x y p q = p
kept_either false x y p q = q

-- a choice of two stamps is lawful where both are
stamp_either : (b : Bool) (x y : Stamp) → IsLawfulStamp x → IsLawfulStamp y → IsLawfulStamp (cond b x y)
stamp_either true x y p q = p
stamp_either false x y p q = q

-- a choice of posts is lawful where both are
posts_either : (b : Bool) (x y : List Post) → AreLawful x → AreLawful y → AreLawful (cond b x y)
posts_either true x y p q = p
posts_either false x y p q = q

-- one answer
alone : (tag : Tag) (message : Message) → IsLawful message → AreLawful (to_proxy tag message)
alone tag message h = All-from_recursion IsLawfulPost (to_proxy tag message) (h, tt)

pub nothing : AreLawful []
nothing = All-nil IsLawfulPost

gone_lawful : (number : ℕ) (kept : Kept) (tag : Tag) → number < 16 → IsLawfulTag tag → IsLawful (gone number kept tag)
gone_lawful number kept tag n t = (t, (n, (tt, tt)))

done_lawful : (number : ℕ) (tag : Tag) → number < 16 → IsLawfulTag tag → IsLawful (done number tag)
done_lawful number tag n t = (t, (n, tt))

have_lawful : (number : ℕ) (kept : Kept) (tag : Tag) → number < 16 → IsLawfulTag tag → IsLawfulKept kept → IsLawful (have number kept tag)
have_lawful number kept tag n t k = (t, (n, (k.version, (k.mark, (k.value, tt)))))

greater_lawful : (a b : Stamp) → IsLawfulStamp a → IsLawfulStamp b → IsLawfulStamp (greater a b)
greater_lawful a b p q = stamp_either (is_gt (stamp_cmp b a)) b a q p

held_lawful : (number : ℕ) (kept : Kept) (tag : Tag) → number < 16 → IsLawfulTag tag → IsLawfulKept kept → IsLawful (held number kept tag)
held_lawful number kept tag n t k = (t, (n, (greater_lawful kept.fence kept.version k.fence k.version, tt)))

-- an answer that grants or refuses
granted : (b : Bool) (number : ℕ) (kept : Kept) (tag : Tag) → number < 16 → IsLawfulTag tag → IsLawfulKept kept → IsLawful (cond b (done number tag) (held number kept tag))
granted b number kept tag n t k = either b (done number tag) (held number kept tag) (done_lawful number tag n t) (held_lawful number kept tag n t k)

-- an answer that the end of the epoch may forbid
unless_over : (number : ℕ) (kept : Kept) (tag : Tag) (epoch : ℕ) (message : Message) → number < 16 → IsLawfulTag tag → IsLawful message → AreLawful (to_proxy tag (cond (is_over kept epoch) (gone number kept tag) message))
unless_over number kept tag epoch message n t h =
    alone tag (cond (is_over kept epoch) (gone number kept tag) message)
    (either (is_over kept epoch) (gone number kept tag) message (gone_lawful number kept tag n t) h)

pushes_lawful : (tag : Tag) (key : KeyId) (stamp : Stamp) (value : List ℕ) (ds : List ℕ) → IsLawfulTag tag → IsLawfulKey key → IsLawfulStamp stamp → length value ≤ 4096 → AreLawful (map (push_to tag key stamp value) ds)
pushes_lawful tag key stamp value [] t k s v = nothing
pushes_lawful tag key stamp value (d ∷ ds) t k s v =
    All-cons IsLawfulPost (push_to tag key stamp value d) (map (push_to tag key stamp value) ds) (t, (k, (s, (tt, (v, tt))))) (pushes_lawful tag key stamp value ds t k s v)

-- what is put out for a lawful message is lawful
pub answers_lawful : (number : ℕ) (kept : Kept) (message : Message) → number < 16 → IsLawfulKept kept → IsLawful message → AreLawful (answers number kept message)
answers_lawful number kept (Read tag key epoch) n k m =
    unless_over number kept tag epoch (have number kept tag) n m.0 (have_lawful number kept tag n m.0 k)
answers_lawful number kept (Ask tag key stamp) n k m =
    unless_over number kept tag stamp.epoch (cond (grants stamp kept.fence kept.version) (done number tag) (held number kept tag)) n m.0 (granted (grants stamp kept.fence kept.version) number kept tag n m.0 k)
answers_lawful number kept (Store tag key stamp value) n k m =
    unless_over number kept tag stamp.epoch (cond (stores stamp kept.fence) (done number tag) (held number kept tag)) n m.0 (granted (stores stamp kept.fence) number kept tag n m.0 k)
answers_lawful number kept (Repair tag key epoch stamp value) n k m =
    unless_over number kept tag epoch (done number tag) n m.0 (done_lawful number tag n m.0)
answers_lawful number kept (Confirm tag key stamp) n k m = nothing
answers_lawful number kept (Freeze tag key epoch) n k m = alone tag (have number kept tag) (have_lawful number kept tag n m.0 k)
answers_lawful number kept (Seed tag key epoch stamp value) n k m =
    unless_over number kept tag epoch (done number tag) n m.0 (done_lawful number tag n m.0)
answers_lawful number kept (Push tag key stamp onward value) n k m =
    let pushes : List Post = pushes_to tag key stamp value onward in
    posts_either (is_over kept stamp.epoch) (to_proxy tag (gone number kept tag)) (to_proxy tag (done number tag) ++ pushes)
    (alone tag (gone number kept tag) (gone_lawful number kept tag n m.0))
    (All-append IsLawfulPost (to_proxy tag (done number tag)) pushes
    (alone tag (done number tag) (done_lawful number tag n m.0))
    (pushes_lawful tag key stamp value (centres_of onward) m.0 m.1.0 m.1.1.0 m.1.1.1.1.0))
answers_lawful number kept (Lookup tag key) n k m = nothing
answers_lawful number kept (Switch tag key old_epoch new_epoch) n k m = nothing
answers_lawful number kept (Have tag replica version mark value) n k m = nothing
answers_lawful number kept (Yes tag replica) n k m = nothing
answers_lawful number kept (Held tag replica stamp) n k m = nothing
answers_lawful number kept (Gone tag replica epoch) n k m = nothing
answers_lawful number kept (Here tag key epoch policy latest_epoch latest_policy) n k m = nothing
answers_lawful number kept (Switched tag key done epoch) n k m = nothing

merge_lawful : (kept : Kept) (stamp : Stamp) (value : List ℕ) → IsLawfulKept kept → IsLawfulStamp stamp → length value ≤ 4096 → IsLawfulKept (merge kept stamp value)
merge_lawful kept stamp value k s v =
    kept_either (is_gt (stamp_cmp stamp kept.version)) (record kept { version = stamp; value = value }) kept
    (record { version = s; mark = k.mark; fence = k.fence; value = v }) k

after_merge_lawful : (kept : Kept) (epoch : ℕ) (stamp : Stamp) (value : List ℕ) → IsLawfulKept kept → IsLawfulStamp stamp → length value ≤ 4096 → IsLawfulKept (after_merge kept epoch stamp value)
after_merge_lawful kept epoch stamp value k s v = kept_either (is_over kept epoch) kept (merge kept stamp value) k (merge_lawful kept stamp value k s v)

-- what is kept stays lawful under lawful messages
pub kept_after_lawful : (kept : Kept) (message : Message) → IsLawfulKept kept → IsLawful message → IsLawfulKept (kept_after kept message)
kept_after_lawful kept (Read tag key epoch) k m = k
kept_after_lawful kept (Ask tag key stamp) k m =
    kept_either (not (is_over kept stamp.epoch) && grants stamp kept.fence kept.version) (record kept { fence = stamp }) kept
    (record { version = k.version; mark = k.mark; fence = m.1.1.0; value = k.value }) k
kept_after_lawful kept (Store tag key stamp value) k m =
    kept_either (not (is_over kept stamp.epoch) && stores stamp kept.fence) (merge kept stamp value) kept (merge_lawful kept stamp value k m.1.1.0 m.1.1.1.0) k
kept_after_lawful kept (Repair tag key epoch stamp value) k m = after_merge_lawful kept epoch stamp value k m.1.1.1.0 m.1.1.1.1.0
kept_after_lawful kept (Confirm tag key stamp) k m =
    record { version = k.version; mark = greater_lawful kept.mark stamp k.mark m.1.1.0; fence = k.fence; value = k.value }
kept_after_lawful kept (Freeze tag key epoch) k m = record { version = k.version; mark = k.mark; fence = k.fence; value = k.value }
kept_after_lawful kept (Seed tag key epoch stamp value) k m = after_merge_lawful kept epoch stamp value k m.1.1.1.0 m.1.1.1.1.0
kept_after_lawful kept (Push tag key stamp onward value) k m = after_merge_lawful kept stamp.epoch stamp value k m.1.1.0 m.1.1.1.1.0
kept_after_lawful kept (Lookup tag key) k m = k
kept_after_lawful kept (Switch tag key old_epoch new_epoch) k m = k
kept_after_lawful kept (Have tag replica version mark value) k m = k
kept_after_lawful kept (Yes tag replica) k m = k
kept_after_lawful kept (Held tag replica stamp) k m = k
kept_after_lawful kept (Gone tag replica epoch) k m = k
kept_after_lawful kept (Here tag key epoch policy latest_epoch latest_policy) k m = k
kept_after_lawful kept (Switched tag key done epoch) k m = k

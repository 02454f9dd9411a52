-- What a replica keeps, and what it answers, fits where the message does.
use Rattle.std.proofs.Common.{ℕ, List, ◌++◌, arith}
use Rattle.std.specs.Prelude.{◌&&◌, not, if◌then◌else◌}
use Rattle.std.specs.Ordering.{is_gt}
use Rattle.span_base.specs.declared.dc_set.DcSet.{DcSet}
use Rattle.span_base.specs.declared.ids.KeyId.{KeyId}
use Rattle.span_base.specs.DcSet.{centres_of}
use Rattle.ticket_rules.specs.declared.stamp.Stamp.{Stamp}
use Rattle.ticket_rules.specs.Stamp.{stamp_cmp, grants, stores}
use Rattle.wire_msg.specs.declared.tag.Tag.{Tag}
use Rattle.wire_msg.specs.declared.actor.Actor.TheVariants as to
use Rattle.wire_msg.specs.declared.message.Message.{Message}
use Rattle.wire_msg.specs.declared.message.Message.TheVariants as m
use Rattle.wire_msg.specs.Posts.{to_proxy}
use Rattle.replica_core.specs.declared.kept.Kept.{Kept}
use Rattle.replica_core.specs.Keeping.{opening, is_over, merge, after_merge, kept_after}
use Rattle.replica_core.specs.Answering.{gone, have, done, held, read_answer, ask_answer, store_answer, merge_answer, push_to, pushes_to, answers}
use Rattle.register_law.proofs.Basics.{Each, each_none, each_one, each_map, each_append, each_if}
use Rattle.history_audit.specs.Ranges.{FitsStamp, FitsValue}
use Rattle.log_law.specs.Fits.{FitsMessage, FitsKept}
use Rattle.log_law.proofs.Basics.{zero_fits, empty_fits, chosen, greater_fits, max_fits}

pub opening_fits : FitsKept opening
opening_fits = record { version = zero_fits; value = empty_fits; mark = zero_fits; fence = zero_fits; frozen = omega arith }

merge_fits : (kept : Kept) (stamp : Stamp) (value : List ℕ) → FitsStamp stamp → FitsValue value → FitsKept kept → FitsKept (merge kept stamp value)
merge_fits kept stamp value s v k =
    chosen FitsKept (is_gt (stamp_cmp stamp kept.version)) (record kept { version = stamp; value = value }) kept (record { version = s; value = v; mark = k.mark; fence = k.fence; frozen = k.frozen }) k

after_merge_fits : (kept : Kept) (epoch : ℕ) (stamp : Stamp) (value : List ℕ) → FitsStamp stamp → FitsValue value → FitsKept kept → FitsKept (after_merge kept epoch stamp value)
after_merge_fits kept epoch stamp value s v k = chosen FitsKept (is_over kept epoch) kept (merge kept stamp value) k (merge_fits kept stamp value s v k)

pub kept_fits : (kept : Kept) (message : Message) → FitsMessage message → FitsKept kept → FitsKept (kept_after kept message)
kept_fits kept (m.Read tag key epoch) f k = k
kept_fits kept (m.Ask tag key stamp) f k =
    chosen FitsKept (not (is_over kept stamp.epoch) && grants stamp kept.fence kept.version) (record kept { fence = stamp }) kept (record { version = k.version; value = k.value; mark = k.mark; fence = f; frozen = k.frozen }) k
kept_fits kept (m.Store tag key stamp value) f k =
    chosen FitsKept (not (is_over kept stamp.epoch) && stores stamp kept.fence) (merge kept stamp value) kept (merge_fits kept stamp value f.0 f.1 k) k
kept_fits kept (m.Repair tag key epoch stamp value) f k = after_merge_fits kept epoch stamp value f.0 f.1 k
kept_fits kept (m.Confirm tag key stamp) f k = record { version = k.version; value = k.value; mark = greater_fits kept.mark stamp k.mark f; fence = k.fence; frozen = k.frozen }
kept_fits kept (m.Freeze tag key epoch) f k = record { version = k.version; value = k.value; mark = k.mark; fence = k.fence; frozen = max_fits kept.frozen epoch k.frozen f }
kept_fits kept (m.Seed tag key epoch stamp value) f k = after_merge_fits kept epoch stamp value f.0 f.1 k
kept_fits kept (m.Push tag key stamp onward value) f k = after_merge_fits kept stamp.epoch stamp value f.0 f.1 k
kept_fits kept (m.Lookup tag key) f k = k
kept_fits kept (m.Switch tag key closing next) f k = k
kept_fits kept (m.Have tag replica version mark value) f k = k
kept_fits kept (m.Yes tag replica) f k = k
kept_fits kept (m.Held tag replica stamp) f k = k
kept_fits kept (m.Gone tag replica epoch) f k = k
kept_fits kept (m.Here tag key epoch policy latest_epoch latest_policy) f k = k
kept_fits kept (m.Switched tag key done epoch) f k = k

-- one answer
one : (tag : Tag) (message : Message) → FitsMessage message → Each FitsMessage (to_proxy tag message)
one tag message h = each_one FitsMessage (record { to = to.Proxy tag.call.proxy; message = message }) h

held_fits : (number : ℕ) (kept : Kept) (tag : Tag) → FitsKept kept → FitsMessage (held number kept tag)
held_fits number kept tag k = greater_fits kept.fence kept.version k.fence k.version

ask_fits : (number : ℕ) (kept : Kept) (tag : Tag) (stamp : Stamp) → FitsKept kept → FitsMessage (ask_answer number kept tag stamp)
ask_fits number kept tag stamp k =
    chosen FitsMessage (is_over kept stamp.epoch) (gone number kept tag) (if grants stamp kept.fence kept.version then done number tag else held number kept tag) k.frozen
    (chosen FitsMessage (grants stamp kept.fence kept.version) (done number tag) (held number kept tag) tt (held_fits number kept tag k))

store_fits : (number : ℕ) (kept : Kept) (tag : Tag) (stamp : Stamp) → FitsKept kept → FitsMessage (store_answer number kept tag stamp)
store_fits number kept tag stamp k =
    chosen FitsMessage (is_over kept stamp.epoch) (gone number kept tag) (if stores stamp kept.fence then done number tag else held number kept tag) k.frozen
    (chosen FitsMessage (stores stamp kept.fence) (done number tag) (held number kept tag) tt (held_fits number kept tag k))

pushes_fit : (tag : Tag) (key : KeyId) (stamp : Stamp) (value : List ℕ) (onward : DcSet) → FitsStamp stamp → FitsValue value → Each FitsMessage (pushes_to tag key stamp value onward)
pushes_fit tag key stamp value onward s v = each_map FitsMessage (push_to tag key stamp value) (λ d. (s, v)) (centres_of onward)

pub answers_fit : (number : ℕ) (kept : Kept) (message : Message) → FitsMessage message → FitsKept kept → Each FitsMessage (answers number kept message)
answers_fit number kept (m.Read tag key epoch) f k =
    one tag (read_answer number kept tag epoch) (chosen FitsMessage (is_over kept epoch) (gone number kept tag) (have number kept tag) k.frozen (k.version, k.mark, k.value))
answers_fit number kept (m.Ask tag key stamp) f k = one tag (ask_answer number kept tag stamp) (ask_fits number kept tag stamp k)
answers_fit number kept (m.Store tag key stamp value) f k = one tag (store_answer number kept tag stamp) (store_fits number kept tag stamp k)
answers_fit number kept (m.Repair tag key epoch stamp value) f k =
    one tag (merge_answer number kept tag epoch) (chosen FitsMessage (is_over kept epoch) (gone number kept tag) (done number tag) k.frozen tt)
answers_fit number kept (m.Confirm tag key stamp) f k = each_none FitsMessage
answers_fit number kept (m.Freeze tag key epoch) f k = one tag (have number kept tag) (k.version, k.mark, k.value)
answers_fit number kept (m.Seed tag key epoch stamp value) f k =
    one tag (merge_answer number kept tag epoch) (chosen FitsMessage (is_over kept epoch) (gone number kept tag) (done number tag) k.frozen tt)
answers_fit number kept (m.Push tag key stamp onward value) f k =
    each_if FitsMessage (is_over kept stamp.epoch) (to_proxy tag (gone number kept tag)) (to_proxy tag (done number tag) ++ pushes_to tag key stamp value onward) (one tag (gone number kept tag) k.frozen)
    (each_append FitsMessage (to_proxy tag (done number tag)) (pushes_to tag key stamp value onward) (one tag (done number tag) tt) (pushes_fit tag key stamp value onward f.0 f.1))
answers_fit number kept (m.Lookup tag key) f k = each_none FitsMessage
answers_fit number kept (m.Switch tag key closing next) f k = each_none FitsMessage
answers_fit number kept (m.Have tag replica version mark value) f k = each_none FitsMessage
answers_fit number kept (m.Yes tag replica) f k = each_none FitsMessage
answers_fit number kept (m.Held tag replica stamp) f k = each_none FitsMessage
answers_fit number kept (m.Gone tag replica epoch) f k = each_none FitsMessage
answers_fit number kept (m.Here tag key epoch policy latest_epoch latest_policy) f k = each_none FitsMessage
answers_fit number kept (m.Switched tag key done epoch) f k = each_none FitsMessage

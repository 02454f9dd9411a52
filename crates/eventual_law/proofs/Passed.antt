-- What a replica and the directory send: answers, and the pushes that a push passes on.
use Rattle.std.proofs.Common.{◌≡◌, ◌⊎◌, inl, inr, ℕ, List, ◌++◌, refl}
use Rattle.std.specs.Prelude.{if◌then◌else◌, Option, Some, None}
use Rattle.span_base.specs.declared.ids.KeyId.{KeyId}
use Rattle.span_base.specs.declared.dc_set.DcSet.{DcSet}
use Rattle.span_base.specs.DcSet.{centres_of, no_centre}
use Rattle.ticket_rules.specs.declared.stamp.Stamp.{Stamp}
use Rattle.ticket_rules.specs.Stamp.{grants, stores}
use Rattle.wire_msg.specs.declared.tag.Tag.{Tag}
use Rattle.wire_msg.specs.declared.actor.Actor.TheVariants as to
use Rattle.wire_msg.specs.declared.message.Message.{Message}
use Rattle.wire_msg.specs.declared.message.Message.TheVariants as m
use Rattle.replica_core.specs.declared.kept.Kept.{Kept}
use Rattle.replica_core.specs.Keeping.{is_over}
use Rattle.replica_core.specs.Rule.{request_key as key_of}
use Rattle.replica_core.specs.Answering.{gone, have, done, held, read_answer, ask_answer, store_answer, merge_answer, push_to, pushes_to, answers}
use Rattle.wire_msg.specs.Posts.{to_proxy}
use Rattle.replica_core.specs.Rule as replica
use Rattle.epoch_directory.specs.State as directory
use Rattle.epoch_directory.specs.Step as directory_step
use Rattle.register_law.specs.Tags.{request_key}
use Rattle.register_law.proofs.Basics.{Each, each_none, each_one, each_map, each_append, each_if, either_is}

-- the message is a push that the other one, a push too, passes on
pub record PassesOn (from message : Message) : Type 0 where
  pub tag : Tag
  pub key : KeyId
  pub stamp : Stamp
  pub onward : DcSet
  pub value : List ℕ
  pub from_is : from ≡ m.Push tag key stamp onward value
  pub is : message ≡ m.Push tag key stamp no_centre value

-- no request, or one that is passed on
abbrev pub IsReply : Message → Message → Type 0
IsReply from message = (request_key message ≡ None) ⊎ PassesOn from message

to_one : (from : Message) (tag : Tag) (message : Message) → request_key message ≡ None → Each (IsReply from) (to_proxy tag message)
to_one from tag message is = each_one (IsReply from) (record { to = to.Proxy tag.call.proxy; message = message }) (inl is)

-- no request
abbrev pub IsNone : Message → Type 0
IsNone message = request_key message ≡ None

answers_reply : (number : ℕ) (kept : Kept) (message : Message) → Each (IsReply message) (answers number kept message)
answers_reply n kept (m.Read tag key epoch) = to_one (m.Read tag key epoch) tag (read_answer n kept tag epoch) (either_is IsNone (is_over kept epoch) (gone n kept tag) (have n kept tag) refl refl)
answers_reply n kept (m.Ask tag key stamp) =
    to_one (m.Ask tag key stamp) tag (ask_answer n kept tag stamp)
    (either_is IsNone (is_over kept stamp.epoch) (gone n kept tag) (if grants stamp kept.fence kept.version then done n tag else held n kept tag) refl (either_is IsNone (grants stamp kept.fence kept.version) (done n tag) (held n kept tag) refl refl))
answers_reply n kept (m.Store tag key stamp value) =
    to_one (m.Store tag key stamp value) tag (store_answer n kept tag stamp)
    (either_is IsNone (is_over kept stamp.epoch) (gone n kept tag) (if stores stamp kept.fence then done n tag else held n kept tag) refl (either_is IsNone (stores stamp kept.fence) (done n tag) (held n kept tag) refl refl))
answers_reply n kept (m.Repair tag key epoch stamp value) = to_one (m.Repair tag key epoch stamp value) tag (merge_answer n kept tag epoch) (either_is IsNone (is_over kept epoch) (gone n kept tag) (done n tag) refl refl)
answers_reply n kept (m.Confirm tag key stamp) = each_none (IsReply (m.Confirm tag key stamp))
answers_reply n kept (m.Freeze tag key epoch) = to_one (m.Freeze tag key epoch) tag (have n kept tag) refl
answers_reply n kept (m.Seed tag key epoch stamp value) = to_one (m.Seed tag key epoch stamp value) tag (merge_answer n kept tag epoch) (either_is IsNone (is_over kept epoch) (gone n kept tag) (done n tag) refl refl)
answers_reply n kept (m.Push tag key stamp onward value) =
    let push : Message = m.Push tag key stamp onward value in
    each_if (IsReply push) (is_over kept stamp.epoch) (to_proxy tag (gone n kept tag)) (to_proxy tag (done n tag) ++ pushes_to tag key stamp value onward) (to_one push tag (gone n kept tag) refl)
    (each_append (IsReply push) (to_proxy tag (done n tag)) (pushes_to tag key stamp value onward) (to_one push tag (done n tag) refl)
    (each_map (IsReply push) (push_to tag key stamp value) (λ d. inr (record { tag = tag; key = key; stamp = stamp; onward = onward; value = value; from_is = refl; is = refl })) (centres_of onward)))
answers_reply n kept (m.Lookup tag key) = each_none (IsReply (m.Lookup tag key))
answers_reply n kept (m.Switch tag key closing opening) = each_none (IsReply (m.Switch tag key closing opening))
answers_reply n kept (m.Have tag replica version mark value) = each_none (IsReply (m.Have tag replica version mark value))
answers_reply n kept (m.Yes tag replica) = each_none (IsReply (m.Yes tag replica))
answers_reply n kept (m.Held tag replica stamp) = each_none (IsReply (m.Held tag replica stamp))
answers_reply n kept (m.Gone tag replica epoch) = each_none (IsReply (m.Gone tag replica epoch))
answers_reply n kept (m.Here tag key epoch policy latest_epoch latest_policy) = each_none (IsReply (m.Here tag key epoch policy latest_epoch latest_policy))
answers_reply n kept (m.Switched tag key done epoch) = each_none (IsReply (m.Switched tag key done epoch))

step_reply : (state : replica.State) (message : Message) (o : Option KeyId) → Each (IsReply message) (replica.step_at state message o).out.posts
step_reply state message None = each_none (IsReply message)
step_reply state message (Some key) = answers_reply state.number (replica.kept_at state key) message

pub replica_replies : (state : replica.State) (message : Message) → Each (IsReply message) (replica.step state message).out.posts
replica_replies state message = step_reply state message (key_of message)

pub directory_replies : (state : directory.State) (message : Message) → Each IsNone (directory_step.step state message).out.posts
directory_replies state (m.Lookup tag key) = each_one IsNone (record { to = to.Proxy tag.call.proxy; message = directory_step.here_of state tag key }) refl
directory_replies state (m.Switch tag key closing opening) = each_one IsNone (record { to = to.Proxy tag.call.proxy; message = directory_step.switched_of state tag key closing opening }) refl
directory_replies state message = each_none IsNone

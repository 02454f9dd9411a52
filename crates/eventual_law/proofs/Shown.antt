-- A Have that an event sends shows what a replica keeps of the key of the request that it answers.
use Rattle.std.proofs.Common.{◌≡◌, ℕ, List, ◌++◌, refl, sym, ap, ◌∙◌, subst}
use Rattle.std.specs.Prelude.{if◌then◌else◌, Option, Some, None, Contains}
use Rattle.span_base.specs.declared.ids.DcId.{DcId}
use Rattle.span_base.specs.declared.ids.KeyId.{KeyId}
use Rattle.span_base.specs.DcSet.{centres_of}
use Rattle.ticket_rules.specs.declared.stamp.Stamp.{Stamp}
use Rattle.ticket_rules.specs.Stamp.{grants, stores}
use Rattle.wire_msg.specs.declared.tag.Tag.{Tag}
use Rattle.wire_msg.specs.declared.actor.Actor.TheVariants as to
use Rattle.wire_msg.specs.declared.message.Message.{Message}
use Rattle.wire_msg.specs.declared.message.Message.TheVariants as m
use Rattle.wire_msg.specs.declared.outputs.Post.{Post}
use Rattle.replica_core.specs.declared.kept.Kept.{Kept}
use Rattle.replica_core.specs.Keeping.{is_over}
use Rattle.replica_core.specs.Rule.{request_key as key_of}
use Rattle.replica_core.specs.Answering.{gone, have, done, held, read_answer, ask_answer, store_answer, merge_answer, push_to, pushes_to, answers}
use Rattle.replica_core.specs.Rule as replica
use Rattle.epoch_directory.specs.State as directory
use Rattle.epoch_directory.specs.Step as directory_step
use Rattle.world_core.specs.State.{Store, replica_at, kept_of}
use Rattle.wire_msg.specs.Posts.{tag_of, to_proxy}
use Rattle.world_core.specs.Step.{Happening}
use Rattle.register_law.specs.Seen.{WasSent}
use Rattle.register_law.specs.Tags.{request_key}
use Rattle.register_law.specs.Cases.{Happened, ignored, replica_stopped, proxy_stopped, refused_at_once, started, replica_took, directory_took, proxy_learned, call_took, gave_up, published, not_published}
use Rattle.register_law.proofs.TagsSent.{replica_tagged, call_sends}
use Rattle.register_law.proofs.Kept.{is_request}
use Rattle.register_law.proofs.TagsCalls.{taken_of, started_opens}
use Rattle.eventual_law.proofs.Sends.{nothing_posted, there}
use Rattle.register_law.proofs.Basics.{WasPosted, Each, each_none, each_one, each_map, each_append, each_if, either_is}
use Rattle.register_order.proofs.Members.{none_among}

-- a version that the message tells is the one that is kept
abbrev pub Tells : Kept → Message → Type 0
Tells kept (m.Have tag replica version mark value) = (version ≡ kept.version) × (value ≡ kept.value)
Tells kept _ = Unit {0}

tells_one : (kept : Kept) (tag : Tag) (message : Message) → Tells kept message → Each (Tells kept) (to_proxy tag message)
tells_one kept tag message h = each_one (Tells kept) (record { to = to.Proxy tag.call.proxy; message = message }) h

answers_tell : (n : ℕ) (kept : Kept) (message : Message) → Each (Tells kept) (answers n kept message)
answers_tell n kept (m.Read tag key epoch) = tells_one kept tag (read_answer n kept tag epoch) (either_is (Tells kept) (is_over kept epoch) (gone n kept tag) (have n kept tag) tt (refl, refl))
answers_tell n kept (m.Ask tag key stamp) =
    tells_one kept tag (ask_answer n kept tag stamp)
    (either_is (Tells kept) (is_over kept stamp.epoch) (gone n kept tag) (if grants stamp kept.fence kept.version then done n tag else held n kept tag) tt (either_is (Tells kept) (grants stamp kept.fence kept.version) (done n tag) (held n kept tag) tt tt))
answers_tell n kept (m.Store tag key stamp value) =
    tells_one kept tag (store_answer n kept tag stamp)
    (either_is (Tells kept) (is_over kept stamp.epoch) (gone n kept tag) (if stores stamp kept.fence then done n tag else held n kept tag) tt (either_is (Tells kept) (stores stamp kept.fence) (done n tag) (held n kept tag) tt tt))
answers_tell n kept (m.Repair tag key epoch stamp value) = tells_one kept tag (merge_answer n kept tag epoch) (either_is (Tells kept) (is_over kept epoch) (gone n kept tag) (done n tag) tt tt)
answers_tell n kept (m.Confirm tag key stamp) = each_none (Tells kept)
answers_tell n kept (m.Freeze tag key epoch) = tells_one kept tag (have n kept tag) (refl, refl)
answers_tell n kept (m.Seed tag key epoch stamp value) = tells_one kept tag (merge_answer n kept tag epoch) (either_is (Tells kept) (is_over kept epoch) (gone n kept tag) (done n tag) tt tt)
answers_tell n kept (m.Push tag key stamp onward value) =
    each_if (Tells kept) (is_over kept stamp.epoch) (to_proxy tag (gone n kept tag)) (to_proxy tag (done n tag) ++ pushes_to tag key stamp value onward) (tells_one kept tag (gone n kept tag) tt)
    (each_append (Tells kept) (to_proxy tag (done n tag)) (pushes_to tag key stamp value onward) (tells_one kept tag (done n tag) tt) (each_map (Tells kept) (push_to tag key stamp value) (λ d. tt) (centres_of onward)))
answers_tell n kept (m.Lookup tag key) = each_none (Tells kept)
answers_tell n kept (m.Switch tag key closing opening) = each_none (Tells kept)
answers_tell n kept (m.Have tag replica version mark value) = each_none (Tells kept)
answers_tell n kept (m.Yes tag replica) = each_none (Tells kept)
answers_tell n kept (m.Held tag replica stamp) = each_none (Tells kept)
answers_tell n kept (m.Gone tag replica epoch) = each_none (Tells kept)
answers_tell n kept (m.Here tag key epoch policy latest_epoch latest_policy) = each_none (Tells kept)
answers_tell n kept (m.Switched tag key done epoch) = each_none (Tells kept)

-- the message tells no version
abbrev pub TellsNone : Message → Type 0
TellsNone (m.Have tag replica version mark value) = ⊥
TellsNone _ = Unit {0}

directory_tells_none : (state : directory.State) (message : Message) → Each TellsNone (directory_step.step state message).out.posts
directory_tells_none state (m.Lookup tag key) = each_one TellsNone (record { to = to.Proxy tag.call.proxy; message = directory_step.here_of state tag key }) tt
directory_tells_none state (m.Switch tag key closing opening) = each_one TellsNone (record { to = to.Proxy tag.call.proxy; message = directory_step.switched_of state tag key closing opening }) tt
directory_tells_none state message = each_none TellsNone

-- a replica keeps this of the key of a request that has the tag
pub record Shown (s : Store) (tag : Tag) (version : Stamp) (value : List ℕ) : Type 0 where
  pub request : Message
  pub sent : WasSent s request
  pub key : KeyId
  pub at : request_key request ≡ Some key
  pub of : tag_of request ≡ tag
  pub d : ℕ
  pub version_is : version ≡ (kept_of s d key).version
  pub value_is : value ≡ (kept_of s d key).value

by_replica : (s : Store) (d : ℕ) (from : Message) (o : Option KeyId) (tag : Tag) (replica_id : DcId) (version mark : Stamp) (value : List ℕ) (post : Post) → WasSent s from → key_of from ≡ o → post.message ≡ m.Have tag replica_id version mark value
    → Contains (replica.step_at (replica_at s d).state from o).out.posts post → tag_of from ≡ tag → Shown s tag version value
by_replica s d from None tag r version mark value post sent is told c same = absurd (none_among post c)
by_replica s d from (Some key) tag r version mark value post sent is told c same =
    let tells : Tells (kept_of s d key) (m.Have tag r version mark value) = subst (Tells (kept_of s d key)) told (answers_tell (replica_at s d).state.number (kept_of s d key) from post c) in
    record { request = from; sent = sent; key = key; at = is_request from key is; of = same; d = d; version_is = tells.0; value_is = tells.1 }

pub shown : (s : Store) (h : Happening) (tag : Tag) (r : DcId) (version mark : Stamp) (value : List ℕ) → Happened s h → WasPosted h (m.Have tag r version mark value) → Shown s tag version value
shown s h tag r version mark value (ignored is) posted = nothing_posted (Shown s tag version value) h (m.Have tag r version mark value) (ap (λ (x : Happening). x.posts) is) posted
shown s h tag r version mark value (replica_stopped d is) posted = nothing_posted (Shown s tag version value) h (m.Have tag r version mark value) (ap (λ (x : Happening). x.posts) is) posted
shown s h tag r version mark value (proxy_stopped p is) posted = nothing_posted (Shown s tag version value) h (m.Have tag r version mark value) (ap (λ (x : Happening). x.posts) is) posted
shown s h tag r version mark value (refused_at_once p on work reply lt dead is) posted = nothing_posted (Shown s tag version value) h (m.Have tag r version mark value) (ap (λ (x : Happening). x.posts) is) posted
shown s h tag r version mark value (started p on work st) posted =
    let post : Post = record { to = posted.0; message = m.Have tag r version mark value } in
    let e = ((started_opens s p on work h st).requests post (there h (m.Have tag r version mark value) st.taken.out.posts (ap (λ (x : Happening). x.posts) st.is) posted)).1 in
    absurd (cc)
shown s h tag r version mark value (replica_took d from taken is) posted =
    let post : Post = record { to = posted.0; message = m.Have tag r version mark value } in
    let here = there h (m.Have tag r version mark value) (replica.step (replica_at s d).state from).out.posts (ap (λ (x : Happening). x.posts) is) posted in
    by_replica s d from (key_of from) tag r version mark value post (to.Replica d, taken.sent) refl refl here (sym (replica_tagged (replica_at s d).state from post here))
shown s h tag r version mark value (directory_took from sent is) posted =
    absurd (directory_tells_none s.directory from (record { to = posted.0; message = m.Have tag r version mark value }) (there h (m.Have tag r version mark value) (directory_step.step s.directory from).out.posts (ap (λ (x : Happening). x.posts) is) posted))
shown s h tag r version mark value (proxy_learned p from sent is) posted = nothing_posted (Shown s tag version value) h (m.Have tag r version mark value) (ap (λ (x : Happening). x.posts) is) posted
shown s h tag r version mark value (call_took p from call took) posted =
    let post : Post = record { to = posted.0; message = m.Have tag r version mark value } in
    let sends = call_sends s p from call in
    let is : m.Have tag r version mark value ≡ sends.message = sends.copies post (there h (m.Have tag r version mark value) (taken_of s p from call).out.posts (ap (λ (x : Happening). x.posts) took.is) posted) in
    let e : request_key (m.Have tag r version mark value) ≡ Some _ = ap request_key is ∙ sends.at_key in
    absurd (cc)
shown s h tag r version mark value (gave_up p handle call live is) posted = nothing_posted (Shown s tag version value) h (m.Have tag r version mark value) (ap (λ (x : Happening). x.posts) is) posted
shown s h tag r version mark value (published table right is) posted = nothing_posted (Shown s tag version value) h (m.Have tag r version mark value) (ap (λ (x : Happening). x.posts) is) posted
shown s h tag r version mark value (not_published cause is) posted = nothing_posted (Shown s tag version value) h (m.Have tag r version mark value) (ap (λ (x : Happening). x.posts) is) posted

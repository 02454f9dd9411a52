-- A request and an answer under its tag: both were sent before the event, or a replica answered in it.
use Rattle.std.proofs.Common.{◌≡◌, inl, inr, ℕ, Bool, true, false, List, ◌++◌, refl, sym, ap, ◌∙◌, subst}
use Rattle.std.specs.Prelude.{if◌then◌else◌, slice_index_or, Option, Some, None, Contains}
use Rattle.std.proofs.lemmas.List.Elements.{Contains-append_cases}
use Rattle.span_base.specs.declared.ids.KeyId.{KeyId}
use Rattle.span_base.specs.declared.dc_set.DcSet.{DcSet}
use Rattle.span_base.specs.DcSet.{no_centre, centres_of}
use Rattle.ticket_rules.specs.declared.stamp.Stamp.{Stamp}
use Rattle.wire_msg.specs.declared.tag.Tag.{Tag}
use Rattle.wire_msg.specs.declared.actor.Actor.TheVariants as to
use Rattle.wire_msg.specs.declared.message.Message.{Message}
use Rattle.wire_msg.specs.declared.message.Message.TheVariants as m
use Rattle.wire_msg.specs.declared.outputs.Post.{Post}
use Rattle.replica_core.specs.declared.kept.Kept.{Kept}
use Rattle.replica_core.specs.Keeping.{is_over, after_merge}
use Rattle.replica_core.specs.Rule.{request_key as key_of}
use Rattle.replica_core.specs.Answering.{gone, done, merge_answer, push_to, pushes_to, push_posts, answers}
use Rattle.replica_core.specs.Rule as replica
use Rattle.epoch_directory.specs.State as directory
use Rattle.epoch_directory.specs.Step as directory_step
use Rattle.run_marks.specs.declared.mark.Mark.{Mark}
use Rattle.world_core.specs.State.{Store, Replica, no_replica, replica_at, kept_of}
use Rattle.wire_msg.specs.Posts.{tag_of, to_proxy}
use Rattle.world_core.specs.Step.{Happening, with_replica}
use Rattle.register_law.specs.Seen.{WasSent}
use Rattle.register_law.specs.Tags.{request_key}
use Rattle.register_law.specs.Cases.{Happened, TakenBy, ignored, replica_stopped, proxy_stopped, refused_at_once, started, replica_took, directory_took, proxy_learned, call_took, gave_up, published, not_published}
use Rattle.register_law.proofs.TagsSent.{replica_tagged, call_sends, was_sent_stays}
use Rattle.register_law.proofs.AnswersTold.{Replied, Reaches, merge_told, one_told, reached_now, step_told}
use Rattle.register_law.proofs.Basics.{WasPosted, sent_cases, Each, each_none, each_one, each_map, point_of}
use Rattle.register_order.proofs.Members.{none_among}
use Rattle.register_law.proofs.Kept.{is_request}
use Rattle.register_law.proofs.ReplicasKept.{runs_there, became_by}
use Rattle.register_law.proofs.TagsCalls.{taken_of, started_opens}
use Rattle.eventual_law.specs.Kinds.{KeyIsEventual, shape}
use Rattle.eventual_law.specs.Known.{by_request, CallsHaveKeys}
use Rattle.eventual_law.proofs.Sends.{nothing_posted, there, no_request}
use Rattle.eventual_law.proofs.Shapes.{IsOneShape, NewIs, like, fresh, new_is}

-- the message is one that a replica answers
abbrev pub IsReplicas : Message → Type 0
IsReplicas (m.Have tag replica version mark value) = Unit {0}
IsReplicas (m.Yes tag replica) = Unit {0}
IsReplicas (m.Gone tag replica epoch) = Unit {0}
IsReplicas _ = ⊥

directory_sends_none : (state : directory.State) (message : Message) → Each (λ x. IsReplicas x → ⊥) (directory_step.step state message).out.posts
directory_sends_none state (m.Lookup tag key) = each_one (λ x. IsReplicas x → ⊥) (record { to = to.Proxy tag.call.proxy; message = directory_step.here_of state tag key }) (λ h. h)
directory_sends_none state (m.Switch tag key closing opening) = each_one (λ x. IsReplicas x → ⊥) (record { to = to.Proxy tag.call.proxy; message = directory_step.switched_of state tag key closing opening }) (λ h. h)
directory_sends_none state message = each_none (λ x. IsReplicas x → ⊥)

-- a copy of the request
pub record IsCopy (key : KeyId) (request copy : Message) : Type 0 where
  pub same : shape copy ≡ shape request
  pub at : request_key copy ≡ Some key
  pub tag : tag_of copy ≡ tag_of request

pub data PairOf (key : KeyId) (s : Store) (h : Happening) (request message : Message) : Type 0 where
  both_sent : (copy : Message) → IsCopy key request copy → WasSent s copy → WasSent s message → PairOf key s h request message
  now_replied : (copy : Message) → IsCopy key request copy → Replied key s h copy message → PairOf key s h request message

-- a replica took a request of the key
took_copy : (key : KeyId) (s : Store) (h : Happening) (d : ℕ) (from : Message) (post : Post) → KeyIsEventual key s → TakenBy s d from → key_of from ≡ Some key
    → h.store.replicas ≡ (with_replica s d (record { stopped = false; state = (replica.step (replica_at s d).state from).state })).replicas → Contains (replica.step (replica_at s d).state from).out.posts post → Replied key s h from post.message
took_copy key s h d from post k taken at stands c =
    let lt = runs_there s d from taken in
    let seat = k.seats d lt in
    record {
      d = d;
      sent = (to.Replica d, taken.sent);
      post = post;
      told = subst (λ n. Contains (answers n (kept_of s d key) from) post) seat.number (step_told (replica_at s d).state from (key_of from) key post at c);
      is = refl;
      became = ap (λ (x : List Replica). replica.kept_at (slice_index_or x d no_replica).state key) stands ∙ became_by key s d from lt seat at;
    }

-- the key of what a replica took, and answered
took_key : (X : Type 0) (state : replica.State) (from : Message) (o : Option KeyId) (post : Post) → key_of from ≡ o → Contains (replica.step_at state from o).out.posts post → ((key : KeyId) → key_of from ≡ Some key → X) → X
took_key X state from None post is c f = absurd (none_among post c)
took_key X state from (Some key) post is c f = f key is

-- the event answers a request of the key
pub answered_now : (key : KeyId) (s : Store) (h : Happening) (marks : List Mark) (request message : Message) → Happened s h → KeyIsEventual key s → CallsHaveKeys h.store marks → IsOneShape key h.store → WasSent h.store request → request_key request ≡ Some key → tag_of request ≡ tag_of message
    → IsReplicas message → request_key message ≡ None → WasPosted h message → PairOf key s h request message
answered_now key s h marks request message (ignored is) k keys one sent at same rep none posted = nothing_posted (PairOf key s h request message) h message (ap (λ (x : Happening). x.posts) is) posted
answered_now key s h marks request message (replica_stopped d is) k keys one sent at same rep none posted = nothing_posted (PairOf key s h request message) h message (ap (λ (x : Happening). x.posts) is) posted
answered_now key s h marks request message (proxy_stopped p is) k keys one sent at same rep none posted = nothing_posted (PairOf key s h request message) h message (ap (λ (x : Happening). x.posts) is) posted
answered_now key s h marks request message (refused_at_once p on work reply lt dead is) k keys one sent at same rep none posted = nothing_posted (PairOf key s h request message) h message (ap (λ (x : Happening). x.posts) is) posted
answered_now key s h marks request message (started p on work st) k keys one sent at same rep none posted =
    no_request (PairOf key s h request message) _ message ((started_opens s p on work h st).requests (record { to = posted.0; message = message }) (there h message st.taken.out.posts (ap (λ (x : Happening). x.posts) st.is) posted)).1 none
answered_now key s h marks request message (replica_took d from taken is) k keys one sent at same rep none posted =
    took_key (PairOf key s h request message) (replica_at s d).state from (key_of from) post refl here by
  where
    post : Post
    post = record { to = posted.0; message = message }

    here : Contains (replica.step (replica_at s d).state from).out.posts post
    here = there h message (replica.step (replica_at s d).state from).out.posts (ap (λ (x : Happening). x.posts) is) posted

    tags : tag_of from ≡ tag_of message
    tags = sym (replica_tagged (replica_at s d).state from post here)

    after : WasSent h.store from
    after = was_sent_stays s h (replica_took d from taken is) from (to.Replica d, taken.sent)

    by : (on : KeyId) → key_of from ≡ Some on → PairOf key s h request message
    by on of =
        let own : on ≡ key = keys.one_key (tag_of message).call on key (by_request from after (is_request from on of) (ap (λ (t : Tag). t.call) tags)) (by_request request sent at (ap (λ (t : Tag). t.call) same)) in
        let here_of : key_of from ≡ Some key = of ∙ ap Some own in
        let shapes : shape from ≡ shape request = one from request after sent (is_request from key here_of) at (tags ∙ sym same) in
        now_replied from (record { same = shapes; at = is_request from key here_of; tag = tags ∙ sym same }) (took_copy key s h d from post k taken here_of (ap (λ (x : Happening). x.store.replicas) is) here)
answered_now key s h marks request message (directory_took from sent_to is) k keys one sent at same rep none posted =
    absurd (directory_sends_none s.directory from (record { to = posted.0; message = message }) (there h message (directory_step.step s.directory from).out.posts (ap (λ (x : Happening). x.posts) is) posted) rep)
answered_now key s h marks request message (proxy_learned p from sent_to is) k keys one sent at same rep none posted = nothing_posted (PairOf key s h request message) h message (ap (λ (x : Happening). x.posts) is) posted
answered_now key s h marks request message (call_took p from call took) k keys one sent at same rep none posted =
    let sends = call_sends s p from call in
    let is : message ≡ sends.message = sends.copies (record { to = posted.0; message = message }) (there h message (taken_of s p from call).out.posts (ap (λ (x : Happening). x.posts) took.is) posted) in
    no_request (PairOf key s h request message) _ message (ap request_key is ∙ sends.at_key) none
answered_now key s h marks request message (gave_up p handle call live is) k keys one sent at same rep none posted = nothing_posted (PairOf key s h request message) h message (ap (λ (x : Happening). x.posts) is) posted
answered_now key s h marks request message (published table right is) k keys one sent at same rep none posted = nothing_posted (PairOf key s h request message) h message (ap (λ (x : Happening). x.posts) is) posted
answered_now key s h marks request message (not_published cause is) k keys one sent at same rep none posted = nothing_posted (PairOf key s h request message) h message (ap (λ (x : Happening). x.posts) is) posted

-- an answer that was sent before, to a request that was sent by now
pub answered_before : (key : KeyId) (s : Store) (h : Happening) (request message : Message) → Happened s h → KeyIsEventual key s → WasSent h.store request → request_key request ≡ Some key → tag_of request ≡ tag_of message → request_key message ≡ None → WasSent s message → PairOf key s h request message
answered_before key s h request message is k sent at same none told =
    elim (sent_cases s h request is sent) as (λ _. PairOf key s h request message) [
      | inl old ↦ both_sent request (record { same = refl; at = at; tag = refl }) old told
      | inr new ↦ by (new_is key s h request is k new at)
    ]
  where
    by : NewIs key s request → PairOf key s h request message
    by (like from was on tag shapes) = both_sent from (record { same = shapes; at = on; tag = tag }) was told
    by (fresh none_under) =
        let asked = k.tags.answers_asked message told none in
        absurd (none_under asked.0 asked.1 (point_of (tag_of asked.0) (tag_of request) (asked.3 ∙ sym same)))

pub pair_of : (key : KeyId) (s : Store) (h : Happening) (marks : List Mark) (request message : Message) → Happened s h → KeyIsEventual key s → CallsHaveKeys h.store marks → IsOneShape key h.store → WasSent h.store request → WasSent h.store message → request_key request ≡ Some key → tag_of request ≡ tag_of message
    → IsReplicas message → request_key message ≡ None → PairOf key s h request message
pair_of key s h marks request message is k keys one sent told at same rep none =
    elim (sent_cases s h message is told) as (λ _. PairOf key s h request message) [
      | inl old ↦ answered_before key s h request message is k sent at same none old
      | inr new ↦ answered_now key s h marks request message is k keys one sent at same rep none new
    ]

-- what a copy is
pub seed_copy : (copy : Message) (tag : Tag) (key : KeyId) (epoch : ℕ) (stamp : Stamp) (value : List ℕ) → shape copy ≡ m.Seed tag key epoch stamp value → copy ≡ m.Seed tag key epoch stamp value
seed_copy (m.Push t on st set v) tag key epoch stamp value e = absurd (cc)
seed_copy copy tag key epoch stamp value e = e

pub freeze_copy : (copy : Message) (tag : Tag) (key : KeyId) (epoch : ℕ) → shape copy ≡ m.Freeze tag key epoch → copy ≡ m.Freeze tag key epoch
freeze_copy (m.Push t on st set v) tag key epoch e = absurd (cc)
freeze_copy copy tag key epoch e = e

pub push_copy : (copy : Message) (tag : Tag) (key : KeyId) (stamp : Stamp) (value : List ℕ) → shape copy ≡ m.Push tag key stamp no_centre value → (set : DcSet) × (copy ≡ m.Push tag key stamp set value)
push_copy (m.Push t on st set v) tag key stamp value e =
    let a : t ≡ tag = cc in
    let b : on ≡ key = cc in
    let c : st ≡ stamp = cc in
    let d : v ≡ value = cc in
    (set, ap (λ (x : Tag). m.Push x on st set v) a ∙ ap (λ (x : KeyId). m.Push tag x st set v) b ∙ ap (λ (x : Stamp). m.Push tag key x set v) c ∙ ap (λ (x : List ℕ). m.Push tag key stamp set x) d)
push_copy copy tag key stamp value e = absurd (cc)

push_told : (n d : ℕ) (kept : Kept) (tag other : Tag) (key : KeyId) (stamp : Stamp) (onward : DcSet) (value : List ℕ) (post : Post) → Contains (push_posts n kept tag key stamp onward value) post → post.message ≡ m.Yes other (record { 0 = d }) → merge_answer n kept tag stamp.epoch ≡ m.Yes other (record { 0 = d })
push_told n d kept tag other key stamp onward value post c e = by (is_over kept stamp.epoch) c
  where
    no_push : Each (λ x. x ≡ m.Yes other (record { 0 = d }) → ⊥) (pushes_to tag key stamp value onward)
    no_push = each_map (λ x. x ≡ m.Yes other (record { 0 = d }) → ⊥) (push_to tag key stamp value) (λ p z. absurd (cc)) (centres_of onward)

    by : (b : Bool) → Contains (if b then to_proxy tag (gone n kept tag) else to_proxy tag (done n tag) ++ pushes_to tag key stamp value onward) post → (if b then gone n kept tag else done n tag) ≡ m.Yes other (record { 0 = d })
    by true x = one_told tag (gone n kept tag) post x ∙ e
    by false x = elim (Contains-append_cases (to_proxy tag (done n tag)) (pushes_to tag key stamp value onward) post x) as (λ _. done n tag ≡ m.Yes other (record { 0 = d })) [ inl a ↦ one_told tag (done n tag) post a ∙ e | inr b ↦ absurd (no_push post b e) ]

-- a Yes to a Push
pub push_replied : (key : KeyId) (s : Store) (h : Happening) (tag other : Tag) (stamp : Stamp) (onward : DcSet) (value : List ℕ) (d : ℕ) → Replied key s h (m.Push tag key stamp onward value) (m.Yes other (record { 0 = d })) → Reaches stamp.epoch stamp (kept_of h.store d key)
push_replied key s h tag other stamp onward value d r =
    let told = merge_told r.d d (kept_of s r.d key) tag other stamp.epoch stamp value (push_told r.d d (kept_of s r.d key) tag other key stamp onward value r.post r.told r.is) in
    reached_now key h r.d d stamp.epoch stamp (after_merge (kept_of s r.d key) stamp.epoch stamp value) told.0 r.became told.1

-- Every event keeps it that all requests of an eventual key under one tag are copies of one.
use Rattle.std.proofs.Common.{◌≡◌, inl, inr, sym, ap, ◌∙◌, subst}
use Rattle.std.proofs.lemmas.Option.{same_Some}
use Rattle.std.specs.Prelude.{Some}
use Rattle.span_base.specs.declared.ids.KeyId.{KeyId}
use Rattle.wire_msg.specs.declared.message.Message.{Message}
use Rattle.wire_msg.specs.declared.actor.Actor.TheVariants as to
use Rattle.replica_core.specs.Rule as replica
use Rattle.epoch_directory.specs.Step as directory_step
use Rattle.call_phase.specs.Counting.{next_tag}
use Rattle.world_core.specs.State.{Store, replica_at, proxy_at, view_at}
use Rattle.wire_msg.specs.Posts.{tag_of}
use Rattle.world_core.specs.Calls.{tag_of_call}
use Rattle.world_core.specs.Starting.{first_tag}
use Rattle.world_core.specs.Step.{Happening, handle_in}
use Rattle.register_law.specs.Seen.{WasSent}
use Rattle.register_law.specs.Tags.{request_key}
use Rattle.register_law.specs.Cases.{Happened, next_call, ignored, replica_stopped, proxy_stopped, refused_at_once, started, replica_took, directory_took, proxy_learned, call_took, gave_up, published, not_published}
use Rattle.register_law.proofs.Basics.{point_of, WasPosted, sent_cases}
use Rattle.register_law.proofs.TagsCalls.{taken_of, IsFresh, started_opens, start_is_fresh, phase_is_fresh}
use Rattle.register_law.proofs.TagsSent.{call_sends}
use Rattle.eventual_law.specs.Kinds.{KeyIsEventual, shape}
use Rattle.eventual_law.proofs.Passed.{PassesOn, IsReply, replica_replies, directory_replies}
use Rattle.eventual_law.proofs.Sends.{nothing_posted, there, no_request, start_key, start_is_eventual}

-- a request of the key that an event sends is a copy of one that was sent, or has a tag under which nothing was
pub data NewIs (key : KeyId) (s : Store) (message : Message) : Type 0 where
  like : (from : Message) → WasSent s from → request_key from ≡ Some key → tag_of from ≡ tag_of message → shape from ≡ shape message → NewIs key s message
  fresh : IsFresh s (tag_of message) → NewIs key s message

passed_shape : (from message : Message) → PassesOn from message → shape from ≡ shape message
passed_shape from message on = ap shape on.from_is ∙ ap shape (sym on.is)

of_reply : (key : KeyId) (s : Store) (from message : Message) → WasSent s from → request_key message ≡ Some key → IsReply from message → NewIs key s message
of_reply key s from message sent at (inl none) = no_request (NewIs key s message) key message at none
of_reply key s from message sent at (inr on) =
    like from sent (ap request_key on.from_is ∙ ap request_key (sym on.is) ∙ at) (ap tag_of on.from_is ∙ ap tag_of (sym on.is)) (passed_shape from message on)

pub new_is : (key : KeyId) (s : Store) (h : Happening) (message : Message) → Happened s h → KeyIsEventual key s → WasPosted h message → request_key message ≡ Some key → NewIs key s message
new_is key s h message (ignored is) k posted at = nothing_posted (NewIs key s message) h message (ap (λ (x : Happening). x.posts) is) posted
new_is key s h message (replica_stopped d is) k posted at = nothing_posted (NewIs key s message) h message (ap (λ (x : Happening). x.posts) is) posted
new_is key s h message (proxy_stopped p is) k posted at = nothing_posted (NewIs key s message) h message (ap (λ (x : Happening). x.posts) is) posted
new_is key s h message (refused_at_once p on work reply lt dead is) k posted at = nothing_posted (NewIs key s message) h message (ap (λ (x : Happening). x.posts) is) posted
new_is key s h message (started p on work st) k posted at =
    let tag : tag_of message ≡ first_tag (next_call s p) st.handle = ((started_opens s p on work h st).requests (record { to = posted.0; message = message }) (there h message st.taken.out.posts (ap (λ (x : Happening). x.posts) st.is) posted)).0 in
    fresh (subst (IsFresh s) (sym tag) (start_is_fresh s p st.handle k.tags))
new_is key s h message (replica_took d from taken is) k posted at =
    of_reply key s from message (to.Replica d, taken.sent) at
    (replica_replies (replica_at s d).state from (record { to = posted.0; message = message }) (there h message (replica.step (replica_at s d).state from).out.posts (ap (λ (x : Happening). x.posts) is) posted))
new_is key s h message (directory_took from sent is) k posted at =
    no_request (NewIs key s message) key message at
    (directory_replies s.directory from (record { to = posted.0; message = message }) (there h message (directory_step.step s.directory from).out.posts (ap (λ (x : Happening). x.posts) is) posted))
new_is key s h message (proxy_learned p from sent is) k posted at = nothing_posted (NewIs key s message) h message (ap (λ (x : Happening). x.posts) is) posted
new_is key s h message (call_took p from call took) k posted at =
    let sends = call_sends s p from call in
    let same : message ≡ sends.message = sends.copies (record { to = posted.0; message = message }) (there h message (taken_of s p from call).out.posts (ap (λ (x : Happening). x.posts) took.is) posted) in
    let tag : tag_of message ≡ next_tag (tag_of_call call) = ap tag_of same ∙ sends.tagged in
    fresh (subst (IsFresh s) (sym tag) (phase_is_fresh s p (handle_in from) call k.tags took.live))
new_is key s h message (gave_up p handle call live is) k posted at = nothing_posted (NewIs key s message) h message (ap (λ (x : Happening). x.posts) is) posted
new_is key s h message (published table right is) k posted at = nothing_posted (NewIs key s message) h message (ap (λ (x : Happening). x.posts) is) posted
new_is key s h message (not_published cause is) k posted at = nothing_posted (NewIs key s message) h message (ap (λ (x : Happening). x.posts) is) posted

two_replies : (key : KeyId) (from a b : Message) → request_key a ≡ Some key → request_key b ≡ Some key → IsReply from a → IsReply from b → shape a ≡ shape b
two_replies key from a b at too (inl none) y = no_request (shape a ≡ shape b) key a at none
two_replies key from a b at too (inr x) (inl none) = no_request (shape a ≡ shape b) key b too none
two_replies key from a b at too (inr x) (inr y) = sym (passed_shape from a x) ∙ passed_shape from b y

-- what one event sends of the key are copies of one request
pub both_new : (key : KeyId) (s : Store) (h : Happening) (a b : Message) → Happened s h → KeyIsEventual key s → WasPosted h a → WasPosted h b → request_key a ≡ Some key → request_key b ≡ Some key → shape a ≡ shape b
both_new key s h a b (ignored is) k x y at too = nothing_posted (shape a ≡ shape b) h a (ap (λ (z : Happening). z.posts) is) x
both_new key s h a b (replica_stopped d is) k x y at too = nothing_posted (shape a ≡ shape b) h a (ap (λ (z : Happening). z.posts) is) x
both_new key s h a b (proxy_stopped p is) k x y at too = nothing_posted (shape a ≡ shape b) h a (ap (λ (z : Happening). z.posts) is) x
both_new key s h a b (refused_at_once p on work reply lt dead is) k x y at too = nothing_posted (shape a ≡ shape b) h a (ap (λ (z : Happening). z.posts) is) x
both_new key s h a b (started p on work st) k x y at too =
    let posts = ap (λ (z : Happening). z.posts) st.is in
    let here = there h a st.taken.out.posts posts x in
    let of : request_key a ≡ Some (view_at (proxy_at s p).views on).key = ((started_opens s p on work h st).requests (record { to = x.0; message = a }) here).1 in
    let same = start_key key s h p on work k st (same_Some (view_at (proxy_at s p).views on).key key (sym of ∙ at)) in
    let first = start_is_eventual key s h p on work k st same in
    first.shaped (record { to = x.0; message = a }) here ∙ sym (first.shaped (record { to = y.0; message = b }) (there h b st.taken.out.posts posts y))
both_new key s h a b (replica_took d from taken is) k x y at too =
    let posts = ap (λ (z : Happening). z.posts) is in
    let replies = replica_replies (replica_at s d).state from in
    two_replies key from a b at too (replies (record { to = x.0; message = a }) (there h a (replica.step (replica_at s d).state from).out.posts posts x)) (replies (record { to = y.0; message = b }) (there h b (replica.step (replica_at s d).state from).out.posts posts y))
both_new key s h a b (directory_took from sent is) k x y at too =
    no_request (shape a ≡ shape b) key a at (directory_replies s.directory from (record { to = x.0; message = a }) (there h a (directory_step.step s.directory from).out.posts (ap (λ (z : Happening). z.posts) is) x))
both_new key s h a b (proxy_learned p from sent is) k x y at too = nothing_posted (shape a ≡ shape b) h a (ap (λ (z : Happening). z.posts) is) x
both_new key s h a b (call_took p from call took) k x y at too =
    let posts = ap (λ (z : Happening). z.posts) took.is in
    let sends = call_sends s p from call in
    ap shape (sends.copies (record { to = x.0; message = a }) (there h a (taken_of s p from call).out.posts posts x) ∙ sym (sends.copies (record { to = y.0; message = b }) (there h b (taken_of s p from call).out.posts posts y)))
both_new key s h a b (gave_up p handle call live is) k x y at too = nothing_posted (shape a ≡ shape b) h a (ap (λ (z : Happening). z.posts) is) x
both_new key s h a b (published table right is) k x y at too = nothing_posted (shape a ≡ shape b) h a (ap (λ (z : Happening). z.posts) is) x
both_new key s h a b (not_published cause is) k x y at too = nothing_posted (shape a ≡ shape b) h a (ap (λ (z : Happening). z.posts) is) x

-- requests of the key under one tag are copies
abbrev pub IsOneShape : KeyId → Store → Type 0
IsOneShape key s = (a b : Message) → WasSent s a → WasSent s b → request_key a ≡ Some key → request_key b ≡ Some key → tag_of a ≡ tag_of b → shape a ≡ shape b

old_and_new : (key : KeyId) (s : Store) (a b : Message) → IsOneShape key s → WasSent s a → request_key a ≡ Some key → tag_of a ≡ tag_of b → NewIs key s b → shape a ≡ shape b
old_and_new key s a b one sent at tags (like from was on tag same) = one a from sent was at on (tags ∙ sym tag) ∙ same
old_and_new key s a b one sent at tags (fresh none) = absurd (none a sent (point_of (tag_of a) (tag_of b) tags))

pub one_shape_after : (key : KeyId) (s : Store) (h : Happening) → Happened s h → KeyIsEventual key s → IsOneShape key s → IsOneShape key h.store
one_shape_after key s h is k one a b x y at too tags =
    elim (sent_cases s h a is x) as (λ _. shape a ≡ shape b) [
      | inl old ↦ elim (sent_cases s h b is y) as (λ _. shape a ≡ shape b) [
        | inl older ↦ one a b old older at too tags
        | inr new ↦ old_and_new key s a b one old at tags (new_is key s h b is k new too)
      ]
      | inr new ↦ elim (sent_cases s h b is y) as (λ _. shape a ≡ shape b) [
        | inl old ↦ sym (old_and_new key s b a one old too (sym tags) (new_is key s h a is k new at))
        | inr newer ↦ both_new key s h a b is k new newer at too
      ]
    ]

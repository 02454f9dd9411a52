-- What an event sends of an eventual key.
use Rattle.std.proofs.Common.{◌≡◌, inl, inr, ℕ, List, [], refl, sym, ap, ◌∙◌, subst}
use Rattle.std.proofs.lemmas.Option.{same_Some}
use Rattle.std.specs.Prelude.{Some, None, Contains}
use Rattle.span_base.specs.declared.ids.KeyId.{KeyId}
use Rattle.wire_msg.specs.declared.actor.Actor.TheVariants as to
use Rattle.wire_msg.specs.declared.message.Message.{Message}
use Rattle.wire_msg.specs.declared.outputs.Post.{Post}
use Rattle.run_marks.specs.declared.mark.Work.{Work}
use Rattle.relay_proxy.specs.State as relay
use Rattle.migration.specs.Move.{Moving}
use Rattle.replica_core.specs.Rule as replica
use Rattle.epoch_directory.specs.Step as directory_step
use Rattle.world_core.specs.declared.live.LiveCall.{LiveCall}
use Rattle.world_core.specs.declared.live.LiveCall.TheVariants.{Strong, Eventual, StrongMove, EventualMove}
use Rattle.world_core.specs.State.{Store, replica_at, proxy_at, view_at}
use Rattle.world_core.specs.Calls.{key_of_call}
use Rattle.world_core.specs.Starting.{first_tag, ticket_of}
use Rattle.world_core.specs.Step.{Happening, is_strong_key, handle_in}
use Rattle.register_law.specs.Seen.{WasSent}
use Rattle.register_law.specs.Tags.{request_key}
use Rattle.register_law.specs.Cases.{Happened, Started, CallTook, next_call, ignored, replica_stopped, proxy_stopped, refused_at_once, started, replica_took, directory_took, proxy_learned, call_took, gave_up, published, not_published}
use Rattle.register_law.proofs.Basics.{WasPosted}
use Rattle.register_law.proofs.TagsCalls.{taken_of, started_opens}
use Rattle.register_law.proofs.TagsSent.{call_sends}
use Rattle.register_order.proofs.Members.{none_among}
use Rattle.eventual_law.specs.Kinds.{KeyIsEventual}
use Rattle.eventual_law.proofs.Passed.{PassesOn, IsReply, replica_replies, directory_replies}
use Rattle.eventual_law.proofs.Starts.{StartSends, EventualStart, eventual_starts}
use Rattle.eventual_law.proofs.Takes.{MoveSends, move_sends, call_sends_none}
use Rattle.eventual_law.specs.Kinds.{IsOfEventual, CarriesNone}

-- a request of an eventual key that an event sends
pub data Sends (s : Store) (h : Happening) (message : Message) : Type 0 where
  passes : (from : Message) → WasSent s from → PassesOn from message → Sends s h message
  starts : (p : ℕ) (at : KeyId) (work : Work) (st : Started s p at work h)
      → StartSends (first_tag (next_call s p) st.handle) (view_at (proxy_at s p).views at).key (ticket_of (proxy_at s p) (view_at (proxy_at s p).views at) (next_call s p)) work message → Sends s h message
  calls : (p : ℕ) (taken : Message) (call : relay.State) → CallTook s p taken (Eventual call) h → CarriesNone message → Sends s h message
  moves : (p : ℕ) (taken : Message) (call : Moving) → CallTook s p taken (EventualMove call) h → MoveSends call taken message → Sends s h message

-- an event that sends nothing
pub nothing_posted : (X : Type 0) (h : Happening) (message : Message) → h.posts ≡ [] → WasPosted h message → X
nothing_posted X h message none posted = absurd (none_among (record { to = posted.0; message = message }) (subst (λ (x : List Post). Contains x (record { to = posted.0; message = message })) none posted.1))

-- what an event sends is among its posts
pub there : (h : Happening) (message : Message) (posts : List Post) → h.posts ≡ posts → (posted : WasPosted h message) → Contains posts (record { to = posted.0; message = message })
there h message posts is posted = subst (λ (x : List Post). Contains x (record { to = posted.0; message = message })) is posted.1

of_reply : (s : Store) (h : Happening) (key : KeyId) (from message : Message) → WasSent s from → request_key message ≡ Some key → IsReply from message → Sends s h message
of_reply s h key from message sent at (inl none) = absurd (cc)
of_reply s h key from message sent at (inr on) = passes from sent on

-- a request of the key is no answer
pub no_request : (X : Type 0) (key : KeyId) (message : Message) → request_key message ≡ Some key → request_key message ≡ None → X
no_request X key message at none = absurd (cc)

-- the key on which a call begins is the eventual one
pub start_key : (key : KeyId) (s : Store) (h : Happening) (p : ℕ) (at : KeyId) (work : Work) → KeyIsEventual key s → Started s p at work h → (view_at (proxy_at s p).views at).key ≡ key → at ≡ key
start_key key s h p at work k st is = sym (k.tags.view_keys p at st.exists st.known) ∙ is

pub start_is_eventual : (key : KeyId) (s : Store) (h : Happening) (p : ℕ) (at : KeyId) (work : Work) → KeyIsEventual key s → (st : Started s p at work h) → at ≡ key
    → EventualStart (first_tag (next_call s p) st.handle) (view_at (proxy_at s p).views at).key (ticket_of (proxy_at s p) (view_at (proxy_at s p).views at) (next_call s p)) work st.taken
start_is_eventual key s h p at work k st same =
    eventual_starts (is_strong_key s at) (first_tag (next_call s p) st.handle) (proxy_at s p).at (view_at (proxy_at s p).views at) (ticket_of (proxy_at s p) (view_at (proxy_at s p).views at) (next_call s p)) work st.taken
    (ap (λ (x : KeyId). is_strong_key s x) same ∙ k.eventual) st.first

of_started : (key : KeyId) (s : Store) (h : Happening) (p : ℕ) (at : KeyId) (work : Work) (message : Message) → KeyIsEventual key s → Started s p at work h → WasPosted h message → request_key message ≡ Some key → Sends s h message
of_started key s h p at work message k st posted asked =
    let post : Post = record { to = posted.0; message = message } in
    let here = there h message st.taken.out.posts (ap (λ (x : Happening). x.posts) st.is) posted in
    let of : request_key message ≡ Some (view_at (proxy_at s p).views at).key = ((started_opens s p at work h st).requests post here).1 in
    let same = start_key key s h p at work k st (same_Some (view_at (proxy_at s p).views at).key key (sym of ∙ asked)) in
    starts p at work st ((start_is_eventual key s h p at work k st same).sends post here)

by_kind : (s : Store) (h : Happening) (p : ℕ) (taken message : Message) (call : LiveCall) (post : Post) → CallTook s p taken call h → IsOfEventual call → post.message ≡ message → Contains (taken_of s p taken call).out.posts post → Sends s h message
by_kind s h p taken message (Strong call) post took kind is c = absurd kind
by_kind s h p taken message (Eventual call) post took kind is c = calls p taken call took (subst CarriesNone is (call_sends_none call taken post c))
by_kind s h p taken message (StrongMove call) post took kind is c = absurd kind
by_kind s h p taken message (EventualMove call) post took kind is c = moves p taken call took (subst (MoveSends call taken) is (move_sends call taken post c))

of_took : (key : KeyId) (s : Store) (h : Happening) (p : ℕ) (taken message : Message) (call : LiveCall) → KeyIsEventual key s → CallTook s p taken call h → WasPosted h message → request_key message ≡ Some key → Sends s h message
of_took key s h p taken message call k took posted asked =
    let post : Post = record { to = posted.0; message = message } in
    let here = there h message (taken_of s p taken call).out.posts (ap (λ (x : Happening). x.posts) took.is) posted in
    let sends = call_sends s p taken call in
    let is : message ≡ sends.message = sends.copies post here in
    let of : Some (key_of_call call) ≡ Some key = sym sends.at_key ∙ ap request_key (sym is) ∙ asked in
    by_kind s h p taken message call post took (k.live_kinds p (handle_in taken) call took.live (same_Some (key_of_call call) key of)) refl here

-- what any event sends of the key
pub sends : (key : KeyId) (s : Store) (h : Happening) (message : Message) → Happened s h → KeyIsEventual key s → WasPosted h message → request_key message ≡ Some key → Sends s h message
sends key s h message (ignored is) k posted at = nothing_posted (Sends s h message) h message (ap (λ (x : Happening). x.posts) is) posted
sends key s h message (replica_stopped d is) k posted at = nothing_posted (Sends s h message) h message (ap (λ (x : Happening). x.posts) is) posted
sends key s h message (proxy_stopped p is) k posted at = nothing_posted (Sends s h message) h message (ap (λ (x : Happening). x.posts) is) posted
sends key s h message (refused_at_once p on work reply lt dead is) k posted at = nothing_posted (Sends s h message) h message (ap (λ (x : Happening). x.posts) is) posted
sends key s h message (started p on work st) k posted at = of_started key s h p on work message k st posted at
sends key s h message (replica_took d from taken is) k posted at =
    of_reply s h key from message (to.Replica d, taken.sent) at
    (replica_replies (replica_at s d).state from (record { to = posted.0; message = message }) (there h message (replica.step (replica_at s d).state from).out.posts (ap (λ (x : Happening). x.posts) is) posted))
sends key s h message (directory_took from sent is) k posted at =
    no_request (Sends s h message) key message at
    (directory_replies s.directory from (record { to = posted.0; message = message }) (there h message (directory_step.step s.directory from).out.posts (ap (λ (x : Happening). x.posts) is) posted))
sends key s h message (proxy_learned p from sent is) k posted at = nothing_posted (Sends s h message) h message (ap (λ (x : Happening). x.posts) is) posted
sends key s h message (call_took p from call took) k posted at = of_took key s h p from message call k took posted at
sends key s h message (gave_up p handle call live is) k posted at = nothing_posted (Sends s h message) h message (ap (λ (x : Happening). x.posts) is) posted
sends key s h message (published table right is) k posted at = nothing_posted (Sends s h message) h message (ap (λ (x : Happening). x.posts) is) posted
sends key s h message (not_published cause is) k posted at = nothing_posted (Sends s h message) h message (ap (λ (x : Happening). x.posts) is) posted

-- No event posts a request of the present phase of a live move, and each keeps what the moves of the key rest on.
use Rattle.std.proofs.Common.{◌≡◌, ℕ, [], ap, subst, arith, Bool, ◌∙◌, ◌+◌, List, refl, sym, Contains, Some, Option, None, IsSome, inl, inr, ◌⊎◌}
use Rattle.register_law.proofs.Words.{KeyId, Actor, Message, Post, Work, Store, replica_at, Happening, LiveCall, CallTook, Happened, Started, call_took, directory_took, replica_took, started, WasSent, DcId, Stamp, tag_of, View, Tag, next_tag, Taken, key_of_call, tag_of_call, take, request_key, DcSet, Moving, Handle, first_tag, ticket_of, proxy_at, view_at, handle_in, is_strong_key, next_call, Ghost, Inv, IsLiveAt, IsSamePoint, TagsTellApart, no_centre, Step, strong_rule, Seeding, noted_of, IsLiveMove, IsMoveRequest, OneMove, MoveStage as Stage}
use Rattle.wire_msg.specs.declared.actor.Actor.TheVariants as to
use Rattle.replica_core.specs.Rule as replica
use Rattle.epoch_directory.specs.Step as directory_step
use Rattle.wire_msg.specs.declared.message.Message.TheVariants as m
use Rattle.world_core.specs.declared.live.LiveCall.TheVariants as live
use Rattle.migration.specs.declared.stage.Stage.TheVariants.{Ended}
use Rattle.migration.specs.Move as moving
use Rattle.register_law.proofs.Basics.{Each, WasPosted, sent_cases, is_made, each_look}
use Rattle.register_law.proofs.TagsCalls.{taken_of, same_place, next_is_none, LiveIs, was_live, begins, went_on, live_after, started_as, started_opens}
use Rattle.register_law.proofs.TagsSteps.{may_ask, take_goes_on}
use Rattle.register_law.proofs.TagsSent.{goes_sends, IsReplicaPost, answers_it, passes_on, replica_posts, answer_is_none, IsDirectoryPost, tells_here, tells_switched, directory_posts}
use Rattle.register_law.specs.Live.{MovesAreBacked}
use Rattle.register_law.proofs.MovesStep.{MoveTook, move_took, made_by}
use Rattle.register_law.proofs.MovesStable.{move_stays}
use Rattle.register_law.proofs.MovesBacked.{backed_after}
use Rattle.register_law.proofs.CallsRows.{OpensAs, opens_move}
use Rattle.register_law.proofs.Growth.{grows_by}
use Rattle.register_law.proofs.MovesTook.{Asking, Asked, before, now, none_within, took_within, took_request}
use Rattle.std.proofs.lemmas.Option.{same_Some}

-- who posted what
pub data Posted (s : Store) (h : Happening) (post : Post) : Type 0 where
  by_start : (p : ℕ) (at : KeyId) (work : Work) (st : Started s p at work h) → Contains st.taken.out.posts post → Posted s h post
  by_replica : (d : ℕ) (message : Message) → Contains s.sent (record { to = to.Replica d; message = message }) → Contains (replica.step (replica_at s d).state message).out.posts post → Posted s h post
  by_directory : (message : Message) → Contains s.sent (record { to = to.Directory; message = message }) → h.store.directory ≡ (directory_step.step s.directory message).state → Contains (directory_step.step s.directory message).out.posts post → Posted s h post
  by_call : (p : ℕ) (message : Message) (old : LiveCall) → CallTook s p message old h → Contains (taken_of s p message old).out.posts post → Posted s h post

nothing : (h : Happening) (s : Store) (post : Post) → Contains [] post → Posted s h post
nothing h s post c = absurd (let lt = c.1 in omega arith)

pub posted : (s : Store) (h : Happening) → Happened s h → (post : Post) → Contains h.posts post → Posted s h post
posted s h (started at key work st) post c = by_start at key work st (subst (λ (x : Happening). Contains x.posts post) st.is c)
posted s h (replica_took d message sent is) post c = by_replica d message sent.sent (subst (λ (x : Happening). Contains x.posts post) is c)
posted s h (directory_took message sent is) post c = by_directory message sent (ap (λ (x : Happening). x.store.directory) is) (subst (λ (x : Happening). Contains x.posts post) is c)
posted s h (call_took at message old st) post c = by_call at message old st (subst (λ (x : Happening). Contains x.posts post) st.is c)
posted s h o post c = nothing h s post (subst (λ (x : Happening). Contains x.posts post) (is_made s h o) c)

-- ---- a call sends requests of its own key only, under the tag of its next phase; one that begins under its first

-- a request of the key with this tag
pub record IsOwn (tag : Tag) (key : KeyId) (message : Message) : Type 0 where
  pub tag_is : tag_of message ≡ tag
  pub key_is : request_key message ≡ Some key

pub take_own : (call : LiveCall) (message : Message) (view : View) (seen : ℕ) → Each (IsOwn (next_tag (tag_of_call call)) (key_of_call call)) (take call message view seen).out.posts
take_own call message view seen post c =
    let sends = goes_sends (may_ask call) (tag_of_call call) (key_of_call call) (take call message view seen).state (take call message view seen).out (take_goes_on call message view seen) in
    let is : post.message ≡ sends.message = sends.copies post c in
    record { tag_is = ap tag_of is ∙ sends.tagged; key_is = ap request_key is ∙ sends.at_key }

pub opened_own : (s : Store) (p : ℕ) (at : KeyId) (work : Work) (h : Happening) (st : Started s p at work h) → Each (IsOwn (first_tag (next_call s p) st.handle) (view_at (proxy_at s p).views at).key) st.taken.out.posts
opened_own s p at work h st post c = let two = (started_opens s p at work h st).requests post c in record { tag_is = two.0; key_is = two.1 }

-- ---- no event posts a request of the present phase of a call that was live before

-- one call under two handles is in one state
pub same_live : (s : Store) → TagsTellApart s → (p q : ℕ) (a b : Handle) (first second : LiveCall) → IsLiveAt s p a first → IsLiveAt s q b second → (tag_of_call first).call ≡ (tag_of_call second).call → first ≡ second
same_live s tags p q a b first second one other same =
    let place = same_place s tags p q a b first second one other same in
    same_Some first second (sym one ∙ subst (λ (x : Handle). IsLiveAt s p x second) (sym place.1) (subst (λ (n : ℕ). IsLiveAt s n b second) (sym place.0) other))

abbrev pub live_move : Moving → LiveCall
live_move call = live.StrongMove call

none_asked : (message : Message) → request_key message ≡ None → IsSome (request_key message) → ⊥
none_asked message none some = let k = subst (λ (o : Option KeyId). IsSome o) none some in cc

-- a Push with the same tag was sent before
pub record WasPush (s : Store) (message : Message) : Type 0 where
  pub tag : Tag
  pub key : KeyId
  pub stamp : Stamp
  pub onward : DcSet
  pub value : List ℕ
  pub sent : WasSent s (m.Push tag key stamp onward value)
  pub same : tag_of message ≡ tag

-- no event posts a request of the present phase of a call that was live before, but a Push that is passed on
pub posted_by_none : (key : KeyId) (s : Store) (g : Ghost) (h : Happening) → Inv key s g → (p : ℕ) (handle : Handle) (call : LiveCall) → IsLiveAt s p handle call → (to : Actor) (request : Message) → Posted s h (record { to = to; message = request })
    → IsSome (request_key request) → IsSamePoint (tag_of request) (tag_of_call call) → WasPush s request
posted_by_none key s g h inv p handle call live to request (by_start q at work st c) some same =
    let own = opened_own s q at work h st (record { to = to; message = request }) c in
    absurd (next_is_none s q (tag_of_call call) (next_call s q) (inv.tags.live_numbered p handle call live).0 (sym same.call ∙ ap (λ (t : Tag). t.call) own.tag_is) refl)
posted_by_none key s g h inv p handle call live whom request (by_replica d message sent c) some same =
    pushed (replica_posts (replica_at s d).state message (record { to = whom; message = request }) c)
  where
    pushed : IsReplicaPost message request → WasPush s request
    pushed (answers_it _ _ is) = absurd (none_asked request (answer_is_none request is) some)
    pushed (passes_on tag at stamp onward none value from is) = record {
      tag = tag;
      key = at;
      stamp = stamp;
      onward = onward;
      value = value;
      sent = subst (WasSent s) from (to.Replica d, sent);
      same = ap tag_of is;
    }
posted_by_none key s g h inv p handle call live to request (by_directory message sent is c) some same = told (directory_posts s.directory message (record { to = to; message = request }) c)
  where
    told : IsDirectoryPost s.directory message request → WasPush s request
    told (tells_here tag at from e) = absurd (none_asked request (ap request_key e) some)
    told (tells_switched tag at closing opening from e) = absurd (none_asked request (ap request_key e) some)
posted_by_none key s g h inv p handle call live to request (by_call q message old ct c) some same =
    let own = take_own old message _ _ (record { to = to; message = request }) c in
    let call_is : (tag_of_call call).call ≡ (tag_of_call old).call = sym same.call ∙ ap (λ (t : Tag). t.call) own.tag_is in
    let one : call ≡ old = same_live s inv.tags p q handle (handle_in message) call old live ct.live call_is in
    let phase : (tag_of_call call).phase ≡ (tag_of_call old).phase + 1 = sym same.phase ∙ ap (λ (t : Tag). t.phase) own.tag_is in
    let again : (tag_of_call call).phase ≡ (tag_of_call old).phase = ap (λ (x : LiveCall). (tag_of_call x).phase) one in
    absurd (omega arith)

-- ---- every event keeps what the moves of the key rest on

not_a_push : (stage : Stage) (call : Moving) (tag : Tag) (key : KeyId) (stamp : Stamp) (onward : DcSet) (value : List ℕ) → IsMoveRequest stage call (m.Push tag key stamp onward value) → ⊥
not_a_push (Seeding old new frozen seeded top_gone) call tag key stamp onward value is = let e = is.1 in cc
not_a_push Ended call tag key stamp onward value is = is
not_a_push stage call tag key stamp onward value is = cc

-- the request of a move that was live before
old_request : (key : KeyId) (s : Store) (g : Ghost) (h : Happening) → Happened s h → Inv key s g → (p : ℕ) (handle : Handle) (call : Moving) → IsLiveMove key s p handle call → (request : Message) → WasSent s request ⊎ WasPosted h request → IsSome (request_key request) → IsSamePoint (tag_of request) call.phase.tag
    → IsMoveRequest call.stage call request
old_request key s g h is inv p handle call live request (inl sent) some same = (inv.moves p handle call live).request request sent some same
old_request key s g h is inv p handle call live request (inr (to, c)) some same =
    let push = posted_by_none key s g h inv p handle (live_move call) live.live to request (posted s h is (record { to = to; message = request }) c) some same in
    let again : IsSamePoint push.tag call.phase.tag = subst (λ (t : Tag). IsSamePoint t call.phase.tag) push.same same in
    absurd (not_a_push call.stage call push.tag push.key push.stamp push.onward push.value ((inv.moves p handle call live).request (m.Push push.tag push.key push.stamp push.onward push.value) push.sent refl again))

abbrev move_in : LiveCall → Moving → Moving
move_in (live.StrongMove call) other = call
move_in _ other = other

same_move : (a b : Moving) → live_move a ≡ live_move b → a ≡ b
same_move a b e = ap (λ (x : LiveCall). move_in x a) e

-- a move that has begun looks: its posts are one Lookup
abbrev begun_move : Tag → KeyId → Moving
begun_move tag key = (moving.started tag key).state

begins_as : (tag : Tag) (at : DcId) (view : View) (ticket : Stamp) (strongly : Bool) (work : Work) (taken : Taken) (call : Moving) → OpensAs tag at view ticket strongly work taken → live_move call ≡ taken.state
    → (call ≡ begun_move tag view.key) × Each (λ (x : Message). x ≡ m.Lookup tag view.key) taken.out.posts
begins_as tag at view ticket strongly work taken call opens_move e = (same_move call (begun_move tag view.key) e, each_look (λ (x : Message). x ≡ m.Lookup tag view.key) tag view.key refl)
begins_as tag at view ticket strongly work taken call _ e = absurd (cc)

new_request : (key : KeyId) (s : Store) (g : Ghost) (h : Happening) → Inv key s g → (p : ℕ) (at : KeyId) (work : Work) (st : Started s p at work h) (only : Message) → Each (λ (x : Message). x ≡ only) st.taken.out.posts
    → (request : Message) → WasSent s request ⊎ WasPosted h request → (tag_of request).call ≡ next_call s p → request ≡ only
new_request key s g h inv p at work st only each request (inl sent) same = absurd (next_is_none s p (tag_of request) (next_call s p) (inv.tags.sent_numbered request sent) same refl)
new_request key s g h inv p at work st only each request (inr (to, c)) same = each (record { to = to; message = request }) (subst (λ (x : Happening). Contains x.posts (record { to = to; message = request })) st.is c)

new_move : (key : KeyId) (s : Store) (g : Ghost) (h : Happening) → Inv key s g → Happened s h → (p : ℕ) (at : KeyId) (work : Work) (st : Started s p at work h) (call : Moving) → live_move call ≡ st.taken.state → OneMove key h.store (noted_of key s h g) call
new_move key s g h inv is p at work st call e =
    let tag : Tag = first_tag (next_call s p) st.handle in
    let view : View = view_at (proxy_at s p).views at in
    let begun = begins_as tag (proxy_at s p).at view (ticket_of (proxy_at s p) view (next_call s p)) (is_strong_key s at) work st.taken call (started_as s p at work h st) e in
    subst (OneMove key h.store (noted_of key s h g)) (sym begun.0)
    (record {
      request = λ request sent some same. new_request key s g h inv p at work st (m.Lookup tag view.key) begun.1 request (sent_cases s h request is sent) same.call;
      within = none_within no_centre tag;
      backed = tt;
    })

-- a move that was live before stays as it was
old_move : (key : KeyId) (s : Store) (g : Ghost) (h : Happening) → Inv key s g → Happened s h → (p : ℕ) (handle : Handle) (call : Moving) → IsLiveMove key s p handle call → OneMove key h.store (noted_of key s h g) call
old_move key s g h inv is p handle call was = record {
  request = λ request sent some same. old_request key s g h is inv p handle call was request (sent_cases s h request is sent) some same;
  within = λ d. (inv.moves p handle call was).within d;
  backed = move_stays key s g h.store (noted_of key s h g) call.phase call.stage (grows_by key s g h is inv) inv.openings.published ((inv.moves p handle call was).backed);
}

asked_of : (s : Store) (h : Happening) (posts : List Post) → h.posts ≡ posts → (request : Message) → WasSent s request ⊎ WasPosted h request → Asked s posts request
asked_of s h posts is request (inl sent) = before sent
asked_of s h posts is request (inr (to, c)) = now to (subst (λ (x : List Post). Contains x (record { to = to; message = request })) is c)

-- a move that took a message
moved_on : (key : KeyId) (s : Store) (g : Ghost) (h : Happening) → Inv key s g → Happened s h → (p : ℕ) (message : Message) (old : LiveCall) → CallTook s p message old h → (call : Moving) → call.key ≡ key → live_move call ≡ (taken_of s p message old).state → (taken_of s p message old).out.end ≡ None
    → OneMove key h.store (noted_of key s h g) call
moved_on key s g h inv is p message (live.StrongMove old) ct call at_key e none =
    let new : (Step Moving) = moving.step strong_rule old message in
    let took : MoveTook strong_rule old message new = move_took strong_rule old message in
    let same : call ≡ new.state = same_move call new.state e in
    let was : IsLiveMove key s p (handle_in message) old = record { live = ct.live; at_key = sym (made_by strong_rule old message).key ∙ sym (ap (λ (x : Moving). x.key) same) ∙ at_key } in
    let sent : WasSent s message = (to.Proxy p, ct.sent) in
    let posts : h.posts ≡ new.out.posts = ap (λ (x : Happening). x.posts) ct.is in
    let asking : Asking s old = record {
      old = λ request asked some point. (inv.moves p (handle_in message) old was).request request asked some point;
      bound = λ request asked one. inv.tags.phase_bound p (handle_in message) (live_move old) request ct.live asked one;
    } in
    subst (OneMove key h.store (noted_of key s h g)) (sym same)
    (record {
      request = λ request asked some. took_request s old message asking new took none request (asked_of s h new.out.posts posts request (sent_cases s h request is asked)) some;
      within = took_within old message new took (λ d. (inv.moves p (handle_in message) old was).within d);
      backed = backed_after key s g h.store (noted_of key s h g) inv (grows_by key s g h is inv) p (handle_in message) old was message sent new took;
    })
moved_on key s g h inv is p message old ct call at_key e none = absurd (cc)

one_move : (key : KeyId) (s : Store) (g : Ghost) (h : Happening) → Inv key s g → Happened s h → (p : ℕ) (handle : Handle) (call : Moving) → call.key ≡ key → LiveIs s h p handle (live_move call) → OneMove key h.store (noted_of key s h g) call
one_move key s g h inv is p handle call at_key (was_live was) = old_move key s g h inv is p handle call (record { live = was; at_key = at_key })
one_move key s g h inv is p handle call at_key (begins at work st at_handle e) = new_move key s g h inv is p at work st call e
one_move key s g h inv is p handle call at_key (went_on message old ct at_handle e none) = moved_on key s g h inv is p message old ct call at_key e none

-- of all live moves of the key
pub moves_kept : (key : KeyId) (s : Store) (g : Ghost) (h : Happening) → Inv key s g → Happened s h → MovesAreBacked key h.store (noted_of key s h g)
moves_kept key s g h inv is = λ p handle call live. one_move key s g h inv is p handle call live.at_key (live_after s h is p handle (live_move call) live.live)

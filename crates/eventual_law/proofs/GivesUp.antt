-- A move of an eventual key that is past its first phase is not given up.
use Rattle.std.proofs.Common.{◌≡◌, ℕ, ◌+◌, Bool, true, false, List, [], ◌∷◌, refl, sym, ap, ◌∙◌, subst}
use Rattle.std.specs.Prelude.{◌==◌, ◌&&◌, not, nat_lt, if◌then◌else◌, length, slice_get, Option, Some, None, Ok, Err, Contains}
use Rattle.std.specs.Option.{option_map_or}
use Rattle.span_base.specs.declared.ids.Call.{Call}
use Rattle.span_base.specs.declared.ids.KeyId.{KeyId}
use Rattle.span_base.specs.declared.words.What.TheVariants.{Messages, FrameBytes, Epochs}
use Rattle.wire_msg.specs.declared.tag.Tag.{Tag}
use Rattle.wire_msg.specs.declared.actor.Actor.{Actor}
use Rattle.wire_msg.specs.declared.actor.Actor.TheVariants as to
use Rattle.wire_msg.specs.declared.message.Message.{Message}
use Rattle.wire_msg.specs.declared.outputs.Post.{Post}
use Rattle.wire_msg.specs.declared.outputs.View.{View}
use Rattle.wire_msg.specs.declared.outputs.Reply.{Reply}
use Rattle.wire_msg.specs.declared.outputs.Reply.TheVariants as r
use Rattle.wire_msg.specs.Outputs.{Step}
use Rattle.wire_msg.specs.Posts.{tag_of}
use Rattle.wire_msg.specs.Sizes.{bulk_of}
use Rattle.migration.specs.Eventual.{eventual as eventual_rule}
use Rattle.migration.specs.Move.{Moving}
use Rattle.migration.specs.Move as move
use Rattle.replica_core.specs.Rule as replica
use Rattle.epoch_directory.specs.declared.table.SetPolicy.{SetPolicy}
use Rattle.epoch_directory.specs.declared.table.PublishFault.{PublishFault}
use Rattle.epoch_directory.specs.declared.table.PublishFault.TheVariants as fault
use Rattle.epoch_directory.specs.State.{latest}
use Rattle.epoch_directory.specs.Step as directory_step
use Rattle.epoch_directory.specs.Tables.{after_publish, table_fault}
use Rattle.run_marks.specs.declared.mark.Work.{Work}
use Rattle.run_marks.specs.declared.mark.Mark.{Mark}
use Rattle.run_marks.specs.declared.mark.Mark.TheVariants as k
use Rattle.slot_pool.specs.declared.handles.Handle.{Handle}
use Rattle.slot_pool.specs.Slots.{item_at, next_handle}
use Rattle.world_core.specs.declared.event.Event.{Event}
use Rattle.world_core.specs.declared.event.Event.TheVariants.{Start, Deliver, StopReplica, StopProxy, GiveUp, Publish}
use Rattle.world_core.specs.declared.event.StepFault.TheVariants.{NoActor, NoKey, WrongMode, NoMessage, NoCall, Limit}
use Rattle.world_core.specs.declared.live.LiveCall.{LiveCall}
use Rattle.world_core.specs.declared.live.LiveCall.TheVariants.{Strong, Eventual, StrongMove, EventualMove}
use Rattle.world_core.specs.State.{Store, Proxy, proxy_at, view_at, replica_at}
use Rattle.world_core.specs.Knowing.{learned}
use Rattle.world_core.specs.Calls.{Taken, take, tag_of_call, key_of_call}
use Rattle.world_core.specs.Starting.{Done, draws_ticket, is_member, first_tag, ticket_of, opened_call, ends_at_once, enters, enters_with, starts_in, starts}
use Rattle.world_core.specs.Step.{Happening, Outcome, nothing, sends, with_sent, with_proxy, with_replica, proxy_did, is_strong_key, fits_mode, start_at, start, proxy_takes, call_takes, only_learns, handle_in, deliver_to, handle_of_call, may_give_up, gives_up, give_up_under, give_up, opens_none, judged, publish, step, message_limit, byte_limit}
use Rattle.register_law.specs.Tags.{IsLiveAt, TagsTellApart}
use Rattle.register_law.specs.Cases.{next_call}
use Rattle.register_law.proofs.CallsOthers.{take_end}
use Rattle.register_law.proofs.MarksAre.{in_one, in_two, in_call_marks, in_start_marks}
use Rattle.register_law.proofs.MovesKept.{same_live}
use Rattle.register_law.proofs.MovesStep.{MoveTook, move_took, unheard}
use Rattle.register_law.proofs.TagsCalls.{next_is_none}
use Rattle.register_order.proofs.Members.{none_among}
use Rattle.wire_msg.specs.declared.outputs.Outputs.{Outputs}

-- a move that lives, and may not be given up
pub record IsBound (s : Store) (p : ℕ) (handle : Handle) (call : Moving) : Type 0 where
  pub lives : IsLiveAt s p handle (EventualMove call)
  pub later : may_give_up (EventualMove call) ≡ false

-- these marks don't say that the move was given up
abbrev Keeps : Moving → List Mark → Type 0
Keeps call marks = Contains marks (k.End call.phase.tag.call r.GivenUp) → ⊥

abbrev pub MarksKeep : Moving → Outcome → Type 0
MarksKeep call (Ok h) = Keeps call h.marks
MarksKeep call (Err fault) = Unit {0}

chosen : (call : Moving) (b : Bool) (one other : Outcome) → (b ≡ true → MarksKeep call one) → (b ≡ false → MarksKeep call other) → MarksKeep call (if b then one else other)
chosen call true one other f g = f refl
chosen call false one other f g = g refl

mapped : {X : Type 0} → (call : Moving) (f : X → Outcome) (o : Option X) (none : Outcome) → ((x : X) → o ≡ Some x → MarksKeep call (f x)) → MarksKeep call none → MarksKeep call (option_map_or f o none)
mapped {X} call f None none all h = h
mapped {X} call f (Some x) none all h = all x refl

silent : (call : Moving) → Keeps call []
silent call c = none_among (k.End call.phase.tag.call r.GivenUp) c

sent : (call : Moving) (s : Store) (posts : List Post) (marks : List Mark) → Keeps call marks → MarksKeep call (sends s posts marks)
sent call s posts marks h =
    chosen call (nat_lt message_limit (length s.sent + length posts)) (Err (Limit Messages (length s.sent + length posts)))
    (if nat_lt byte_limit ((bulk_of s.sent).bytes + (bulk_of posts).bytes) then Err (Limit FrameBytes ((bulk_of s.sent).bytes + (bulk_of posts).bytes)) else Ok (with_sent s posts marks)) (λ _. tt)
    (λ _. chosen call (nat_lt byte_limit ((bulk_of s.sent).bytes + (bulk_of posts).bytes)) (Err (Limit FrameBytes ((bulk_of s.sent).bytes + (bulk_of posts).bytes))) (Ok (with_sent s posts marks)) (λ _. tt) (λ _. h))

-- a call that begins isn't the move
end_call : (one other : Call) (a b : Reply) → k.End one a ≡ k.End other b → (one ≡ other) × (a ≡ b)
end_call one other a b e = (cc, cc)

at_once_keeps : (call : Moving) (proxy : Proxy) (next : Call) (key : KeyId) (work : Work) (reply : Reply) → (call.phase.tag.call ≡ next → ⊥) → Keeps call (ends_at_once proxy next key work reply).marks
at_once_keeps call proxy next key work reply other c =
    in_two ⊥ (k.Begin next key work) (k.End next reply) (k.End call.phase.tag.call r.GivenUp) (λ e. absurd (cc)) (λ e. other (end_call call.phase.tag.call next r.GivenUp reply e).0) c

enters_keeps : (call : Moving) (proxy : Proxy) (next : Call) (handle : Handle) (key : KeyId) (work : Work) (view : View) (taken : Taken) → Keeps call (enters proxy next handle key work (ticket_of proxy view next) taken).marks
enters_keeps call proxy next handle key work view taken c =
    in_start_marks ⊥ next key work (ticket_of proxy view next) (k.End call.phase.tag.call r.GivenUp) (λ e. absurd (cc)) (λ e. absurd (cc)) c

enters_or : (call : Moving) (proxy : Proxy) (next : Call) (handle : Handle) (key : KeyId) (work : Work) (view : View) (o : Option Taken) → (call.phase.tag.call ≡ next → ⊥) → Keeps call (option_map_or (enters proxy next handle key work (ticket_of proxy view next)) o (ends_at_once proxy next key work r.Outside)).marks
enters_or call proxy next handle key work view None other = at_once_keeps call proxy next key work r.Outside other
enters_or call proxy next handle key work view (Some taken) other = enters_keeps call proxy next handle key work view taken

either_keeps : (call : Moving) (b : Bool) (one two : Done Proxy) → Keeps call one.marks → Keeps call two.marks → Keeps call (if b then one else two).marks
either_keeps call true one two h j = h
either_keeps call false one two h j = j

in_keeps : (call : Moving) (strong : Bool) (proxy : Proxy) (next : Call) (key : KeyId) (work : Work) (view : View) (o : Option Handle) → (call.phase.tag.call ≡ next → ⊥) → Keeps call (option_map_or (starts_in strong proxy next key work view) o (ends_at_once proxy next key work r.Full)).marks
in_keeps call strong proxy next key work view None other = at_once_keeps call proxy next key work r.Full other
in_keeps call strong proxy next key work view (Some handle) other =
    either_keeps call (draws_ticket work && (proxy.seen == 18446744073709551615)) (ends_at_once proxy next key work r.NumbersOut) (enters_with strong proxy next key work view handle)
    (at_once_keeps call proxy next key work r.NumbersOut other)
    (enters_or call proxy next handle key work view (opened_call strong (first_tag next handle) proxy.at view (ticket_of proxy view next) work) other)

start_keeps : (call : Moving) (strong : Bool) (p : ℕ) (proxy : Proxy) (key : KeyId) (work : Work) → (let next : Call = record { proxy = p; seq = proxy.begun + 1 } in call.phase.tag.call ≡ next → ⊥) → Keeps call (starts strong p proxy key work).marks
unfolding starts
start_keeps call strong p proxy key work other =
    let next : Call = record { proxy = p; seq = proxy.begun + 1 } in
    let view : View = view_at proxy.views key in
    either_keeps call (not (is_member work view proxy.at)) (ends_at_once proxy next key work r.Outside) (option_map_or (starts_in strong proxy next key work view) (next_handle proxy.calls) (ends_at_once proxy next key work r.Full))
    (at_once_keeps call proxy next key work r.Outside other) (in_keeps call strong proxy next key work view (next_handle proxy.calls) other)

not_next : (s : Store) (p q : ℕ) (handle : Handle) (call : Moving) → TagsTellApart s → IsLiveAt s p handle (EventualMove call) → call.phase.tag.call ≡ next_call s q → ⊥
not_next s p q handle call tags lives same = next_is_none s q call.phase.tag (next_call s q) (tags.live_numbered p handle (EventualMove call) lives).0 same refl

starting_keeps : (s : Store) (p : ℕ) (handle : Handle) (call : Moving) → TagsTellApart s → IsLiveAt s p handle (EventualMove call) → (q at : ℕ) (work : Work) → MarksKeep call (start s q at work)
starting_keeps s p handle call tags lives q at work =
    let on : KeyId = record { 0 = at } in
    let done : Done Proxy = starts (is_strong_key s on) q (proxy_at s q) on work in
    let all : Outcome = proxy_did s q done in
    let mode : Outcome = if not (fits_mode (is_strong_key s on) work) then Err WrongMode else all in
    let whole : Outcome = start_at s q on work in
    chosen call (not (nat_lt q (length s.proxies))) (Err NoActor) (if (proxy_at s q).stopped then nothing s else whole) (λ _. tt)
    (λ _. chosen call (proxy_at s q).stopped (nothing s) whole (λ _. silent call)
    (λ _. chosen call (not (nat_lt at (length s.directory.sets))) (Err NoKey) mode (λ _. tt)
    (λ _. chosen call (not (fits_mode (is_strong_key s on) work)) (Err WrongMode) all (λ _. tt)
    (λ _. sent call (with_proxy s q done.actor) done.posts done.marks (start_keeps call (is_strong_key s on) q (proxy_at s q) on work (not_next s p q handle call tags lives))))))

-- no move ends as given up
took_keeps : (X : Type 0) (call : Moving) (taken : Message) (new : Step Moving) → MoveTook eventual_rule call taken new → new.out.end ≡ Some r.GivenUp → X
took_keeps X call taken new unheard e = absurd (cc)
took_keeps X call taken new _ e = absurd (cc)

move_keeps : (call other : Moving) (message : Message) (view : View) (seen : ℕ) → EventualMove call ≡ EventualMove other → (take (EventualMove other) message view seen).out.end ≡ Some r.GivenUp → ⊥
move_keeps call other message view seen same e = took_keeps ⊥ other message (move.step eventual_rule other message) (move_took eventual_rule other message) e

took_by : (call : Moving) (live : LiveCall) (message : Message) (view : View) (seen : ℕ) → EventualMove call ≡ live → (take live message view seen).out.end ≡ Some r.GivenUp → ⊥
took_by call (Strong x) message view seen same e = absurd (cc)
took_by call (Eventual x) message view seen same e = absurd (cc)
took_by call (StrongMove x) message view seen same e = absurd (cc)
took_by call (EventualMove x) message view seen same e = move_keeps call x message view seen same e

takes_keeps : (s : Store) (p : ℕ) (handle : Handle) (call : Moving) → TagsTellApart s → IsLiveAt s p handle (EventualMove call) → (q : ℕ) (message : Message) (o : Option LiveCall) → item_at (proxy_at s q).calls (handle_in message) ≡ o
    → Keeps call (option_map_or (call_takes (learned (proxy_at s q) message) message) o (only_learns (learned (proxy_at s q) message))).marks
takes_keeps s p handle call tags lives q message None is c = none_among (k.End call.phase.tag.call r.GivenUp) c
takes_keeps s p handle call tags lives q message (Some live) is c =
    in_call_marks ⊥ (tag_of message).call out.ticket out.end (k.End call.phase.tag.call r.GivenUp) (λ stamp _ e. absurd (cc)) (λ reply some e. by reply some (end_call call.phase.tag.call (tag_of message).call r.GivenUp reply e)) c
  where
    proxy : Proxy
    proxy = learned (proxy_at s q) message

    out : Outputs
    out = (take live message (view_at proxy.views (key_of_call live)) proxy.seen).out

    by : (reply : Reply) → out.end ≡ Some reply → (call.phase.tag.call ≡ (tag_of message).call) × (r.GivenUp ≡ reply) → ⊥
    by reply some e =
        let ends : out.end ≡ Some r.GivenUp = some ∙ ap Some (sym e.1) in
        let own : tag_of_call live ≡ tag_of message = take_end live message (view_at proxy.views (key_of_call live)) proxy.seen r.GivenUp ends in
        let same : EventualMove call ≡ live = same_live s tags p q handle (handle_in message) (EventualMove call) live lives is (e.0 ∙ sym (ap (λ (t : Tag). t.call) own)) in
        took_by call live message (view_at proxy.views (key_of_call live)) proxy.seen same ends

proxy_keeps : (s : Store) (p : ℕ) (handle : Handle) (call : Moving) → TagsTellApart s → IsLiveAt s p handle (EventualMove call) → (q : ℕ) (message : Message) → Keeps call (proxy_takes (proxy_at s q) message).marks
unfolding proxy_takes
proxy_keeps s p handle call tags lives q message = takes_keeps s p handle call tags lives q message (item_at (proxy_at s q).calls (handle_in message)) refl

deliver_keeps : (s : Store) (p : ℕ) (handle : Handle) (call : Moving) → TagsTellApart s → IsLiveAt s p handle (EventualMove call) → (a : Actor) (message : Message) → MarksKeep call (deliver_to s a message)
deliver_keeps s p handle call tags lives (to.Replica d) message =
    let new = replica.step (replica_at s d).state message in
    chosen call (replica_at s d).stopped (nothing s) _ (λ _. silent call) (λ _. sent call (with_replica s d (record { stopped = false; state = new.state })) new.out.posts [] (silent call))
deliver_keeps s p handle call tags lives to.Directory message =
    let new = directory_step.step s.directory message in
    sent call (record s { directory = new.state }) new.out.posts [] (silent call)
deliver_keeps s p handle call tags lives (to.Proxy q) message =
    let done : Done Proxy = proxy_takes (proxy_at s q) message in
    chosen call (proxy_at s q).stopped (nothing s) (proxy_did s q done) (λ _. silent call) (λ _. sent call (with_proxy s q done.actor) done.posts done.marks (proxy_keeps s p handle call tags lives q message))

may_is : (a b : LiveCall) → a ≡ b → may_give_up a ≡ false → may_give_up b ≡ true → ⊥
may_is a b same no_may may = let e = subst (λ (x : LiveCall). may_give_up x ≡ false) same no_may in cc

give_up_keeps : (s : Store) (p : ℕ) (handle : Handle) (call : Moving) → TagsTellApart s → IsBound s p handle call → (q seq : ℕ) → MarksKeep call (give_up s q seq)
give_up_keeps s p handle call tags bound q seq =
    let at : Outcome = option_map_or (give_up_under s q) (handle_of_call (proxy_at s q).calls seq) (Err NoCall) in
    chosen call (not (nat_lt q (length s.proxies))) (Err NoActor) (if (proxy_at s q).stopped then nothing s else at) (λ _. tt)
    (λ _. chosen call (proxy_at s q).stopped (nothing s) at (λ _. silent call)
    (λ _. mapped call (give_up_under s q) (handle_of_call (proxy_at s q).calls seq) (Err NoCall)
    (λ other _. mapped call (gives_up s q other) (item_at (proxy_at s q).calls other) (Err NoCall)
    (λ live there. chosen call (may_give_up live) _ (Err NoCall)
    (λ may c. in_one ⊥ (k.End (tag_of_call live).call r.GivenUp) (k.End call.phase.tag.call r.GivenUp)
    (λ e. may_is (EventualMove call) live (same_live s tags p q handle other (EventualMove call) live bound.lives there (end_call call.phase.tag.call (tag_of_call live).call r.GivenUp r.GivenUp e).0) bound.later may) c) (λ _. tt)) tt) tt))

none_keeps : (call : Moving) (s : Store) (wrong : PublishFault) → MarksKeep call (opens_none s wrong)
none_keeps call s (fault.MissingSet set) = λ c. in_one ⊥ (k.NoEpoch _) (k.End call.phase.tag.call r.GivenUp) (λ e. absurd (cc)) c
none_keeps call s (fault.NotQuorum set) = λ c. in_one ⊥ (k.NoEpoch _) (k.End call.phase.tag.call r.GivenUp) (λ e. absurd (cc)) c
none_keeps call s _ = silent call

publish_keeps : (call : Moving) (s : Store) (table : List SetPolicy) → MarksKeep call (publish s table)
publish_keeps call s table =
    chosen call (latest s.directory == 1000) (Err (Limit Epochs 1001)) (judged s table) (λ _. tt)
    (λ _. mapped call (opens_none s) (table_fault s.directory table) (Ok (record { store = record s { directory = after_publish s.directory table }; marks = k.Epoch (latest s.directory + 1) ∷ []; posts = [] })) (λ wrong _. none_keeps call s wrong)
    (λ c. in_one ⊥ (k.Epoch (latest s.directory + 1)) (k.End call.phase.tag.call r.GivenUp) (λ e. absurd (cc)) c))

event_keeps : (s : Store) (p : ℕ) (handle : Handle) (call : Moving) → TagsTellApart s → IsBound s p handle call → (e : Event) → MarksKeep call (step s e)
unfolding step
event_keeps s p handle call tags bound (Start q at work) = starting_keeps s p handle call tags bound.lives q at work
event_keeps s p handle call tags bound (Deliver n) = mapped call (λ post. deliver_to s post.to post.message) (slice_get s.sent n) (Err (NoMessage (length s.sent))) (λ post _. deliver_keeps s p handle call tags bound.lives post.to post.message) tt
event_keeps s p handle call tags bound (StopReplica d) = chosen call (not (nat_lt d (length s.replicas))) (Err NoActor) (nothing (with_replica s d (record { stopped = true; state = (replica_at s d).state }))) (λ _. tt) (λ _. silent call)
event_keeps s p handle call tags bound (StopProxy q) = chosen call (not (nat_lt q (length s.proxies))) (Err NoActor) (nothing (with_proxy s q (record (proxy_at s q) { stopped = true }))) (λ _. tt) (λ _. silent call)
event_keeps s p handle call tags bound (GiveUp q seq) = give_up_keeps s p handle call tags bound q seq
event_keeps s p handle call tags bound (Publish table) = publish_keeps call s table

-- no event gives it up
pub not_given_up : (s : Store) (e : Event) (h : Happening) → step s e ≡ Ok h → TagsTellApart s → (p : ℕ) (handle : Handle) (call : Moving) → IsBound s p handle call → Contains h.marks (k.End call.phase.tag.call r.GivenUp) → ⊥
not_given_up s e h is tags p handle call bound = subst (MarksKeep call) is (event_keeps s p handle call tags bound e)

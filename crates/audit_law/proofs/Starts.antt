-- Whatever an event is, a call that begins in it is asked for, and ends as its work may if it ends at once.
use Rattle.std.proofs.Common.{◌≡◌, ℕ, ◌+◌, Bool, true, false, List, [], ◌∷◌, ◌++◌, refl, subst, nat_lt, not, ◌==◌, if◌then◌else◌, length, Option, Some, None, slice_get, Ok, Err}
use Rattle.std.specs.Option.{option_map_or}
use Rattle.register_law.proofs.Words.{Call, KeyId, Epochs, FrameBytes, Messages, Stamp, Step, bulk_of, Actor, Message, Post, Reply, State, latest, after_publish, table_fault, PublishFault, SetPolicy, after_take, item_at, Handle, Mark, Work, tag_of_call, learned, Done, starts, starts_as, Proxy, Store, proxy_at, replica_at, view_at, Happening, Outcome, byte_limit, call_takes, deliver_to, end_marks, fits_mode, give_up, give_up_under, gives_up, handle_in, handle_of_call, is_strong_key, judged, may_give_up, message_limit, nothing, only_learns, opens_none, proxy_did, proxy_takes, proxy_takes_as, replica_takes, sends, start, start_at, step, ticket_marks, with_proxy, with_replica, Event, Deliver, GiveUp, Publish, Start, StopProxy, StopReplica, Limit, NoActor, NoCall, NoKey, NoMessage, WrongMode, LiveCall, next_call}
use Rattle.wire_msg.specs.declared.actor.Actor.TheVariants as to
use Rattle.wire_msg.specs.declared.outputs.Reply.TheVariants as r
use Rattle.replica_core.specs.Rule as replica
use Rattle.epoch_directory.specs.declared.table.PublishFault.TheVariants as fault
use Rattle.epoch_directory.specs.Step as directory_step
use Rattle.run_marks.specs.declared.mark.Mark.TheVariants as k
use Rattle.world_core.specs.Step.{publish}
use Rattle.audit_law.proofs.Asked.{BeginsRightly, starts_rightly}
use Rattle.register_law.proofs.Basics.{within_is, not_false}

-- so the marks of what an event makes
abbrev InMarks : Store → Outcome → Type 0
InMarks s (Ok h) = BeginsRightly s h.marks
InMarks s (Err fault) = Unit {0}

chosen : (s : Store) (b : Bool) (one other : Outcome) → (b ≡ true → InMarks s one) → (b ≡ false → InMarks s other) → InMarks s (if b then one else other)
chosen s true one other f g = f refl
chosen s false one other f g = g refl

mapped : {X : Type 0} → (s : Store) (f : X → Outcome) (o : Option X) (none : Outcome) → ((x : X) → InMarks s (f x)) → InMarks s none → InMarks s (option_map_or f o none)
mapped {X} s f None none all h = h
mapped {X} s f (Some x) none all h = all x

sent : (s z : Store) (posts : List Post) (marks : List Mark) → BeginsRightly s marks → InMarks s (sends z posts marks)
sent s z posts marks h =
    let one : Outcome = Ok (record { store = record z { sent = z.sent ++ posts }; marks = marks; posts = posts }) in
    let bytes : Outcome = if nat_lt byte_limit ((bulk_of z.sent).bytes + (bulk_of posts).bytes) then Err (Limit FrameBytes ((bulk_of z.sent).bytes + (bulk_of posts).bytes)) else one in
    chosen s (nat_lt message_limit (length z.sent + length posts)) (Err (Limit Messages (length z.sent + length posts))) bytes (λ _. tt)
    (λ _. chosen s (nat_lt byte_limit ((bulk_of z.sent).bytes + (bulk_of posts).bytes)) (Err (Limit FrameBytes ((bulk_of z.sent).bytes + (bulk_of posts).bytes))) one (λ _. tt) (λ _. h))

at_start : (s : Store) (p : ℕ) (key : KeyId) (work : Work) → InMarks s (start_at s p key work)
unfolding starts
at_start s p key work =
    let d : Done Proxy = starts_as (is_strong_key s key) (proxy_at s p) (next_call s p) key work (view_at (proxy_at s p).views key) in
    let last : Outcome = proxy_did s p d in
    let mode : Outcome = if not (fits_mode (is_strong_key s key) work) then Err WrongMode else last in
    chosen s (not (nat_lt key.0 (length s.directory.sets))) (Err NoKey) mode (λ _. tt)
    (λ known. chosen s (not (fits_mode (is_strong_key s key) work)) (Err WrongMode) last (λ _. tt)
    (λ fit. sent s (with_proxy s p d.actor) d.posts d.marks
    (starts_rightly s (is_strong_key s key) (proxy_at s p) (next_call s p) key work (view_at (proxy_at s p).views key)
    (record { known = within_is key.0 (length s.directory.sets) known; fits = not_false (fits_mode (is_strong_key s key) work) fit }))))

starting_rightly : (s : Store) (p key : ℕ) (work : Work) → InMarks s (start s p key work)
starting_rightly s p key work =
    let at : KeyId = record { 0 = key } in
    chosen s (not (nat_lt p (length s.proxies))) (Err NoActor) (if (proxy_at s p).stopped then nothing s else start_at s p at work) (λ _. tt)
    (λ _. chosen s (proxy_at s p).stopped (nothing s) (start_at s p at work) (λ _. tt) (λ _. at_start s p at work))

-- what a call does with a message begins none
took_begins_none : (s : Store) (call : Call) (t : Option Stamp) (o : Option Reply) → BeginsRightly s (ticket_marks call t ++ end_marks call o)
took_begins_none s call None None = tt
took_begins_none s call t o = tt

proxy_took : (s : Store) (proxy : Proxy) (message : Message) (o : Option LiveCall) → BeginsRightly s (option_map_or (call_takes proxy message) o (only_learns proxy)).marks
proxy_took s proxy message None = tt
proxy_took s proxy message (Some call) = took_begins_none s _ _ _

delivered : (s : Store) (a : Actor) (message : Message) → InMarks s (deliver_to s a message)
unfolding proxy_takes
delivered s (to.Replica d) message =
    let st : (Step replica.State) = replica.step (replica_at s d).state message in
    chosen s (replica_at s d).stopped (nothing s) (replica_takes s d message st) (λ _. tt) (λ _. sent s (with_replica s d (record { stopped = false; state = st.state })) st.out.posts [] tt)
delivered s to.Directory message =
    let st : (Step State) = directory_step.step s.directory message in
    sent s (record s { directory = st.state }) st.out.posts [] tt
delivered s (to.Proxy p) message =
    let d : Done Proxy = proxy_takes_as (learned (proxy_at s p) message) message in
    chosen s (proxy_at s p).stopped (nothing s) (proxy_did s p d) (λ _. tt)
    (λ _. sent s (with_proxy s p d.actor) d.posts d.marks (proxy_took s (learned (proxy_at s p) message) message (item_at (learned (proxy_at s p) message).calls (handle_in message))))

given : (s : Store) (p : ℕ) (handle : Handle) (call : LiveCall) → InMarks s (gives_up s p handle call)
given s p handle call =
    chosen s (may_give_up call) (Ok (record { store = with_proxy s p (record (proxy_at s p) { calls = after_take (proxy_at s p).calls handle }); marks = k.End (tag_of_call call).call r.GivenUp ∷ []; posts = [] })) (Err NoCall) (λ _. tt) (λ _. tt)

given_up : (s : Store) (p seq : ℕ) → InMarks s (give_up s p seq)
given_up s p seq =
    let at : Outcome = option_map_or (give_up_under s p) (handle_of_call (proxy_at s p).calls seq) (Err NoCall) in
    chosen s (not (nat_lt p (length s.proxies))) (Err NoActor) (if (proxy_at s p).stopped then nothing s else at) (λ _. tt)
    (λ _. chosen s (proxy_at s p).stopped (nothing s) at (λ _. tt)
    (λ _. mapped s (give_up_under s p) (handle_of_call (proxy_at s p).calls seq) (Err NoCall) (λ handle. mapped s (gives_up s p handle) (item_at (proxy_at s p).calls handle) (Err NoCall) (given s p handle) tt) tt))

no_epoch : (s : Store) (wrong : PublishFault) → InMarks s (opens_none s wrong)
no_epoch s (fault.MissingSet set) = tt
no_epoch s wrong = tt

published : (s : Store) (table : List SetPolicy) → InMarks s (publish s table)
published s table =
    chosen s (latest s.directory == 1000) (Err (Limit Epochs 1001)) (judged s table) (λ _. tt)
    (λ _. mapped s (opens_none s) (table_fault s.directory table)
    (Ok (record { store = record s { directory = after_publish s.directory table }; marks = k.Epoch (latest s.directory + 1) ∷ []; posts = [] })) (no_epoch s) tt)

every_outcome : (s : Store) (e : Event) → InMarks s (step s e)
unfolding step
every_outcome s (Start p key work) = starting_rightly s p key work
every_outcome s (Deliver n) = mapped s (λ (post : Post). deliver_to s post.to post.message) (slice_get s.sent n) (Err (NoMessage (length s.sent))) (λ post. delivered s post.to post.message) tt
every_outcome s (StopReplica d) = chosen s (not (nat_lt d (length s.replicas))) (Err NoActor) (nothing (with_replica s d (record { stopped = true; state = (replica_at s d).state }))) (λ _. tt) (λ _. tt)
every_outcome s (StopProxy p) = chosen s (not (nat_lt p (length s.proxies))) (Err NoActor) (nothing (with_proxy s p (record (proxy_at s p) { stopped = true }))) (λ _. tt) (λ _. tt)
every_outcome s (GiveUp p seq) = given_up s p seq
every_outcome s (Publish table) = published s table

-- so the marks of every event that is taken
pub event_begins_rightly : (s : Store) (e : Event) (h : Happening) → step s e ≡ Ok h → BeginsRightly s h.marks
event_begins_rightly s e h is = subst (InMarks s) is (every_outcome s e)

-- Whatever an event is, it sends no more than may be, and what it tells of what was asked for is within the ranges of a log.
use Rattle.std.proofs.Common.{◌≡◌, ℕ, ◌+◌, ◌≤◌, Bool, true, false, List, [], ◌∷◌, ◌++◌, refl, sym, subst, arith}
use Rattle.std.specs.Prelude.{nat_lt, not, ◌==◌, if◌then◌else◌, length, Option, Some, None, slice_get, Ok, Err}
use Rattle.std.specs.Option.{option_map_or}
use Rattle.std.proofs.lemmas.Bool.{ltb-false}
use Rattle.std.proofs.lemmas.List.{length-append}
use Rattle.span_base.specs.declared.ids.Call.{Call}
use Rattle.span_base.specs.declared.ids.KeyId.{KeyId}
use Rattle.span_base.specs.declared.words.What.TheVariants.{Messages, FrameBytes, Epochs}
use Rattle.ticket_rules.specs.declared.stamp.Stamp.{Stamp}
use Rattle.wire_msg.specs.declared.actor.Actor.{Actor}
use Rattle.wire_msg.specs.declared.message.Message.{Message}
use Rattle.wire_msg.specs.declared.outputs.Post.{Post}
use Rattle.wire_msg.specs.declared.outputs.Reply.{Reply}
use Rattle.wire_msg.specs.Sizes.{bulk_of}
use Rattle.wire_msg.specs.Outputs.{Step}
use Rattle.wire_msg.specs.declared.actor.Actor.TheVariants as to
use Rattle.wire_msg.specs.declared.outputs.Reply.TheVariants as r
use Rattle.slot_pool.specs.declared.handles.Handle.{Handle}
use Rattle.slot_pool.specs.Slots.{item_at, after_take}
use Rattle.replica_core.specs.Rule as replica
use Rattle.epoch_directory.specs.declared.table.SetPolicy.{SetPolicy}
use Rattle.epoch_directory.specs.declared.table.PublishFault.{PublishFault}
use Rattle.epoch_directory.specs.State.{latest, State, set_count}
use Rattle.epoch_directory.specs.Tables.{after_publish, table_fault}
use Rattle.epoch_directory.specs.declared.table.PublishFault.TheVariants as fault
use Rattle.epoch_directory.specs.Step as directory_step
use Rattle.run_marks.specs.declared.mark.Work.{Work}
use Rattle.run_marks.specs.declared.mark.Mark.{Mark}
use Rattle.run_marks.specs.declared.mark.Mark.TheVariants as k
use Rattle.world_core.specs.declared.live.LiveCall.{LiveCall}
use Rattle.world_core.specs.declared.event.Event.{Event}
use Rattle.world_core.specs.declared.event.Event.TheVariants.{Start, Deliver, StopReplica, StopProxy, GiveUp, Publish}
use Rattle.world_core.specs.declared.event.StepFault.TheVariants.{NoActor, NoKey, WrongMode, NoMessage, NoCall, Limit}
use Rattle.world_core.specs.State.{Store, Proxy, replica_at, proxy_at, view_at}
use Rattle.world_core.specs.Knowing.{learned}
use Rattle.world_core.specs.Calls.{tag_of_call}
use Rattle.world_core.specs.Starting.{Done, starts_as, starts}
use Rattle.world_core.specs.Step.{Happening, Outcome, nothing, sends, with_proxy, with_replica, proxy_did, is_strong_key, fits_mode, start_at, start, replica_takes, proxy_takes, proxy_takes_as, call_takes, only_learns, handle_in, deliver_to, handle_of_call, may_give_up, gives_up, give_up_under, give_up, opens_none, judged, publish, step, message_limit, byte_limit, ticket_marks, end_marks}
use Rattle.register_law.specs.Cases.{next_call}
use Rattle.register_law.proofs.Basics.{within_is}
use Rattle.history_audit.specs.Ranges.{FitsWork}
use Rattle.log_law.specs.Fits.{FitsEvent}
use Rattle.log_law.specs.Within.{FitsProxy, FitsDirectory}
use Rattle.log_law.proofs.Heads.{FitsHead, starts_head}
use Rattle.log_law.proofs.Causes.{IsBelow, fault_below}

-- what an event shows
pub record ShowsWell (h : Happening) : Type 0 where
  pub few : length h.store.sent ≤ 4000000
  pub head : FitsHead h.marks

abbrev Shown : Outcome → Type 0
Shown (Ok h) = ShowsWell h
Shown (Err fault) = Unit {0}

chosen : (b : Bool) (one other : Outcome) → (b ≡ true → Shown one) → (b ≡ false → Shown other) → Shown (if b then one else other)
chosen true one other f g = f refl
chosen false one other f g = g refl

mapped : {X : Type 0} → (f : X → Outcome) (o : Option X) (none : Outcome) → ((x : X) → o ≡ Some x → Shown (f x)) → Shown none → Shown (option_map_or f o none)
mapped {X} f None none all h = h
mapped {X} f (Some x) none all h = all x refl

room : (z : Store) (posts : List Post) → nat_lt message_limit (length z.sent + length posts) ≡ false → length (z.sent ++ posts) ≤ 4000000
room z posts under = omega (arith, length-append z.sent posts, ltb-false message_limit (length z.sent + length posts) under)

sent : (z : Store) (posts : List Post) (marks : List Mark) → FitsHead marks → Shown (sends z posts marks)
sent z posts marks h =
    let one : Outcome = Ok (record { store = record z { sent = z.sent ++ posts }; marks = marks; posts = posts }) in
    let bytes : Outcome = if nat_lt byte_limit ((bulk_of z.sent).bytes + (bulk_of posts).bytes) then Err (Limit FrameBytes ((bulk_of z.sent).bytes + (bulk_of posts).bytes)) else one in
    chosen (nat_lt message_limit (length z.sent + length posts)) (Err (Limit Messages (length z.sent + length posts))) bytes (λ _. tt)
    (λ under. chosen (nat_lt byte_limit ((bulk_of z.sent).bytes + (bulk_of posts).bytes)) (Err (Limit FrameBytes ((bulk_of z.sent).bytes + (bulk_of posts).bytes))) one (λ _. tt)
    (λ _. record { few = room z posts under; head = h }))

-- nothing is sent, and nothing was asked for
quiet : (s z : Store) → z.sent ≡ s.sent → length s.sent ≤ 4000000 → Shown (nothing z)
quiet s z is few = record { few = subst (λ (posts : List Post). length posts ≤ 4000000) (sym is) few; head = tt }

at_start : (s : Store) (events p : ℕ) (key : KeyId) (work : Work) → FitsProxy events (proxy_at s p) → FitsDirectory events s.directory → FitsWork work → Shown (start_at s p key work)
unfolding starts
at_start s events p key work fit directory f =
    let d : Done Proxy = starts_as (is_strong_key s key) (proxy_at s p) (next_call s p) key work (view_at (proxy_at s p).views key) in
    let last : Outcome = proxy_did s p d in
    let mode : Outcome = if not (fits_mode (is_strong_key s key) work) then Err WrongMode else last in
    chosen (not (nat_lt key.0 (length s.directory.sets))) (Err NoKey) mode (λ _. tt)
    (λ known. chosen (not (fits_mode (is_strong_key s key) work)) (Err WrongMode) last (λ _. tt)
    (λ _. sent (with_proxy s p d.actor) d.posts d.marks
    (starts_head (is_strong_key s key) (proxy_at s p) (next_call s p) key work (view_at (proxy_at s p).views key) (record { key_fits = low known; work_fits = f; seen = fit.seen }))))
  where
    low : not (nat_lt key.0 (length s.directory.sets)) ≡ false → key.0 ≤ 999
    low known = let lt = within_is key.0 (length s.directory.sets) known in let few = directory.keys in omega (arith, lt, few)

starting : (s : Store) (events p key : ℕ) (work : Work) → length s.sent ≤ 4000000 → FitsProxy events (proxy_at s p) → FitsDirectory events s.directory → FitsWork work → Shown (start s p key work)
starting s events p key work few fit directory f =
    let at : KeyId = record { 0 = key } in
    chosen (not (nat_lt p (length s.proxies))) (Err NoActor) (if (proxy_at s p).stopped then nothing s else start_at s p at work) (λ _. tt)
    (λ _. chosen (proxy_at s p).stopped (nothing s) (start_at s p at work) (λ _. quiet s s refl few) (λ _. at_start s events p at work fit directory f))

-- what a call does with a message begins none
took_none : (call : Call) (t : Option Stamp) (o : Option Reply) → FitsHead (ticket_marks call t ++ end_marks call o)
took_none call None None = tt
took_none call None (Some reply) = tt
took_none call (Some stamp) o = tt

proxy_took : (proxy : Proxy) (message : Message) (o : Option LiveCall) → FitsHead (option_map_or (call_takes proxy message) o (only_learns proxy)).marks
proxy_took proxy message None = tt
proxy_took proxy message (Some call) = took_none _ _ _

delivered : (s : Store) (a : Actor) (message : Message) → length s.sent ≤ 4000000 → Shown (deliver_to s a message)
unfolding proxy_takes
delivered s (to.Replica d) message few =
    let st : (Step replica.State) = replica.step (replica_at s d).state message in
    chosen (replica_at s d).stopped (nothing s) (replica_takes s d message st) (λ _. quiet s s refl few) (λ _. sent (with_replica s d (record { stopped = false; state = st.state })) st.out.posts [] tt)
delivered s to.Directory message few =
    let st : (Step State) = directory_step.step s.directory message in
    sent (record s { directory = st.state }) st.out.posts [] tt
delivered s (to.Proxy p) message few =
    let d : Done Proxy = proxy_takes_as (learned (proxy_at s p) message) message in
    chosen (proxy_at s p).stopped (nothing s) (proxy_did s p d) (λ _. quiet s s refl few)
    (λ _. sent (with_proxy s p d.actor) d.posts d.marks (proxy_took (learned (proxy_at s p) message) message (item_at (learned (proxy_at s p) message).calls (handle_in message))))

given : (s : Store) (p : ℕ) (handle : Handle) (call : LiveCall) → length s.sent ≤ 4000000 → Shown (gives_up s p handle call)
given s p handle call few =
    chosen (may_give_up call) (Ok (record { store = with_proxy s p (record (proxy_at s p) { calls = after_take (proxy_at s p).calls handle }); marks = k.End (tag_of_call call).call r.GivenUp ∷ []; posts = [] })) (Err NoCall)
    (λ _. record { few = few; head = tt }) (λ _. tt)

given_up : (s : Store) (p seq : ℕ) → length s.sent ≤ 4000000 → Shown (give_up s p seq)
given_up s p seq few =
    let at : Outcome = option_map_or (give_up_under s p) (handle_of_call (proxy_at s p).calls seq) (Err NoCall) in
    chosen (not (nat_lt p (length s.proxies))) (Err NoActor) (if (proxy_at s p).stopped then nothing s else at) (λ _. tt)
    (λ _. chosen (proxy_at s p).stopped (nothing s) at (λ _. quiet s s refl few)
    (λ _. mapped (give_up_under s p) (handle_of_call (proxy_at s p).calls seq) (Err NoCall) (λ handle _. mapped (gives_up s p handle) (item_at (proxy_at s p).calls handle) (Err NoCall) (λ call _. given s p handle call few) tt) tt))

no_epoch : (s : Store) (wrong : PublishFault) → length s.sent ≤ 4000000 → set_count s.directory ≤ 64 → IsBelow (set_count s.directory) (Some wrong) → Shown (opens_none s wrong)
no_epoch s (fault.MissingSet set) few sets lt = record { few = few; head = omega (arith, sets, lt) }
no_epoch s (fault.NotQuorum set) few sets lt = record { few = few; head = omega (arith, sets, lt) }
no_epoch s _ few sets lt = quiet s s refl few

published : (s : Store) (events : ℕ) (table : List SetPolicy) → length s.sent ≤ 4000000 → FitsDirectory events s.directory → Shown (publish s table)
published s events table few directory =
    chosen (latest s.directory == 1000) (Err (Limit Epochs 1001)) (judged s table) (λ _. tt)
    (λ _. mapped (opens_none s) (table_fault s.directory table)
    (Ok (record { store = record s { directory = after_publish s.directory table }; marks = k.Epoch (latest s.directory + 1) ∷ []; posts = [] }))
    (λ wrong is. no_epoch s wrong few directory.sets (subst (IsBelow (set_count s.directory)) is (fault_below s.directory table))) (record { few = few; head = tt }))

every_outcome : (s : Store) (events : ℕ) (e : Event) → length s.sent ≤ 4000000 → ((p : ℕ) → FitsProxy events (proxy_at s p)) → FitsDirectory events s.directory → FitsEvent e → Shown (step s e)
unfolding step
every_outcome s events (Start p key work) few proxy directory f = starting s events p key work few (proxy p) directory f
every_outcome s events (Deliver n) few proxy directory f = mapped (λ (post : Post). deliver_to s post.to post.message) (slice_get s.sent n) (Err (NoMessage (length s.sent))) (λ post _. delivered s post.to post.message few) tt
every_outcome s events (StopReplica d) few proxy directory f =
    let z : Store = with_replica s d (record { stopped = true; state = (replica_at s d).state }) in
    chosen (not (nat_lt d (length s.replicas))) (Err NoActor) (nothing z) (λ _. tt) (λ _. quiet s z refl few)
every_outcome s events (StopProxy p) few proxy directory f =
    let z : Store = with_proxy s p (record (proxy_at s p) { stopped = true }) in
    chosen (not (nat_lt p (length s.proxies))) (Err NoActor) (nothing z) (λ _. tt) (λ _. quiet s z refl few)
every_outcome s events (GiveUp p seq) few proxy directory f = given_up s p seq few
every_outcome s events (Publish table) few proxy directory f = published s events table few directory

pub shows_well : (s : Store) (events : ℕ) (e : Event) (h : Happening) → step s e ≡ Ok h → length s.sent ≤ 4000000 → ((p : ℕ) → FitsProxy events (proxy_at s p)) → FitsDirectory events s.directory → FitsEvent e → ShowsWell h
shows_well s events e h is few proxy directory f = subst Shown is (every_outcome s events e few proxy directory f)

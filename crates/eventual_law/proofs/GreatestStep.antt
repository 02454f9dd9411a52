-- Every event keeps it that a replica keeps its greatest push of an eventual key.
use Rattle.std.proofs.Common.{◌≡◌, inl, inr, ℕ, ◌<◌, Bool, true, false, List, [], ◌∷◌, ◌++◌, refl, sym, ap, subst}
use Rattle.std.specs.Prelude.{◌+◌, ◌==◌, ◌&&◌, not, nat_lt, if◌then◌else◌, length, Option, Some, None, Ok, Err, slice_get}
use Rattle.std.specs.Option.{option_map_or}
use Rattle.std.proofs.lemmas.Bool.{eqb-true, eq-eqb, ltb-true, ltb-false}
use Rattle.std.proofs.lemmas.List.{get_or-set_same, get_or_past}
use Rattle.std.proofs.lemmas.Option.{slice_get_within, get_or_from_slice_get}
use Rattle.span_base.specs.declared.ids.KeyId.{KeyId}
use Rattle.span_base.specs.declared.words.What.TheVariants.{Messages, FrameBytes, Epochs}
use Rattle.wire_msg.specs.declared.actor.Actor.{Actor}
use Rattle.wire_msg.specs.declared.actor.Actor.TheVariants as to
use Rattle.wire_msg.specs.declared.message.Message.{Message}
use Rattle.wire_msg.specs.declared.outputs.Post.{Post}
use Rattle.wire_msg.specs.Outputs.{Step}
use Rattle.wire_msg.specs.Sizes.{bulk_of}
use Rattle.run_marks.specs.declared.mark.Work.{Work}
use Rattle.run_marks.specs.declared.mark.Mark.{Mark}
use Rattle.run_marks.specs.declared.mark.Mark.TheVariants as k
use Rattle.call_phase.specs.declared.best.Found.{Found}
use Rattle.replica_core.specs.Rule as replica
use Rattle.epoch_directory.specs.declared.table.SetPolicy.{SetPolicy}
use Rattle.epoch_directory.specs.declared.table.PublishFault.{PublishFault}
use Rattle.epoch_directory.specs.declared.table.PublishFault.TheVariants as fault
use Rattle.epoch_directory.specs.State as directory
use Rattle.epoch_directory.specs.State.{latest}
use Rattle.epoch_directory.specs.Step as directory_step
use Rattle.epoch_directory.specs.Tables.{after_publish, table_fault}
use Rattle.slot_pool.specs.Slots.{item_at}
use Rattle.world_core.specs.declared.event.Event.{Event}
use Rattle.world_core.specs.declared.event.Event.TheVariants.{Start, Deliver, StopReplica, StopProxy, GiveUp, Publish}
use Rattle.world_core.specs.declared.event.StepFault.{StepFault}
use Rattle.world_core.specs.declared.event.StepFault.TheVariants.{NoActor, NoKey, WrongMode, NoMessage, NoCall, Limit}
use Rattle.world_core.specs.State.{Store, Replica, Proxy, no_replica, replica_at, proxy_at, kept_of}
use Rattle.world_core.specs.Starting.{Done, starts}
use Rattle.world_core.specs.Step.{Outcome, nothing, sends, with_sent, with_proxy, with_replica, proxy_did, is_strong_key, fits_mode, start_at, start, replica_takes, proxy_takes, deliver_to, handle_of_call, may_give_up, gives_up, give_up_under, give_up, opens_none, judged, publish, step, message_limit, byte_limit}
use Rattle.register_law.specs.Seen.{WasSent}
use Rattle.register_law.proofs.Kept.{set_cases}
use Rattle.eventual_law.specs.Pushes.{pushed_by, pushed_to, pushed_in}
use Rattle.eventual_law.specs.Kinds.{KeyIsEventual}
use Rattle.eventual_law.proofs.Greatest.{KeepsGreatest, none_more, taken_greatest}

-- what an event makes of a state, unless it is refused
abbrev pub Makes : (Store → Type 0) → Outcome → Type 0
Makes P (Ok h) = P h.store
Makes P (Err fault) = Unit {0}

pub either_makes : (P : Store → Type 0) (b : Bool) (one other : Outcome) → (b ≡ true → Makes P one) → (b ≡ false → Makes P other) → Makes P (if b then one else other)
either_makes P true one other f g = f refl
either_makes P false one other f g = g refl

pub makes_or : {X : Type 0} → (P : Store → Type 0) (f : X → Outcome) (o : Option X) (fault : StepFault) → ((x : X) → o ≡ Some x → Makes P (f x)) → Makes P (option_map_or f o (Err fault))
makes_or {X} P f None fault all = tt
makes_or {X} P f (Some x) fault all = all x refl

pub sends_makes : (P : Store → Type 0) (s : Store) (posts : List Post) (marks : List Mark) → P (with_sent s posts marks).store → Makes P (sends s posts marks)
sends_makes P s posts marks h =
    either_makes P (nat_lt message_limit (length s.sent + length posts)) (Err (Limit Messages (length s.sent + length posts)))
    (if nat_lt byte_limit ((bulk_of s.sent).bytes + (bulk_of posts).bytes) then Err (Limit FrameBytes ((bulk_of s.sent).bytes + (bulk_of posts).bytes)) else Ok (with_sent s posts marks)) (λ _. tt)
    (λ _. either_makes P (nat_lt byte_limit ((bulk_of s.sent).bytes + (bulk_of posts).bytes)) (Err (Limit FrameBytes ((bulk_of s.sent).bytes + (bulk_of posts).bytes))) (Ok (with_sent s posts marks)) (λ _. tt) (λ _. h))

-- what the replica keeps of the key is its greatest push
abbrev pub Greatest : KeyId → ℕ → List Found → Store → Type 0
Greatest key d all s = KeepsGreatest all (kept_of s d key)

start_makes : (key : KeyId) (d : ℕ) (all : List Found) (s : Store) (p at : ℕ) (work : Work) → Greatest key d all s → Makes (Greatest key d all) (start s p at work)
start_makes key d all s p at work h =
    let on : KeyId = record { 0 = at } in
    let done : Done Proxy = starts (is_strong_key s on) p (proxy_at s p) on work in
    let last : Outcome = proxy_did s p done in
    let mode : Outcome = if not (fits_mode (is_strong_key s on) work) then Err WrongMode else last in
    let whole : Outcome = start_at s p on work in
    either_makes (Greatest key d all) (not (nat_lt p (length s.proxies))) (Err NoActor) (if (proxy_at s p).stopped then nothing s else whole) (λ _. tt)
    (λ _. either_makes (Greatest key d all) (proxy_at s p).stopped (nothing s) whole (λ _. h)
    (λ _. either_makes (Greatest key d all) (not (nat_lt at (length s.directory.sets))) (Err NoKey) mode (λ _. tt)
    (λ _. either_makes (Greatest key d all) (not (fits_mode (is_strong_key s on) work)) (Err WrongMode) last (λ _. tt)
    (λ _. sends_makes (Greatest key d all) (with_proxy s p done.actor) done.posts done.marks h))))

-- of a replica's place that was changed
place_makes : (key : KeyId) (d at : ℕ) (all : List Found) (s : Store) (new : Replica) → Greatest key d all s → (d ≡ at → KeepsGreatest all (replica.kept_at new.state key)) → Greatest key d all (with_replica s at new)
place_makes key d at all s new h f =
    elim (set_cases s.replicas at d new no_replica) as (λ _. Greatest key d all (with_replica s at new)) [
      | inl e ↦ subst (λ (x : Replica). KeepsGreatest all (replica.kept_at x.state key)) (sym e) h
      | inr e ↦ subst (λ (x : Replica). KeepsGreatest all (replica.kept_at x.state key)) (sym e.1) (f e.0)
    ]

-- a replica that runs is there
pub runs_there : (s : Store) (d : ℕ) → (replica_at s d).stopped ≡ false → d < length s.replicas
runs_there s d runs = by (nat_lt d (length s.replicas)) refl
  where
    by : (b : Bool) → nat_lt d (length s.replicas) ≡ b → d < length s.replicas
    by true is = ltb-true d (length s.replicas) is
    by false is =
        let none = get_or_past s.replicas d no_replica (ltb-false d (length s.replicas) is) in
        let stopped : (replica_at s d).stopped ≡ true = ap (λ (x : Replica). x.stopped) none in
        absurd (cc)

-- the replica's own step
own_step : (key : KeyId) (d : ℕ) (all : List Found) (s : Store) (message : Message) → KeyIsEventual key s → WasSent s message → (replica_at s d).stopped ≡ false → Greatest key d all s
    → Greatest key d (all ++ pushed_by key (kept_of s d key) message) (with_replica s d (record { stopped = false; state = (replica.step (replica_at s d).state message).state }))
own_step key d all s message k sent runs h =
    let new : Replica = record { stopped = false; state = (replica.step (replica_at s d).state message).state } in
    let lt = runs_there s d runs in
    subst (λ (x : Replica). KeepsGreatest (all ++ pushed_by key (kept_of s d key) message) (replica.kept_at x.state key)) (sym (get_or-set_same s.replicas d new no_replica lt))
    (taken_greatest key (replica_at s d).state message all (k.seats d lt).holds (k.sent_kinds message sent) h)

-- a message to this replica, or to another one
to_replica : (key : KeyId) (d at : ℕ) (all : List Found) (s : Store) (message : Message) → KeyIsEventual key s → WasSent s message → Greatest key d all s → (b : Bool) → (at == d) ≡ b → (stopped : Bool) → (replica_at s at).stopped ≡ stopped
    → Makes (Greatest key d (all ++ pushed_to key d s (to.Replica at) message)) (if stopped then nothing s else replica_takes s at message (replica.step (replica_at s at).state message))
to_replica key d at all s message k sent h true is stopped runs =
    subst (λ n. Makes (Greatest key d (all ++ (if (n == d) && not (replica_at s d).stopped then pushed_by key (kept_of s d key) message else []))) (if stopped then nothing s else replica_takes s n message (replica.step (replica_at s n).state message))) (sym same)
    (by stopped (subst (λ n. (replica_at s n).stopped ≡ stopped) same runs))
  where
    same : at ≡ d
    same = eqb-true at d is

    itself : (d == d) ≡ true
    itself = eq-eqb d d refl

    by : (b : Bool) → (replica_at s d).stopped ≡ b
        → Makes (Greatest key d (all ++ (if (d == d) && not (replica_at s d).stopped then pushed_by key (kept_of s d key) message else []))) (if b then nothing s else replica_takes s d message (replica.step (replica_at s d).state message))
    by true rest = rw (itself, rest) (none_more all (kept_of s d key) h)
    by false rest =
        let st : Step replica.State = replica.step (replica_at s d).state message in
        rw (itself, rest) (sends_makes (Greatest key d (all ++ pushed_by key (kept_of s d key) message)) (with_replica s d (record { stopped = false; state = st.state })) st.out.posts [] (own_step key d all s message k sent rest h))
to_replica key d at all s message k sent h false is stopped runs =
    subst (λ (x : Bool). Makes (Greatest key d (all ++ (if x && not (replica_at s d).stopped then pushed_by key (kept_of s d key) message else []))) (if stopped then nothing s else replica_takes s at message (replica.step (replica_at s at).state message))) (sym is)
    (by stopped)
  where
    by : (b : Bool) → Makes (Greatest key d (all ++ [])) (if b then nothing s else replica_takes s at message (replica.step (replica_at s at).state message))
    by true = none_more all (kept_of s d key) h
    by false =
        let st : Step replica.State = replica.step (replica_at s at).state message in
        let new : Replica = record { stopped = false; state = st.state } in
        sends_makes (Greatest key d (all ++ [])) (with_replica s at new) st.out.posts []
        (place_makes key d at (all ++ []) s new (none_more all (kept_of s d key) h) (λ e. absurd (let z = eq-eqb at d (sym e) in cc)))

delivered_makes : (key : KeyId) (d : ℕ) (all : List Found) (s : Store) (a : Actor) (message : Message) → KeyIsEventual key s → WasSent s message → Greatest key d all s
    → Makes (Greatest key d (all ++ pushed_to key d s a message)) (deliver_to s a message)
delivered_makes key d all s (to.Replica at) message k sent h = to_replica key d at all s message k sent h (at == d) refl (replica_at s at).stopped refl
delivered_makes key d all s to.Directory message k sent h =
    let st : Step directory.State = directory_step.step s.directory message in
    sends_makes (Greatest key d (all ++ [])) (record s { directory = st.state }) st.out.posts [] (none_more all (kept_of s d key) h)
delivered_makes key d all s (to.Proxy p) message k sent h =
    let done : Done Proxy = proxy_takes (proxy_at s p) message in
    either_makes (Greatest key d (all ++ [])) (proxy_at s p).stopped (nothing s) (proxy_did s p done) (λ _. none_more all (kept_of s d key) h)
    (λ _. sends_makes (Greatest key d (all ++ [])) (with_proxy s p done.actor) done.posts done.marks (none_more all (kept_of s d key) h))

delivers : (key : KeyId) (d : ℕ) (all : List Found) (s : Store) (n : ℕ) (o : Option Post) → slice_get s.sent n ≡ o → KeyIsEventual key s → Greatest key d all s
    → Makes (Greatest key d (all ++ option_map_or (λ post. pushed_to key d s post.to post.message) o [])) (option_map_or (λ post. deliver_to s post.to post.message) o (Err (NoMessage (length s.sent))))
delivers key d all s n None is k h = tt
delivers key d all s n (Some post) is k h = delivered_makes key d all s post.to post.message k (post.to, (n, slice_get_within s.sent n post is, get_or_from_slice_get s.sent n post post is)) h

give_up_makes : (key : KeyId) (d : ℕ) (all : List Found) (s : Store) (p seq : ℕ) → Greatest key d all s → Makes (Greatest key d all) (give_up s p seq)
give_up_makes key d all s p seq h =
    let last : Outcome = option_map_or (give_up_under s p) (handle_of_call (proxy_at s p).calls seq) (Err NoCall) in
    either_makes (Greatest key d all) (not (nat_lt p (length s.proxies))) (Err NoActor) (if (proxy_at s p).stopped then nothing s else last) (λ _. tt)
    (λ _. either_makes (Greatest key d all) (proxy_at s p).stopped (nothing s) last (λ _. h)
    (λ _. makes_or (Greatest key d all) (give_up_under s p) (handle_of_call (proxy_at s p).calls seq) NoCall
    (λ handle _. makes_or (Greatest key d all) (gives_up s p handle) (item_at (proxy_at s p).calls handle) NoCall
    (λ call _. either_makes (Greatest key d all) (may_give_up call) _ (Err NoCall) (λ _. h) (λ _. tt)))))

no_epoch_makes : (key : KeyId) (d : ℕ) (all : List Found) (s : Store) (wrong : PublishFault) → Greatest key d all s → Makes (Greatest key d all) (opens_none s wrong)
no_epoch_makes key d all s (fault.MissingSet set) h = h
no_epoch_makes key d all s (fault.NotQuorum set) h = h
no_epoch_makes key d all s _ h = h

publish_makes : (key : KeyId) (d : ℕ) (all : List Found) (s : Store) (table : List SetPolicy) → Greatest key d all s → Makes (Greatest key d all) (publish s table)
publish_makes key d all s table h =
    either_makes (Greatest key d all) (latest s.directory == 1000) (Err (Limit Epochs 1001)) (judged s table) (λ _. tt) (λ _. by (table_fault s.directory table))
  where
    by : (o : Option PublishFault) → Makes (Greatest key d all)
        (option_map_or (opens_none s) o (Ok (record { store = record s { directory = after_publish s.directory table }; marks = k.Epoch (latest s.directory + 1) ∷ []; posts = [] })))
    by None = h
    by (Some wrong) = no_epoch_makes key d all s wrong h

-- whatever the event
pub event_makes : (key : KeyId) (d : ℕ) (all : List Found) (s : Store) (e : Event) → KeyIsEventual key s → Greatest key d all s → Makes (Greatest key d (all ++ pushed_in key d s e)) (step s e)
unfolding step
event_makes key d all s (Start p at work) k h = start_makes key d (all ++ []) s p at work (none_more all (kept_of s d key) h)
event_makes key d all s (Deliver n) k h = delivers key d all s n (slice_get s.sent n) refl k h
event_makes key d all s (StopReplica at) k h =
    let new : Replica = record { stopped = true; state = (replica_at s at).state } in
    either_makes (Greatest key d (all ++ [])) (not (nat_lt at (length s.replicas))) (Err NoActor) (nothing (with_replica s at new)) (λ _. tt)
    (λ _. place_makes key d at (all ++ []) s new (none_more all (kept_of s d key) h) (λ e. subst (λ n. KeepsGreatest (all ++ []) (kept_of s n key)) e (none_more all (kept_of s d key) h)))
event_makes key d all s (StopProxy p) k h =
    either_makes (Greatest key d (all ++ [])) (not (nat_lt p (length s.proxies))) (Err NoActor) (nothing (with_proxy s p (record (proxy_at s p) { stopped = true }))) (λ _. tt) (λ _. none_more all (kept_of s d key) h)
event_makes key d all s (GiveUp p seq) k h = give_up_makes key d (all ++ []) s p seq (none_more all (kept_of s d key) h)
event_makes key d all s (Publish table) k h = publish_makes key d (all ++ []) s table (none_more all (kept_of s d key) h)

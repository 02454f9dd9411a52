-- What an event sends comes behind the messages that were sent before it.
use Rattle.std.proofs.Common.{◌≡◌, ℕ, ◌+◌, Bool, true, false, List, [], ◌∷◌, ◌++◌, refl, sym, subst}
use Rattle.std.specs.Prelude.{nat_lt, not, ◌==◌, if◌then◌else◌, length, Option, Some, None, slice_get, Ok, Err}
use Rattle.std.specs.Option.{option_map_or}
use Rattle.std.proofs.lemmas.List.{append-nil}
use Rattle.span_base.specs.declared.ids.KeyId.{KeyId}
use Rattle.span_base.specs.declared.words.What.TheVariants.{Messages, FrameBytes, Epochs}
use Rattle.wire_msg.specs.declared.actor.Actor.{Actor}
use Rattle.wire_msg.specs.declared.actor.Actor.TheVariants as to
use Rattle.wire_msg.specs.declared.message.Message.{Message}
use Rattle.wire_msg.specs.declared.outputs.Post.{Post}
use Rattle.wire_msg.specs.declared.outputs.Reply.TheVariants as r
use Rattle.wire_msg.specs.Sizes.{bulk_of}
use Rattle.wire_msg.specs.Outputs.{Step}
use Rattle.slot_pool.specs.declared.handles.Handle.{Handle}
use Rattle.slot_pool.specs.Slots.{item_at, after_take}
use Rattle.replica_core.specs.Rule as replica
use Rattle.epoch_directory.specs.declared.table.PublishFault.{PublishFault}
use Rattle.epoch_directory.specs.declared.table.PublishFault.TheVariants as fault
use Rattle.epoch_directory.specs.declared.table.SetPolicy.{SetPolicy}
use Rattle.epoch_directory.specs.State.{State, latest}
use Rattle.epoch_directory.specs.Tables.{after_publish, table_fault}
use Rattle.epoch_directory.specs.Step as directory_step
use Rattle.run_marks.specs.declared.mark.Work.{Work}
use Rattle.run_marks.specs.declared.mark.Mark.{Mark}
use Rattle.run_marks.specs.declared.mark.Mark.TheVariants as k
use Rattle.run_marks.specs.declared.mark.NoEpochCause.TheVariants as cause
use Rattle.world_core.specs.declared.live.LiveCall.{LiveCall}
use Rattle.world_core.specs.declared.event.Event.{Event}
use Rattle.world_core.specs.declared.event.Event.TheVariants.{Start, Deliver, StopReplica, StopProxy, GiveUp, Publish}
use Rattle.world_core.specs.declared.event.StepFault.{StepFault}
use Rattle.world_core.specs.declared.event.StepFault.TheVariants.{NoActor, NoKey, WrongMode, NoMessage, NoCall, Limit}
use Rattle.world_core.specs.State.{Store, Proxy, replica_at, proxy_at}
use Rattle.world_core.specs.Calls.{tag_of_call}
use Rattle.world_core.specs.Starting.{Done, starts}
use Rattle.world_core.specs.Step.{Happening, Outcome, nothing, sends, with_sent, with_proxy, with_replica, proxy_did, is_strong_key, fits_mode, start_at, start, replica_takes, proxy_takes, deliver_to, handle_of_call, may_give_up, gives_up, give_up_under, give_up, opens_none, judged, step, message_limit, byte_limit}

-- the posts of a happening come behind those sent before
abbrev Grows : Store → Happening → Type 0
Grows s h = h.store.sent ≡ s.sent ++ h.posts

choose : (h : Happening) (X : Type 0) (b : Bool) (one other : Outcome) → (one ≡ Ok h → X) → (other ≡ Ok h → X) → (if b then one else other) ≡ Ok h → X
choose h X true one other f g e = f e
choose h X false one other f g e = g e

as_outcome : Happening → Outcome
as_outcome g = Ok g

refused : (h : Happening) (X : Type 0) (fault : StepFault) (o : Outcome) → o ≡ Err fault → o ≡ Ok h → X
refused h X fault o is e = absurd (cc)

ok_is : (g h : Happening) (o : Outcome) → o ≡ Ok g → o ≡ Ok h → h ≡ g
ok_is g h o is e = cc

same : (s : Store) (g h : Happening) → Grows s g → h ≡ g → Grows s h
same s g h grows e = subst (Grows s) (sym e) grows

sends_is : (s : Store) (posts : List Post) (marks : List Mark) (h : Happening) → sends s posts marks ≡ Ok h → h ≡ with_sent s posts marks
sends_is s posts marks h e =
    let bytes : Outcome = if nat_lt byte_limit ((bulk_of s.sent).bytes + (bulk_of posts).bytes) then Err (Limit FrameBytes ((bulk_of s.sent).bytes + (bulk_of posts).bytes)) else Ok (with_sent s posts marks) in
    choose h (h ≡ with_sent s posts marks) (nat_lt message_limit (length s.sent + length posts)) (Err (Limit Messages (length s.sent + length posts))) bytes
    (λ z. refused h (h ≡ with_sent s posts marks) (Limit Messages (length s.sent + length posts)) (Err (Limit Messages (length s.sent + length posts))) refl z)
    (λ z. choose h (h ≡ with_sent s posts marks) (nat_lt byte_limit ((bulk_of s.sent).bytes + (bulk_of posts).bytes)) (Err (Limit FrameBytes ((bulk_of s.sent).bytes + (bulk_of posts).bytes))) (Ok (with_sent s posts marks))
    (λ y. refused h (h ≡ with_sent s posts marks) (Limit FrameBytes ((bulk_of s.sent).bytes + (bulk_of posts).bytes)) (Err (Limit FrameBytes ((bulk_of s.sent).bytes + (bulk_of posts).bytes))) refl y)
    (λ y. ok_is (with_sent s posts marks) h (Ok (with_sent s posts marks)) refl y) z) e

idle : (s : Store) (h : Happening) → nothing s ≡ Ok h → Grows s h
idle s h e =
    let g : Happening = record { store = s; marks = []; posts = [] } in
    same s g h (sym (append-nil s.sent)) (ok_is g h (nothing s) refl e)

did : (s : Store) (p : ℕ) (d : Done Proxy) (h : Happening) → proxy_did s p d ≡ Ok h → Grows s h
did s p d h e = same s (with_sent (with_proxy s p d.actor) d.posts d.marks) h refl (sends_is (with_proxy s p d.actor) d.posts d.marks h e)

started_at : (s : Store) (p : ℕ) (key : KeyId) (work : Work) (h : Happening) → start_at s p key work ≡ Ok h → Grows s h
started_at s p key work h e =
    let d : Done Proxy = starts (is_strong_key s key) p (proxy_at s p) key work in
    let last : Outcome = proxy_did s p d in
    let mode : Outcome = if not (fits_mode (is_strong_key s key) work) then Err WrongMode else last in
    choose h (Grows s h) (not (nat_lt key.0 (length s.directory.sets))) (Err NoKey) mode (λ z. refused h (Grows s h) NoKey (Err NoKey) refl z)
    (λ z. choose h (Grows s h) (not (fits_mode (is_strong_key s key) work)) (Err WrongMode) last (λ y. refused h (Grows s h) WrongMode (Err WrongMode) refl y)
    (λ y. did s p d h y) z) e

starting : (s : Store) (p key : ℕ) (work : Work) (h : Happening) → start s p key work ≡ Ok h → Grows s h
starting s p key work h e =
    let at : KeyId = record { 0 = key } in
    let last : Outcome = if (proxy_at s p).stopped then nothing s else start_at s p at work in
    choose h (Grows s h) (not (nat_lt p (length s.proxies))) (Err NoActor) last (λ z. refused h (Grows s h) NoActor (Err NoActor) refl z)
    (λ z. choose h (Grows s h) (proxy_at s p).stopped (nothing s) (start_at s p at work) (λ y. idle s h y) (λ y. started_at s p at work h y) z) e

delivered_to : (s : Store) (a : Actor) (message : Message) (h : Happening) → deliver_to s a message ≡ Ok h → Grows s h
delivered_to s (to.Replica d) message h e =
    let st : (Step replica.State) = replica.step (replica_at s d).state message in
    let t : Store = with_replica s d (record { stopped = false; state = st.state }) in
    choose h (Grows s h) (replica_at s d).stopped (nothing s) (replica_takes s d message st) (λ y. idle s h y)
    (λ y. same s (with_sent t st.out.posts []) h refl (sends_is t st.out.posts [] h y)) e
delivered_to s to.Directory message h e =
    let st : (Step State) = directory_step.step s.directory message in
    let t : Store = record s { directory = st.state } in
    same s (with_sent t st.out.posts []) h refl (sends_is t st.out.posts [] h e)
delivered_to s (to.Proxy p) message h e =
    let d : Done Proxy = proxy_takes (proxy_at s p) message in
    choose h (Grows s h) (proxy_at s p).stopped (nothing s) (proxy_did s p d) (λ y. idle s h y) (λ y. did s p d h y) e

delivering : (s : Store) (h : Happening) (o : Option Post) → option_map_or (λ (post : Post). deliver_to s post.to post.message) o (Err (NoMessage (length s.sent))) ≡ Ok h → Grows s h
delivering s h None e = refused h (Grows s h) (NoMessage (length s.sent)) (Err (NoMessage (length s.sent))) refl e
delivering s h (Some post) e = delivered_to s post.to post.message h e

giving : (s : Store) (p : ℕ) (handle : Handle) (h : Happening) (o : Option LiveCall) → option_map_or (gives_up s p handle) o (Err NoCall) ≡ Ok h → Grows s h
giving s p handle h None e = refused h (Grows s h) NoCall (Err NoCall) refl e
giving s p handle h (Some call) e =
    let g : Happening = record { store = with_proxy s p (record (proxy_at s p) { calls = after_take (proxy_at s p).calls handle }); marks = k.End (tag_of_call call).call r.GivenUp ∷ []; posts = [] } in
    choose h (Grows s h) (may_give_up call) (Ok g) (Err NoCall) (λ y. same s g h (sym (append-nil s.sent)) (ok_is g h (Ok g) refl y)) (λ y. refused h (Grows s h) NoCall (Err NoCall) refl y) e

giving_at : (s : Store) (p : ℕ) (h : Happening) (o : Option Handle) → option_map_or (give_up_under s p) o (Err NoCall) ≡ Ok h → Grows s h
giving_at s p h None e = refused h (Grows s h) NoCall (Err NoCall) refl e
giving_at s p h (Some handle) e = giving s p handle h (item_at (proxy_at s p).calls handle) e

giving_up : (s : Store) (p seq : ℕ) (h : Happening) → give_up s p seq ≡ Ok h → Grows s h
giving_up s p seq h e =
    let at : Outcome = option_map_or (give_up_under s p) (handle_of_call (proxy_at s p).calls seq) (Err NoCall) in
    let last : Outcome = if (proxy_at s p).stopped then nothing s else at in
    choose h (Grows s h) (not (nat_lt p (length s.proxies))) (Err NoActor) last (λ z. refused h (Grows s h) NoActor (Err NoActor) refl z)
    (λ z. choose h (Grows s h) (proxy_at s p).stopped (nothing s) at (λ y. idle s h y) (λ y. giving_at s p h (handle_of_call (proxy_at s p).calls seq) y) z) e

no_epoch : (s : Store) (h : Happening) (wrong : PublishFault) → opens_none s wrong ≡ Ok h → Grows s h
no_epoch s h (fault.MissingSet set) e = let g : Happening = record { store = s; marks = k.NoEpoch (cause.MissingSet set) ∷ []; posts = [] } in same s g h (sym (append-nil s.sent)) (ok_is g h (Ok g) refl e)
no_epoch s h (fault.NotQuorum set) e = let g : Happening = record { store = s; marks = k.NoEpoch (cause.NotQuorum set) ∷ []; posts = [] } in same s g h (sym (append-nil s.sent)) (ok_is g h (Ok g) refl e)
no_epoch s h _ e = idle s h e

judging : (s : Store) (table : List SetPolicy) (h : Happening) (o : Option PublishFault)
    → option_map_or (opens_none s) o (as_outcome (record { store = record s { directory = after_publish s.directory table }; marks = k.Epoch (latest s.directory + 1) ∷ []; posts = [] })) ≡ Ok h → Grows s h
unfolding as_outcome
judging s table h None e =
    let g : Happening = record { store = record s { directory = after_publish s.directory table }; marks = k.Epoch (latest s.directory + 1) ∷ []; posts = [] } in
    same s g h (sym (append-nil s.sent)) (ok_is g h (Ok g) refl e)
judging s table h (Some wrong) e = no_epoch s h wrong e

pub grows : (s : Store) (event : Event) (h : Happening) → step s event ≡ Ok h → Grows s h
unfolding step as_outcome
grows s (Start p key work) h e = starting s p key work h e
grows s (Deliver n) h e = delivering s h (slice_get s.sent n) e
grows s (StopReplica d) h e =
    let t : Store = with_replica s d (record { stopped = true; state = (replica_at s d).state }) in
    let g : Happening = record { store = t; marks = []; posts = [] } in
    choose h (Grows s h) (not (nat_lt d (length s.replicas))) (Err NoActor) (nothing t) (λ y. refused h (Grows s h) NoActor (Err NoActor) refl y) (λ y. same s g h (sym (append-nil s.sent)) (ok_is g h (nothing t) refl y)) e
grows s (StopProxy p) h e =
    let t : Store = with_proxy s p (record (proxy_at s p) { stopped = true }) in
    let g : Happening = record { store = t; marks = []; posts = [] } in
    choose h (Grows s h) (not (nat_lt p (length s.proxies))) (Err NoActor) (nothing t) (λ y. refused h (Grows s h) NoActor (Err NoActor) refl y) (λ y. same s g h (sym (append-nil s.sent)) (ok_is g h (nothing t) refl y)) e
grows s (GiveUp p seq) h e = giving_up s p seq h e
grows s (Publish table) h e =
    choose h (Grows s h) (latest s.directory == 1000) (Err (Limit Epochs 1001)) (judged s table) (λ y. refused h (Grows s h) (Limit Epochs 1001) (Err (Limit Epochs 1001)) refl y) (λ y. judging s table h (table_fault s.directory table) y) e

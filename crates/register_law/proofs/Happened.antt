-- What an event that is taken was: the one place that opens the step.
use Rattle.std.proofs.Common.{◌≡◌, ℕ, ◌+◌, ◌<◌, Bool, true, false, List, [], ◌∷◌, refl, ap, ◌∙◌, nat_lt, not, ◌&&◌, ◌==◌, if◌then◌else◌, length, Option, Some, None, slice_get, Ok, Err, Contains}
use Rattle.std.specs.Option.{option_map_or}
use Rattle.register_law.proofs.Words.{Call, KeyId, Epochs, Step, bulk_of, Actor, Message, Post, Reply, View, State, latest, after_publish, table_fault, PublishFault, SetPolicy, after_take, item_at, next_handle, Handle, is_dead, Mark, Work, Taken, tag_of_call, learned, Done, draws_ticket, ends_at_once, enters, enters_with, first_tag, is_member, opened_call, starts, starts_as, starts_in, ticket_of, Proxy, Store, proxy_at, replica_at, view_at, Happening, Outcome, byte_limit, call_takes, deliver_to, fits_mode, give_up, give_up_under, gives_up, handle_in, handle_of_call, is_strong_key, judged, may_give_up, message_limit, nothing, only_learns, opens_none, proxy_did, proxy_takes, proxy_takes_as, replica_takes, sends, start, start_at, step, with_proxy, with_replica, Event, Deliver, GiveUp, Publish, Start, StopProxy, StopReplica, Limit, NoActor, NoCall, NoKey, NoMessage, WrongMode, LiveCall, Happened, call_took, did, directory_took, gave_up, ignored, next_call, not_published, proxy_learned, proxy_stopped, published, quietly, refused_at_once, replica_stopped, replica_took, started, slice_get_within, get_or_from_slice_get}
use Rattle.wire_msg.specs.declared.actor.Actor.TheVariants as to
use Rattle.wire_msg.specs.declared.outputs.Reply.TheVariants as r
use Rattle.replica_core.specs.Rule as replica
use Rattle.epoch_directory.specs.declared.table.PublishFault.TheVariants as fault
use Rattle.epoch_directory.specs.Step as directory_step
use Rattle.run_marks.specs.declared.mark.Mark.TheVariants as k
use Rattle.run_marks.specs.declared.mark.NoEpochCause.TheVariants as cause
use Rattle.world_core.specs.declared.event.StepFault.{StepFault}
use Rattle.world_core.specs.Step.{with_sent}
use Rattle.register_law.proofs.Basics.{within_is, not_false}

choose : (h : Happening) (X : Type 0) (b : Bool) (one other : Outcome) → (b ≡ true → one ≡ Ok h → X) → (b ≡ false → other ≡ Ok h → X) → (if b then one else other) ≡ Ok h → X
choose h X true one other f g e = f refl e
choose h X false one other f g e = g refl e

as_outcome : Happening → Outcome
as_outcome g = Ok g

-- a test that refuses said no
unless : (h : Happening) (X : Type 0) (b : Bool) (fault : StepFault) (other : Outcome) → (b ≡ false → other ≡ Ok h → X) → (if b then Err fault else other) ≡ Ok h → X
unless h X true fault other g e = absurd (cc)
unless h X false fault other g e = g refl e

ok_is : (g h : Happening) → (let o : Outcome = Ok g in o) ≡ Ok h → h ≡ g
ok_is g h e = cc

-- what was sent passed the limits
pub sends_is : (s : Store) (posts : List Post) (marks : List Mark) (h : Happening) → sends s posts marks ≡ Ok h → h ≡ with_sent s posts marks
sends_is s posts marks h e =
    unless h (h ≡ with_sent s posts marks) (nat_lt message_limit (length s.sent + length posts)) _ _
    (λ _ k. unless h (h ≡ with_sent s posts marks) (nat_lt byte_limit ((bulk_of s.sent).bytes + (bulk_of posts).bytes)) _ (Ok (with_sent s posts marks)) (λ _ z. ok_is (with_sent s posts marks) h z) k) e

-- how a call begins
pub data Begins (strong : Bool) (proxy : Proxy) (call : Call) (key : KeyId) (work : Work) (view : View) (d : Done Proxy) : Type 0 where
  at_once : (reply : Reply) → is_dead reply ≡ true → d ≡ ends_at_once proxy call key work reply → Begins strong proxy call key work view d
  lives : (handle : Handle) (taken : Taken) → next_handle proxy.calls ≡ Some handle → opened_call strong (first_tag call handle) proxy.at view (ticket_of proxy view call) work ≡ Some taken
      → d ≡ enters proxy call handle key work (ticket_of proxy view call) taken → Begins strong proxy call key work view d

entering : (strong : Bool) (proxy : Proxy) (call : Call) (key : KeyId) (work : Work) (view : View) (handle : Handle) (o : Option Taken) → next_handle proxy.calls ≡ Some handle
    → opened_call strong (first_tag call handle) proxy.at view (ticket_of proxy view call) work ≡ o
    → Begins strong proxy call key work view (option_map_or (enters proxy call handle key work (ticket_of proxy view call)) o (ends_at_once proxy call key work r.Outside))
entering strong proxy call key work view handle None free is = at_once r.Outside refl refl
entering strong proxy call key work view handle (Some taken) free is = lives handle taken free is refl

chosen : (strong : Bool) (proxy : Proxy) (call : Call) (key : KeyId) (work : Work) (view : View) (b : Bool) (one other : Done Proxy)
    → Begins strong proxy call key work view one → Begins strong proxy call key work view other → Begins strong proxy call key work view (if b then one else other)
chosen strong proxy call key work view true one other f g = f
chosen strong proxy call key work view false one other f g = g

in_slot : (strong : Bool) (proxy : Proxy) (call : Call) (key : KeyId) (work : Work) (view : View) (o : Option Handle) → next_handle proxy.calls ≡ o
    → Begins strong proxy call key work view (option_map_or (starts_in strong proxy call key work view) o (ends_at_once proxy call key work r.Full))
in_slot strong proxy call key work view None is = at_once r.Full refl refl
in_slot strong proxy call key work view (Some handle) is =
    chosen strong proxy call key work view (draws_ticket work && (proxy.seen == 18446744073709551615)) (ends_at_once proxy call key work r.NumbersOut) (enters_with strong proxy call key work view handle)
    (at_once r.NumbersOut refl refl) (entering strong proxy call key work view handle (opened_call strong (first_tag call handle) proxy.at view (ticket_of proxy view call) work) is refl)

pub begins : (strong : Bool) (proxy : Proxy) (call : Call) (key : KeyId) (work : Work) (view : View) → Begins strong proxy call key work view (starts_as strong proxy call key work view)
begins strong proxy call key work view =
    chosen strong proxy call key work view (not (is_member work view proxy.at)) (ends_at_once proxy call key work r.Outside) (option_map_or (starts_in strong proxy call key work view) (next_handle proxy.calls) (ends_at_once proxy call key work r.Full))
    (at_once r.Outside refl refl) (in_slot strong proxy call key work view (next_handle proxy.calls) refl)

from_begins : (s : Store) (p : ℕ) (key : KeyId) (work : Work) (h : Happening) (d : Done Proxy) → p < length s.proxies → key.0 < length s.directory.sets → fits_mode (is_strong_key s key) work ≡ true
    → Begins (is_strong_key s key) (proxy_at s p) (next_call s p) key work (view_at (proxy_at s p).views key) d → h ≡ did s p d → Happened s h
from_begins s p key work h d lt known fits (at_once reply dead is) e = refused_at_once p key work reply lt dead (e ∙ ap (did s p) is)
from_begins s p key work h d lt known fits (lives handle taken free first is) e =
    started p key work (record { handle = handle; taken = taken; exists = lt; known = known; fits = fits; free = free; first = first; is = e ∙ ap (did s p) is })

started_at : (s : Store) (p : ℕ) (key : KeyId) (work : Work) (h : Happening) → p < length s.proxies → start_at s p key work ≡ Ok h → Happened s h
unfolding starts
started_at s p key work h lt e =
    let view : View = view_at (proxy_at s p).views key in
    let d : Done Proxy = starts_as (is_strong_key s key) (proxy_at s p) (next_call s p) key work (view_at (proxy_at s p).views key) in
    let last : Outcome = proxy_did s p d in
    let mode : Outcome = if not (fits_mode (is_strong_key s key) work) then Err WrongMode else last in
    unless h (Happened s h) (not (nat_lt key.0 (length s.directory.sets))) NoKey mode (λ c z. unless h (Happened s h) (not (fits_mode (is_strong_key s key) work)) WrongMode last
    (λ b y. from_begins s p key work h d lt (within_is key.0 (length s.directory.sets) c) (not_false (fits_mode (is_strong_key s key) work) b) (begins (is_strong_key s key) (proxy_at s p) (next_call s p) key work view) (sends_is (with_proxy s p d.actor) d.posts d.marks h y)) z) e

starting : (s : Store) (p key : ℕ) (work : Work) (h : Happening) → start s p key work ≡ Ok h → Happened s h
starting s p key work h e =
    let at : KeyId = record { 0 = key } in
    let last : Outcome = if (proxy_at s p).stopped then nothing s else start_at s p at work in
    unless h (Happened s h) (not (nat_lt p (length s.proxies))) NoActor last
    (λ b z. choose h (Happened s h) (proxy_at s p).stopped (nothing s) (start_at s p at work) (λ _ y. ignored (ok_is (quietly s) h y)) (λ _ y. started_at s p at work h (within_is p (length s.proxies) b) y) z) e

proxy_took : (s : Store) (p : ℕ) (message : Message) (h : Happening) (o : Option LiveCall) → Contains s.sent (record { to = to.Proxy p; message = message }) → item_at (learned (proxy_at s p) message).calls (handle_in message) ≡ o
    → h ≡ did s p (option_map_or (call_takes (learned (proxy_at s p) message) message) o (only_learns (learned (proxy_at s p) message))) → Happened s h
proxy_took s p message h None sent is e = proxy_learned p message sent e
proxy_took s p message h (Some call) sent is e = call_took p message call (record { sent = sent; live = is; is = e })

delivered_to : (s : Store) (a : Actor) (message : Message) (h : Happening) → Contains s.sent (record { to = a; message = message }) → deliver_to s a message ≡ Ok h → Happened s h
unfolding proxy_takes
delivered_to s (to.Replica d) message h sent e =
    let st : (Step replica.State) = replica.step (replica_at s d).state message in
    choose h (Happened s h) (replica_at s d).stopped (nothing s) (replica_takes s d message st) (λ _ y. ignored (ok_is (quietly s) h y))
    (λ b y. replica_took d message (record { sent = sent; runs = b }) (sends_is (with_replica s d (record { stopped = false; state = st.state })) st.out.posts [] h y)) e
delivered_to s to.Directory message h sent e =
    let st : (Step State) = directory_step.step s.directory message in
    directory_took message sent (sends_is (record s { directory = st.state }) st.out.posts [] h e)
delivered_to s (to.Proxy p) message h sent e =
    let d : Done Proxy = proxy_takes_as (learned (proxy_at s p) message) message in
    choose h (Happened s h) (proxy_at s p).stopped (nothing s) (proxy_did s p d) (λ _ y. ignored (ok_is (quietly s) h y))
    (λ _ y. proxy_took s p message h (item_at (learned (proxy_at s p) message).calls (handle_in message)) sent refl (sends_is (with_proxy s p d.actor) d.posts d.marks h y)) e

-- what is found at a place is among them
pub found_among : (posts : List Post) (n : ℕ) (post : Post) → slice_get posts n ≡ Some post → Contains posts post
found_among posts n post e = (n, slice_get_within posts n post e, get_or_from_slice_get posts n post post e)

delivering : (s : Store) (n : ℕ) (h : Happening) (o : Option Post) → slice_get s.sent n ≡ o → option_map_or (λ (post : Post). deliver_to s post.to post.message) o (Err (NoMessage (length s.sent))) ≡ Ok h → Happened s h
delivering s n h None is e = absurd (cc)
delivering s n h (Some post) is e = delivered_to s post.to post.message h (found_among s.sent n post is) e

giving : (s : Store) (p : ℕ) (handle : Handle) (h : Happening) (o : Option LiveCall) → item_at (proxy_at s p).calls handle ≡ o → option_map_or (gives_up s p handle) o (Err NoCall) ≡ Ok h → Happened s h
giving s p handle h None is e = absurd (cc)
giving s p handle h (Some call) is e =
    let g : Happening = record { store = with_proxy s p (record (proxy_at s p) { calls = after_take (proxy_at s p).calls handle }); marks = k.End (tag_of_call call).call r.GivenUp ∷ []; posts = [] } in
    choose h (Happened s h) (may_give_up call) (Ok g) (Err NoCall) (λ _ y. gave_up p handle call is (ok_is g h y)) (λ _ y. absurd (cc)) e

giving_at : (s : Store) (p : ℕ) (h : Happening) (o : Option Handle) → option_map_or (give_up_under s p) o (Err NoCall) ≡ Ok h → Happened s h
giving_at s p h None e = absurd (cc)
giving_at s p h (Some handle) e = giving s p handle h (item_at (proxy_at s p).calls handle) refl e

giving_up : (s : Store) (p seq : ℕ) (h : Happening) → give_up s p seq ≡ Ok h → Happened s h
giving_up s p seq h e =
    let at : Outcome = option_map_or (give_up_under s p) (handle_of_call (proxy_at s p).calls seq) (Err NoCall) in
    let last : Outcome = if (proxy_at s p).stopped then nothing s else at in
    unless h (Happened s h) (not (nat_lt p (length s.proxies))) NoActor last
    (λ _ z. choose h (Happened s h) (proxy_at s p).stopped (nothing s) at (λ _ y. ignored (ok_is (quietly s) h y)) (λ _ y. giving_at s p h (handle_of_call (proxy_at s p).calls seq) y) z) e

no_epoch : (s : Store) (h : Happening) (wrong : PublishFault) → opens_none s wrong ≡ Ok h → Happened s h
no_epoch s h (fault.MissingSet set) e = let g : Happening = record { store = s; marks = k.NoEpoch (cause.MissingSet set) ∷ []; posts = [] } in not_published (cause.MissingSet set) (ok_is g h e)
no_epoch s h (fault.NotQuorum set) e = let g : Happening = record { store = s; marks = k.NoEpoch (cause.NotQuorum set) ∷ []; posts = [] } in not_published (cause.NotQuorum set) (ok_is g h e)
no_epoch s h _ e = ignored (ok_is (quietly s) h e)

judging : (s : Store) (table : List SetPolicy) (h : Happening) (o : Option PublishFault) → table_fault s.directory table ≡ o
    → option_map_or (opens_none s) o (as_outcome (record { store = record s { directory = after_publish s.directory table }; marks = k.Epoch (latest s.directory + 1) ∷ []; posts = [] })) ≡ Ok h → Happened s h
unfolding as_outcome
judging s table h None is e =
    let g : Happening = record { store = record s { directory = after_publish s.directory table }; marks = k.Epoch (latest s.directory + 1) ∷ []; posts = [] } in
    published table is (ok_is g h e)
judging s table h (Some wrong) is e = no_epoch s h wrong e

pub happened : (s : Store) (event : Event) (h : Happening) → step s event ≡ Ok h → Happened s h
unfolding step as_outcome
happened s (Start p key work) h e = starting s p key work h e
happened s (Deliver n) h e = delivering s n h (slice_get s.sent n) refl e
happened s (StopReplica d) h e =
    let g : Store = with_replica s d (record { stopped = true; state = (replica_at s d).state }) in
    unless h (Happened s h) (not (nat_lt d (length s.replicas))) NoActor (nothing g) (λ _ y. replica_stopped d (ok_is (quietly g) h y)) e
happened s (StopProxy p) h e =
    let g : Store = with_proxy s p (record (proxy_at s p) { stopped = true }) in
    unless h (Happened s h) (not (nat_lt p (length s.proxies))) NoActor (nothing g) (λ _ y. proxy_stopped p (ok_is (quietly g) h y)) e
happened s (GiveUp p seq) h e = giving_up s p seq h e
happened s (Publish table) h e =
    unless h (Happened s h) (latest s.directory == 1000) (Limit Epochs 1001) (judged s table) (λ _ y. judging s table h (table_fault s.directory table) refl y) e

-- What an event was that is taken without limits; and one that is taken with them is taken so without.
use Rattle.std.proofs.Common.{◌≡◌, ℕ, ◌<◌, Bool, true, false, List, [], refl, sym, ap, ◌∙◌, nat_lt, not, if◌then◌else◌, length, Option, Some, None, slice_get, Ok, Err, Contains}
use Rattle.std.specs.Option.{option_map_or}
use Rattle.register_law.proofs.Words.{KeyId, Step, Actor, Message, Post, State, item_at, Mark, Work, learned, Done, starts, starts_as, Proxy, Store, proxy_at, replica_at, view_at, Happening, Outcome, call_takes, fits_mode, handle_in, is_strong_key, nothing, only_learns, proxy_takes, proxy_takes_as, sends, step, with_proxy, with_replica, Event, Deliver, Start, NoActor, NoKey, NoMessage, WrongMode, LiveCall, Happened, call_took, did, directory_took, ignored, next_call, proxy_learned, quietly, refused_at_once, replica_took, started}
use Rattle.wire_msg.specs.declared.actor.Actor.TheVariants as to
use Rattle.replica_core.specs.Rule as replica
use Rattle.epoch_directory.specs.Step as directory_step
use Rattle.world_core.specs.declared.event.StepFault.{StepFault}
use Rattle.world_core.specs.Step as limited
use Rattle.world_core.specs.Step.{with_sent}
use Rattle.register_law.proofs.Basics.{within_is, not_false}
use Rattle.register_law.proofs.Happened.{Begins, at_once, lives, begins, found_among, happened, sends_is}
use Rattle.restart_law.specs.Unlimited as free
use Rattle.restart_law.specs.Unlimited.{unlimited_step}

choose : (h : Happening) (X : Type 0) (b : Bool) (one other : Outcome) → (b ≡ true → one ≡ Ok h → X) → (b ≡ false → other ≡ Ok h → X) → (if b then one else other) ≡ Ok h → X
choose h X true one other f g e = f refl e
choose h X false one other f g e = g refl e

refused : (h : Happening) (X : Type 0) (fault : StepFault) (o : Outcome) → o ≡ Err fault → o ≡ Ok h → X
refused h X fault o is e = absurd (cc)

ok_is : (g h : Happening) (o : Outcome) → o ≡ Ok g → o ≡ Ok h → h ≡ g
ok_is g h o is e = cc

from_begins : (s : Store) (p : ℕ) (key : KeyId) (work : Work) (h : Happening) (d : Done Proxy) → p < length s.proxies → key.0 < length s.directory.sets → fits_mode (is_strong_key s key) work ≡ true
    → Begins (is_strong_key s key) (proxy_at s p) (next_call s p) key work (view_at (proxy_at s p).views key) d → h ≡ did s p d → Happened s h
from_begins s p key work h d lt known fits (at_once reply dead is) e = refused_at_once p key work reply lt dead (e ∙ ap (did s p) is)
from_begins s p key work h d lt known fits (lives handle taken free_slot first is) e =
    started p key work (record { handle = handle; taken = taken; exists = lt; known = known; fits = fits; free = free_slot; first = first; is = e ∙ ap (did s p) is })

started_at : (s : Store) (p : ℕ) (key : KeyId) (work : Work) (h : Happening) → p < length s.proxies → free.start_at s p key work ≡ Ok h → Happened s h
unfolding starts
started_at s p key work h lt e =
    let d : Done Proxy = starts_as (is_strong_key s key) (proxy_at s p) (next_call s p) key work (view_at (proxy_at s p).views key) in
    let last : Outcome = free.proxy_does s p d in
    let mode : Outcome = if not (fits_mode (is_strong_key s key) work) then Err WrongMode else last in
    choose h (Happened s h) (not (nat_lt key.0 (length s.directory.sets))) (Err NoKey) mode (λ _ z. refused h (Happened s h) NoKey (Err NoKey) refl z)
    (λ c z. choose h (Happened s h) (not (fits_mode (is_strong_key s key) work)) (Err WrongMode) last (λ _ y. refused h (Happened s h) WrongMode (Err WrongMode) refl y)
    (λ b y. from_begins s p key work h d lt (within_is key.0 (length s.directory.sets) c) (not_false (fits_mode (is_strong_key s key) work) b) (begins (is_strong_key s key) (proxy_at s p) (next_call s p) key work (view_at (proxy_at s p).views key)) (ok_is (did s p d) h last refl y)) z) e

starting : (s : Store) (p key : ℕ) (work : Work) (h : Happening) → free.start s p key work ≡ Ok h → Happened s h
starting s p key work h e =
    let at : KeyId = record { 0 = key } in
    let last : Outcome = if (proxy_at s p).stopped then nothing s else free.start_at s p at work in
    choose h (Happened s h) (not (nat_lt p (length s.proxies))) (Err NoActor) last (λ _ z. refused h (Happened s h) NoActor (Err NoActor) refl z)
    (λ b z. choose h (Happened s h) (proxy_at s p).stopped (nothing s) (free.start_at s p at work) (λ _ y. ignored (ok_is (quietly s) h (nothing s) refl y)) (λ _ y. started_at s p at work h (within_is p (length s.proxies) b) y) z) e

proxy_took : (s : Store) (p : ℕ) (message : Message) (h : Happening) (o : Option LiveCall) → Contains s.sent (record { to = to.Proxy p; message = message }) → item_at (learned (proxy_at s p) message).calls (handle_in message) ≡ o
    → h ≡ did s p (option_map_or (call_takes (learned (proxy_at s p) message) message) o (only_learns (learned (proxy_at s p) message))) → Happened s h
proxy_took s p message h None sent is e = proxy_learned p message sent e
proxy_took s p message h (Some call) sent is e = call_took p message call (record { sent = sent; live = is; is = e })

delivered_to : (s : Store) (a : Actor) (message : Message) (h : Happening) → Contains s.sent (record { to = a; message = message }) → free.deliver_to s a message ≡ Ok h → Happened s h
unfolding proxy_takes
delivered_to s (to.Replica d) message h sent e =
    let st : (Step replica.State) = replica.step (replica_at s d).state message in
    let last : Outcome = free.replica_takes s d st in
    choose h (Happened s h) (replica_at s d).stopped (nothing s) last (λ _ y. ignored (ok_is (quietly s) h (nothing s) refl y))
    (λ b y. replica_took d message (record { sent = sent; runs = b }) (ok_is (with_sent (with_replica s d (record { stopped = false; state = st.state })) st.out.posts []) h last refl y)) e
delivered_to s to.Directory message h sent e =
    let st : (Step State) = directory_step.step s.directory message in
    directory_took message sent (ok_is (with_sent (record s { directory = st.state }) st.out.posts []) h (free.directory_takes s st) refl e)
delivered_to s (to.Proxy p) message h sent e =
    let d : Done Proxy = proxy_takes_as (learned (proxy_at s p) message) message in
    let last : Outcome = free.proxy_does s p d in
    choose h (Happened s h) (proxy_at s p).stopped (nothing s) last (λ _ y. ignored (ok_is (quietly s) h (nothing s) refl y))
    (λ _ y. proxy_took s p message h (item_at (learned (proxy_at s p) message).calls (handle_in message)) sent refl (ok_is (did s p d) h last refl y)) e

delivering : (s : Store) (n : ℕ) (h : Happening) (o : Option Post) → slice_get s.sent n ≡ o → option_map_or (λ (post : Post). free.deliver_to s post.to post.message) o (Err (NoMessage (length s.sent))) ≡ Ok h → Happened s h
delivering s n h None is e = refused h (Happened s h) (NoMessage (length s.sent)) (Err (NoMessage (length s.sent))) refl e
delivering s n h (Some post) is e = delivered_to s post.to post.message h (found_among s.sent n post is) e

pub happened_unlimited : (s : Store) (event : Event) (h : Happening) → unlimited_step s event ≡ Ok h → Happened s h
unfolding unlimited_step
happened_unlimited s (Start p key work) h e = starting s p key work h e
happened_unlimited s (Deliver n) h e = delivering s n h (slice_get s.sent n) refl e
happened_unlimited s event h e = happened s event h e

-- ---- an event that is taken with limits is taken so without them

-- where one outcome happens, the other is the same
abbrev pub Same : Outcome → Outcome → Type 0
Same one other = (h : Happening) → one ≡ Ok h → other ≡ Ok h

either : (b : Bool) (x y p q : Outcome) → Same x p → Same y q → Same (if b then x else y) (if b then p else q)
either true x y p q f g = f
either false x y p q f g = g

itself : (o : Outcome) → Same o o
itself o h e = e

sent_too : (s : Store) (posts : List Post) (marks : List Mark) → Same (sends s posts marks) (Ok (with_sent s posts marks))
sent_too s posts marks h e = ap (λ (x : Happening). let o : Outcome = Ok x in o) (sym (sends_is s posts marks h e))

start_too : (s : Store) (p : ℕ) (key : KeyId) (work : Work) → Same (limited.start_at s p key work) (free.start_at s p key work)
start_too s p key work =
    let d : Done Proxy = starts (is_strong_key s key) p (proxy_at s p) key work in
    either (not (nat_lt key.0 (length s.directory.sets))) (Err NoKey) _ (Err NoKey) _ (itself (Err NoKey))
    (either (not (fits_mode (is_strong_key s key) work)) (Err WrongMode) _ (Err WrongMode) _ (itself (Err WrongMode)) (sent_too (with_proxy s p d.actor) d.posts d.marks))

deliver_too : (s : Store) (a : Actor) (message : Message) → Same (limited.deliver_to s a message) (free.deliver_to s a message)
deliver_too s (to.Replica d) message =
    let st : (Step replica.State) = replica.step (replica_at s d).state message in
    either (replica_at s d).stopped (nothing s) _ (nothing s) _ (itself (nothing s)) (sent_too (with_replica s d (record { stopped = false; state = st.state })) st.out.posts [])
deliver_too s to.Directory message =
    let st : (Step State) = directory_step.step s.directory message in
    sent_too (record s { directory = st.state }) st.out.posts []
deliver_too s (to.Proxy p) message =
    let d : Done Proxy = proxy_takes (proxy_at s p) message in
    either (proxy_at s p).stopped (nothing s) _ (nothing s) _ (itself (nothing s)) (sent_too (with_proxy s p d.actor) d.posts d.marks)

deliver_found : (s : Store) (o : Option Post)
    → Same (option_map_or (λ (post : Post). limited.deliver_to s post.to post.message) o (Err (NoMessage (length s.sent)))) (option_map_or (λ (post : Post). free.deliver_to s post.to post.message) o (Err (NoMessage (length s.sent))))
deliver_found s None = itself (Err (NoMessage (length s.sent)))
deliver_found s (Some post) = deliver_too s post.to post.message

pub taken_too : (s : Store) (event : Event) → Same (step s event) (unlimited_step s event)
unfolding step unlimited_step
taken_too s (Start p key work) =
    let at : KeyId = record { 0 = key } in
    either (not (nat_lt p (length s.proxies))) (Err NoActor) _ (Err NoActor) _ (itself (Err NoActor))
    (either (proxy_at s p).stopped (nothing s) (limited.start_at s p at work) (nothing s) (free.start_at s p at work) (itself (nothing s)) (start_too s p at work))
taken_too s (Deliver n) = deliver_found s (slice_get s.sent n)
taken_too s event = itself (step s event)

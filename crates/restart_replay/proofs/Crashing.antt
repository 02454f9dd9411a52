-- A replica of a steady store crashes, and comes back.
use Rattle.std.proofs.Common.{◌≡◌, inl, inr, ℕ, ◌+◌, ◌*◌, ◌<◌, ◌≤◌, zero, suc, Bool, true, false, List, [], ◌∷◌, length, get_or, slice_get, refl, sym, ap, ◌∙◌, subst, arith, if◌then◌else◌}
use Rattle.std.specs.Prelude.{slice_set, slice_index_or, Option, Some, None, Result, Ok, Err, IsTrue, IfSome}
use Rattle.std.specs.List.{All}
use Rattle.std.specs.Option.{option_map_or}
use Rattle.std.proofs.lemmas.Bool.{cases_lt}
use Rattle.std.proofs.lemmas.List.{length-set, set-get_or}
use Rattle.run_marks.specs.declared.mark.Mark.{Mark}
use Rattle.std.proofs.lemmas.List.Elements.{All-set}
use Rattle.span_base.specs.declared.ids.KeyId.{KeyId}
use Rattle.wire_msg.specs.declared.actor.Actor.TheVariants as to
use Rattle.wire_msg.specs.declared.message.Message.{Message}
use Rattle.wire_msg.specs.declared.outputs.Post.{Post}
use Rattle.wire_msg.specs.Lawful.{IsLawful}
use Rattle.replica_core.specs.Rule as replica
use Rattle.replica_core.specs.declared.kept.Kept.{Kept}
use Rattle.replica_core.specs.Taking.{record_size}
use Rattle.replica_journal.specs.Stopped.{is_kept, stopped}
use Rattle.world_core.specs.State.{Store, Replica, no_replica, replica_at}
use Rattle.world_core.specs.Step.{Happening, Outcome, nothing, with_replica, step}
use Rattle.world_core.specs.Ends.{Seen, Journal, no_journal}
use Rattle.world_core.specs.declared.event.StepFault.TheVariants.{NoMessage}
use Rattle.schedule_text.specs.declared.kept_event.KeptEvent.{KeptEvent}
use Rattle.schedule_text.specs.declared.kept_event.KeptEvent.TheVariants.{Crash, Event as Of}
use Rattle.world_core.specs.declared.event.Event.{Event}
use Rattle.world_core.specs.declared.event.StepFault.{StepFault}
use Rattle.restart_law.specs.Restart.{crash_at, restart_step}
use Rattle.restart_replay.specs.declared.store.KeptStore.{KeptStore}
use Rattle.restart_replay.specs.Steady.{IsSound, IsSteady, IsForKeyBelow, Happens, EventEnds}
use Rattle.restart_replay.proofs.Sizes.{record_small}
use Rattle.restart_replay.proofs.Replicas.{AreReplicas, replaced, keeps_keys}
use Rattle.restart_replay.proofs.Steadying.{later}

-- ---- a replica's place is taken twice

set_twice : {X : Type 0} → (xs : List X) (i : ℕ) (a b : X) → slice_set (slice_set xs i a) i b ≡ slice_set xs i b
set_twice {X} [] i a b = refl
set_twice {X} (x ∷ xs) zero a b = refl
set_twice {X} (x ∷ xs) (suc i) a b = ap (λ (ys : List X). x ∷ ys) (set_twice xs i a b)

get_set : (xs : List Replica) (i : ℕ) (a : Replica) → i < length xs → get_or (slice_set xs i a) i no_replica ≡ a
get_set [] i a lt = absurd (omega (arith, lt))
get_set (x ∷ xs) zero a lt = refl
get_set (x ∷ xs) (suc i) a lt = get_set xs i a (omega (arith, lt))

abbrev seated : Store → ℕ → replica.State → Store
seated s d state = with_replica s d (record { stopped = (replica_at s d).stopped; state = state })

pub seated_twice : (s : Store) (d : ℕ) (one other : replica.State) → d < length s.replicas → seated (seated s d one) d other ≡ seated s d other
seated_twice s d one other within =
    let first : Replica = record { stopped = (replica_at s d).stopped; state = one } in
    let same : replica_at (seated s d one) d ≡ first = get_set s.replicas d first within in
    ap (λ (r : Replica). with_replica (seated s d one) d (record { stopped = r.stopped; state = other })) same
    ∙ ap (λ (rs : List Replica). let x : Store = record { replicas = rs; proxies = s.proxies; directory = s.directory; sent = s.sent } in x) (set_twice s.replicas d first (record { stopped = (replica_at s d).stopped; state = other }))

module _ (store : KeptStore) (steady : IsSteady store) (few : store.taken < 1000000) (d : ℕ) (there : d < store.replicas) where
  pub is_seated : d < length store.cloud.store.replicas
  is_seated = let a = steady.replicas in omega (arith, there, a)

  pub seat_fits : length (replica_at store.cloud.store d).state.kept ≡ store.keys
  seat_fits = steady.kept d no_replica is_seated

  pub seat_sound : IsSound store.taken (slice_index_or store.cloud.journals d no_journal)
  seat_sound = let a = steady.seats in steady.journals d no_journal (omega (arith, there, a))

  -- room for a record
  pub has_room : (message : Message) (size : ℕ) → IsLawful message → size ≡ (slice_index_or store.cloud.journals d no_journal).size → size + record_size message ≤ 4294967295
  has_room message size lawful is =
      let small = seat_sound.small in let record_is = record_small message lawful in omega (arith, small, record_is, is, few)

  abbrev after : Seen → KeptStore
  after new = record { cloud = new; replicas = store.replicas; keys = store.keys; taken = store.taken + 1 }

  -- with another replica in its place, whose journal has a record more
  pub steady_again : (new : Seen) (state : replica.State) (spare journal : Journal) → new.store ≡ seated store.cloud.store d state → new.journals ≡ slice_set (slice_set store.cloud.journals d spare) d journal
      → new.events ≡ store.cloud.events → length state.kept ≡ store.keys → journal.shut ≡ false → IsTrue journal.calm → journal.size ≤ 4148 * (store.taken + 1) → IsSteady (after new)
  steady_again new state spare journal store_is journals_are events_are kept is_open calm small =
      let r : Replica = record { stopped = (replica_at store.cloud.store d).stopped; state = state } in
      let before : AreReplicas store.replicas store.keys store.cloud.store.replicas = record { count_is = steady.replicas; kept = steady.kept } in
      let replicas : AreReplicas store.replicas store.keys new.store.replicas =
      subst (λ (s : Store). AreReplicas store.replicas store.keys s.replicas) (sym store_is) (replaced store.replicas store.keys store.cloud.store.replicas d r before kept) in
      let set : new.journals ≡ slice_set store.cloud.journals d journal = journals_are ∙ set_twice store.cloud.journals d spare journal in
      let sound : IsSound (store.taken + 1) journal = record { is_open = is_open; calm = calm; small = small } in
      let steps = steady.steps in
      record {
        few = omega (arith, few);
        steps = omega (arith, steps, events_are);
        replicas = replicas.count_is;
        seats = ap (λ (js : List Journal). length js) set ∙ length-set store.cloud.journals d journal ∙ steady.seats;
        few_replicas = steady.few_replicas;
        keys = ap (λ (s : Store). length s.directory.sets) store_is ∙ steady.keys;
        few_keys = steady.few_keys;
        kept = replicas.kept;
        journals = subst (All (IsSound (store.taken + 1))) (sym set) (All-set (IsSound (store.taken + 1)) store.cloud.journals d journal sound (later store.taken store.cloud.journals steady.journals));
      }

-- a replica came back in the place of a spare one
pub seated_after : (s mid new : Store) (d : ℕ) (one other was : replica.State) (message : Message) (call : ℕ) (is_new : Bool) → d < length s.replicas → mid ≡ seated s d one → new ≡ seated mid d other
    → other ≡ stopped was message call is_new → was ≡ (replica_at s d).state → new ≡ seated s d (stopped (replica_at s d).state message call is_new)
seated_after s mid new d one other was message call is_new within mid_is new_is other_is was_is =
    new_is ∙ ap (λ (x : Store). seated x d other) mid_is ∙ seated_twice s d one other within
    ∙ ap (seated s d) (other_is ∙ ap (λ (state : replica.State). stopped state message call is_new) was_is)

pub grown_small : (store : KeptStore) → IsSteady store → (d : ℕ) → d < store.replicas → (message : Message) (gate was : ℕ) → IsLawful message → gate ≤ was + record_size message
    → was ≡ (slice_index_or store.cloud.journals d no_journal).size → gate ≤ 4148 * (store.taken + 1)
grown_small store steady d there message gate was lawful grows is =
    let seats = steady.seats in
    let sound = steady.journals d no_journal (omega (arith, there, seats)) in
    let small = sound.small in
    let record_is = record_small message lawful in
    omega (arith, small, record_is, is, grows)

pub stopped_keys : (state : replica.State) (message : Message) (call : ℕ) (new : Bool) → length (stopped state message call new).kept ≡ length state.kept
stopped_keys state message call new = by (is_kept message call new)
  where
    by : (b : Bool) → length (if b then (replica.step state message).state else state).kept ≡ length state.kept
    by true = keeps_keys state message
    by false = refl

-- ---- what a crash does where the replica takes nothing

set_past : (xs : List Kept) (i : ℕ) (x : Kept) → length xs ≤ i → slice_set xs i x ≡ xs
set_past [] i x past = refl
set_past (y ∷ ys) zero x past = absurd (omega (arith, past))
set_past (y ∷ ys) (suc i) x past = ap (λ (zs : List Kept). y ∷ zs) (set_past ys i x (omega (arith, past)))

step_past : (state : replica.State) (message : Message) (keys : ℕ) (o : Option KeyId) → (IfSome o (λ key. key.0 < keys) → ⊥) → length state.kept ≡ keys → (replica.step_at state message o).state ≡ state
step_past state message keys None past is = absurd (past tt)
step_past state message keys (Some key) past is =
    ap (λ (ks : List Kept). let x : replica.State = record { number = state.number; kept = ks } in x)
    (set_past state.kept key.0 _ (elim (cases_lt key.0 keys) as (λ _. length state.kept ≤ key.0) [ inl lt ↦ absurd (past lt) | inr le ↦ omega (arith, le, is) ]))

abbrev quietly : Store → Happening
quietly s = record { store = s; marks = []; posts = [] }

same_state : (state : replica.State) (message : Message) (call : ℕ) (new : Bool) → (replica.step state message).state ≡ state → stopped state message call new ≡ state
same_state state message call new same = by (is_kept message call new)
  where
    by : (b : Bool) → (if b then (replica.step state message).state else state) ≡ state
    by true = same
    by false = refl

-- a replica whose state is what it was
idle : (s : Store) (d : ℕ) (message : Message) (call : ℕ) (new : Bool) (b : Bool) → (replica_at s d).stopped ≡ b → (b ≡ false → stopped (replica_at s d).state message call new ≡ (replica_at s d).state)
    → (if b then nothing s else nothing (with_replica s d (record { stopped = false; state = stopped (replica_at s d).state message call new }))) ≡ Ok (quietly s)
idle s d message call new true stops same = refl
idle s d message call new false runs same =
    let seat : slice_set s.replicas d (record { stopped = false; state = (replica_at s d).state }) ≡ s.replicas =
    ap (λ (b : Bool). let r : Replica = record { stopped = b; state = (replica_at s d).state } in slice_set s.replicas d r) (sym runs) ∙ set-get_or s.replicas d no_replica in
    ap (λ (state : replica.State). nothing (with_replica s d (record { stopped = false; state = state }))) (same refl)
    ∙ ap (λ (rs : List Replica). let x : Store = record { replicas = rs; proxies = s.proxies; directory = s.directory; sent = s.sent } in nothing x) seat

-- a message for a key that isn't there changes nothing
pub strange_key : (store : KeptStore) (d : ℕ) (message : Message) (call : ℕ) (new : Bool) (marks : List Mark) → IsSteady store → d < store.replicas
    → (IsForKeyBelow store.keys message → ⊥) → marks ≡ [] → Happens store.cloud.store store.cloud.store (crash_at store.cloud.store (to.Replica d) message call new) marks
strange_key store d message call new marks steady there strange none =
    let s : Store = store.cloud.store in
    let within : d < length store.cloud.store.replicas = let a = steady.replicas in omega (arith, there, a) in
    let keys : length (replica_at store.cloud.store d).state.kept ≡ store.keys = steady.kept d no_replica within in
    let stays = step_past (replica_at store.cloud.store d).state message store.keys (replica.request_key message) strange keys in
    record {
      happening = quietly store.cloud.store;
      taken = idle store.cloud.store d message call new (replica_at store.cloud.store d).stopped refl (λ _. same_state (replica_at store.cloud.store d).state message call new stays);
      marks_are = none;
      store_is = refl;
    }

-- ---- the crash of a message by its number

pub crash_found : (s : Store) (n call : ℕ) (new : Bool) (post : Post) → Some post ≡ slice_get s.sent n → restart_step s (Crash n call new) ≡ crash_at s post.to post.message call new
unfolding restart_step
crash_found s n call new post at = ap (λ (o : Option Post). option_map_or (λ (p : Post). crash_at s p.to p.message call new) o (Err (NoMessage (length s.sent)))) (sym at)

pub crash_missing : (s : Store) (n call : ℕ) (new : Bool) → None ≡ slice_get s.sent n → restart_step s (Crash n call new) ≡ Err (NoMessage (length s.sent))
unfolding restart_step
crash_missing s n call new at = ap (λ (o : Option Post). option_map_or (λ (p : Post). crash_at s p.to p.message call new) o (Err (NoMessage (length s.sent)))) (sym at)

-- ---- the same outcome

pub ends_as : (old new : Store) (one other : Outcome) (result : Result (List Mark) StepFault) → one ≡ other → EventEnds old new other result → EventEnds old new one result
ends_as old new one other result same ends = subst (λ (o : Outcome). EventEnds old new o result) (sym same) ends

pub by_event : (s : Store) (event : Event) (kept : KeptEvent) → kept ≡ Of event → restart_step s kept ≡ step s event
unfolding restart_step
by_event s event kept is = ap (restart_step s) is

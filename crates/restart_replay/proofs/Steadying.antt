-- A store whose disks never fail takes each event as the definition takes it, and stays so.
use Rattle.std.proofs.Common.{◌≡◌, ℕ, ◌+◌, ◌<◌, Bool, true, false, cond, List, map, length, slice_get, refl, sym, ap, ◌∙◌, subst, arith}
use Rattle.std.specs.Prelude.{slice_set, slice_index_or, Option, Some, None, Ok, Err, IsTrue}
use Rattle.std.specs.List.{All, range_with_len}
use Rattle.std.specs.Option.{option_map_or}
use Rattle.std.proofs.lemmas.List.{length-set, length-map, length-replicate}
use Rattle.std.proofs.lemmas.List.Elements.{All-set, All-map}
use Rattle.std.proofs.lemmas.List.FromFn.{length-range_with_len}
use Rattle.replica_core.specs.Rule.{State, opening_state}
use Rattle.world_core.specs.declared.event.Header.{Header}
use Rattle.world_core.specs.Stores.{FitsReplica}
use Rattle.epoch_directory.specs.declared.table.KeySet.{KeySet}
use Rattle.world_core.specs.Run.{IsHeader}
use Rattle.wire_msg.specs.declared.actor.Actor.{Actor}
use Rattle.wire_msg.specs.declared.actor.Actor.TheVariants as to
use Rattle.wire_msg.specs.declared.message.Message.{Message}
use Rattle.wire_msg.specs.declared.outputs.Post.{Post}
use Rattle.wire_msg.specs.Lawful.{IsLawful, AreLawful}
use Rattle.replica_core.specs.declared.journal.TakeFault.{TakeFault}
use Rattle.replica_core.specs.declared.journal.TakeFault.TheVariants as take
use Rattle.replica_core.specs.Taking.{IsTooMuch}
use Rattle.run_marks.specs.declared.mark.Mark.{Mark}
use Rattle.world_core.specs.declared.event.Event.{Event}
use Rattle.world_core.specs.declared.event.Event.TheVariants.{Start, Deliver, StopReplica, StopProxy, GiveUp, Publish}
use Rattle.world_core.specs.declared.event.StepFault.{StepFault}
use Rattle.world_core.specs.declared.event.StepFault.TheVariants.{NoActor, NoKey, WrongMode, NoMessage, NoCall, Limit, Taker, NoMemory}
use Rattle.world_core.specs.State.{Replica, Store, opening, opening_replica, key_set, replica_at}
use Rattle.world_core.specs.Step.{step}
use Rattle.world_core.specs.Ends.{Seen, Journal, no_journal, Journals, JournalsFor, StepEnds, taken_by_replica, replica_asked}
use Rattle.register_law.proofs.Happened.{happened}
use Rattle.restart_replay.specs.declared.store.KeptStore.{KeptStore}
use Rattle.restart_replay.specs.Steady.{IsSound, IsSteady, EventEnds}
use Rattle.restart_replay.proofs.Wires.{lawful_at}
use Rattle.restart_replay.proofs.Sizes.{record_small}
use Rattle.restart_replay.proofs.Replicas.{AreReplicas, running, still_replicas, keys_stay}

-- the replica that is asked is there, and takes a lawful message
pub record IsAsked (store : Store) (asked : ℕ × Message) : Type 0 where
  pub there : asked.0 < length store.replicas
  pub lawful : IsLawful asked.1

asked_by : (store : Store) (to' : Actor) (message : Message) (asked : ℕ × Message) → IsLawful message → taken_by_replica store to' message ≡ Some asked → IsAsked store asked
asked_by store (to.Replica d) message asked lawful e = by (replica_at store d).stopped refl e
  where
    here : (ℕ × Message) → ℕ × Message
    here a = a

    by : (b : Bool) → (replica_at store d).stopped ≡ b → cond b None (Some (here (d, message))) ≡ Some asked → IsAsked store asked
    by true on f = absurd (cc)
    by false on f =
        let same : here (d, message) ≡ asked = cc in
        subst (IsAsked store) same (record { there = running store d on; lawful = lawful })
asked_by store to.Directory message asked lawful e = absurd (cc)
asked_by store (to.Proxy p) message asked lawful e = absurd (cc)

asked_found : (store : Store) (n : ℕ) (o : Option Post) (asked : ℕ × Message) → AreLawful store.sent → slice_get store.sent n ≡ o
    → option_map_or (λ (post : Post). taken_by_replica store post.to post.message) o None ≡ Some asked → IsAsked store asked
asked_found store n None asked lawful at e = absurd (cc)
asked_found store n (Some post) asked lawful at e = asked_by store post.to post.message asked (lawful_at store.sent n post at lawful) e

is_asked : (store : Store) (event : Event) (asked : ℕ × Message) → AreLawful store.sent → replica_asked store event ≡ Some asked → IsAsked store asked
is_asked store (Start p key work) asked lawful e = absurd (cc)
is_asked store (Deliver n) asked lawful e = asked_found store n (slice_get store.sent n) asked lawful refl e
is_asked store (StopReplica d) asked lawful e = absurd (cc)
is_asked store (StopProxy p) asked lawful e = absurd (cc)
is_asked store (GiveUp p seq) asked lawful e = absurd (cc)
is_asked store (Publish table) asked lawful e = absurd (cc)

-- ---- journals

-- room for one event more
pub later : (taken : ℕ) (journals : List Journal) → All (IsSound taken) journals → All (IsSound (taken + 1)) journals
later taken journals are d none within =
    let is = are d none within in
    let small = is.small in
    record { is_open = is.is_open; calm = is.calm; small = omega (arith, small) }

module _ (store : KeptStore) (steady : IsSteady store) (few : store.taken < 1000000) where
  seat : (asked : ℕ × Message) → IsAsked store.cloud.store asked → IsSound store.taken (slice_index_or store.cloud.journals asked.0 no_journal)
  seat asked is = let there = is.there in let a = steady.replicas in let b = steady.seats in steady.journals asked.0 no_journal (omega (arith, there, a, b))

  no_room_lacks : (journal : Journal) (message : Message) (bytes : ℕ) → IsSound store.taken journal → IsLawful message → IsTooMuch journal.size message bytes → ⊥
  no_room_lacks journal message bytes is lawful much =
      let small = is.small in let record_is = record_small message lawful in let total = much.1 in let above = much.2 in omega (arith, small, record_is, total, above, few)

  -- no replica's disk is at fault
  no_fault : (old new : Journal) (message : Message) (fault : TakeFault) → IsSound store.taken old → IsLawful message → Journals old new message (Some fault) → ⊥
  no_fault old new message take.Shut is lawful told = let e = is.is_open in let f = told.0 in absurd (cc)
  no_fault old new message (take.Full bytes) is lawful told = no_room_lacks old message bytes is lawful told.1
  no_fault old new message take.DiskFault is lawful told = let e = is.calm in let f = told.1 in absurd (cc)
  no_fault old new message (take.NoMemory error) is lawful told = told

  no_fault_for : (event : Event) (o : Option (ℕ × Message)) (new : List Journal) (fault : TakeFault) → AreLawful store.cloud.store.sent → replica_asked store.cloud.store event ≡ o
      → JournalsFor o store.cloud.journals new (Some fault) → ⊥
  no_fault_for event None new fault lawful is told = told
  no_fault_for event (Some asked) new fault lawful is told =
      let there = is_asked store.cloud.store event asked lawful is in
      no_fault (slice_index_or store.cloud.journals asked.0 no_journal) told.0 asked.1 fault (seat asked there) there.lawful told.2

  -- an event that isn't taken is one that the definition refuses
  pub refuses : (new : Seen) (event : Event) (fault : StepFault) → AreLawful store.cloud.store.sent → StepEnds store.cloud new event (Err fault)
      → EventEnds store.cloud.store new.store (step store.cloud.store event) (Err fault)
  refuses new event NoActor lawful ends = ends.0
  refuses new event NoKey lawful ends = ends.0
  refuses new event WrongMode lawful ends = ends.0
  refuses new event (NoMessage sent) lawful ends = ends.0
  refuses new event NoCall lawful ends = ends.0
  refuses new event (Limit what number) lawful ends = ends.0
  refuses new event (Taker fault) lawful ends = no_fault_for event (replica_asked store.cloud.store event) new.journals fault lawful refl ends.journals
  refuses new event (NoMemory error) lawful ends = tt

  -- the journals once a message was written
  written : (old new : Journal) (message : Message) → IsSound store.taken old → IsLawful message → Journals old new message None → IsSound (store.taken + 1) new
  written old new message is lawful told =
      let small = is.small in let record_is = record_small message lawful in let grown = told.3 in
      record { is_open = told.1; calm = told.6 is.calm; small = omega (arith, small, record_is, grown) }

  journals_for : (event : Event) (o : Option (ℕ × Message)) (new : List Journal) → AreLawful store.cloud.store.sent → replica_asked store.cloud.store event ≡ o
      → JournalsFor o store.cloud.journals new None → (length new ≡ store.replicas) × All (IsSound (store.taken + 1)) new
  journals_for event None new lawful is told = (
    ap (λ (js : List Journal). length js) told ∙ steady.seats,
    subst (All (IsSound (store.taken + 1))) (sym told) (later store.taken store.cloud.journals steady.journals),
  )
  journals_for event (Some asked) new lawful is told =
      let there = is_asked store.cloud.store event asked lawful is in
      let set : new ≡ slice_set store.cloud.journals asked.0 told.0 = told.1 in (
        ap (λ (js : List Journal). length js) set ∙ length-set store.cloud.journals asked.0 told.0 ∙ steady.seats,
        subst (All (IsSound (store.taken + 1))) (sym set)
            (All-set (IsSound (store.taken + 1)) store.cloud.journals asked.0 told.0
            (written (slice_index_or store.cloud.journals asked.0 no_journal) told.0 asked.1 (seat asked there) there.lawful told.2) (later store.taken store.cloud.journals steady.journals)),
      )

  abbrev after : Seen → KeptStore
  after new = record { cloud = new; replicas = store.replicas; keys = store.keys; taken = store.taken + 1 }

  -- an event that is taken leaves it so
  pub stays_steady : (new : Seen) (event : Event) (marks : List Mark) → AreLawful store.cloud.store.sent → StepEnds store.cloud new event (Ok marks) → IsSteady (after new)
  stays_steady new event marks lawful ends =
      let was = happened store.cloud.store event ends.happening ends.taken in
      let journals = journals_for event (replica_asked store.cloud.store event) new.journals lawful refl ends.journals in
      let before : AreReplicas store.replicas store.keys store.cloud.store.replicas = record { count_is = steady.replicas; kept = steady.kept } in
      let replicas : AreReplicas store.replicas store.keys new.store.replicas =
      subst (λ (s : Store). AreReplicas store.replicas store.keys s.replicas) (sym ends.store_is) (still_replicas store.replicas store.keys store.cloud.store ends.happening was before) in
      let keys : length new.store.directory.sets ≡ store.keys = ap (λ (s : Store). length s.directory.sets) ends.store_is ∙ keys_stay store.cloud.store ends.happening was ∙ steady.keys in
      let steps = steady.steps in
      let one = ends.events_are in
      record {
        few = omega (arith, few);
        steps = omega (arith, steps, one);
        replicas = replicas.count_is;
        seats = journals.0;
        few_replicas = steady.few_replicas;
        keys = keys;
        few_keys = steady.few_keys;
        kept = replicas.kept;
        journals = journals.1;
      }

-- ---- a store that a header opens

pub opens_steady : {X : Type 0} → (header : Header) (store : KeptStore) (kept : List X) (state : X → State) (journal : X → Journal) → IsHeader header → store.cloud.store ≡ opening header
    → store.cloud.journals ≡ map journal kept → store.cloud.events ≡ 0 → store.taken ≡ 0 → store.replicas ≡ header.replicas → store.keys ≡ length header.keys
    → map state kept ≡ map (λ (number : ℕ). opening_state number store.keys) (range_with_len 0 header.replicas)
    → All (λ x. ((journal x).shut ≡ false) × IsTrue (journal x).calm × ((journal x).size ≡ 0)) kept → IsSteady store
unfolding opening
opens_steady {X} header store kept state journal is store_is journals_are none taken replicas keys states fresh =
    let first : List Replica = map (opening_replica (length header.keys)) (range_with_len 0 header.replicas) in
    let seats_are : store.cloud.store.replicas ≡ map (opening_replica (length header.keys)) (range_with_len 0 header.replicas) = ap (λ (s : Store). s.replicas) store_is in
    let many : length store.cloud.store.replicas ≡ header.replicas =
    ap (λ (rs : List Replica). length rs) seats_are ∙ length-map (range_with_len 0 header.replicas) (opening_replica (length header.keys)) ∙ length-range_with_len 0 header.replicas in
    let kept_are : length kept ≡ header.replicas =
    sym (length-map kept state) ∙ ap (λ (ss : List State). length ss) states ∙ length-map (range_with_len 0 header.replicas) (λ (number : ℕ). opening_state number store.keys) ∙ length-range_with_len 0 header.replicas in
    let journals_count : length store.cloud.journals ≡ store.replicas = ap (λ (js : List Journal). length js) journals_are ∙ length-map kept journal ∙ kept_are ∙ sym replicas in
    let few = is.replicas.1 in
    let few_keys = is.keys.1 in
    let fits : All (FitsReplica store.keys) (map (opening_replica (length header.keys)) (range_with_len 0 header.replicas)) =
    All-map (FitsReplica store.keys) (opening_replica (length header.keys)) (range_with_len 0 header.replicas) (λ i d within. length-replicate (length header.keys) _ ∙ sym keys) in
    record {
      few = omega (arith, taken);
      steps = omega (arith, none);
      replicas = many ∙ sym replicas;
      seats = journals_count;
      few_replicas = omega (arith, replicas, few);
      keys = ap (λ (s : Store). length s.directory.sets) store_is ∙ length-map (map key_set header.keys) (λ (key : KeySet). key.set.0) ∙ length-map header.keys key_set ∙ sym keys;
      few_keys = omega (arith, keys, few_keys);
      kept = subst (All (FitsReplica store.keys)) (sym seats_are) fits;
      journals = subst (All (IsSound store.taken)) (sym journals_are)
          (All-map (IsSound store.taken) journal kept (λ i d within. let one = fresh i d within in let size = one.2 in record { is_open = one.0; calm = one.1; small = omega (arith, size) }));
    }

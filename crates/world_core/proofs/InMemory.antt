-- Replicas in memory keep no journal, so that no step fails by one.
use Rattle.std.proofs.Common.{◌≡◌, ℕ, zero, suc, ◌<◌, ◌≤◌, Bool, true, false, cond, ltb, List, [], ◌∷◌, length, map, get_or, refl, sym, ap, ◌∙◌, subst, arith}
use Rattle.std.specs.Prelude.{slice_get, slice_index_or, sum_by, Option, Some, None, Result, Ok, Err}
use Rattle.std.specs.Option.{option_map_or}
use Rattle.std.proofs.Math.ListN.{get_or-eq_default}
use Rattle.std.proofs.lemmas.Bool.{ltb-true, ltb-false}
use Rattle.std.proofs.lemmas.List.{length-map}
use Rattle.std.proofs.lemmas.List.Sums.{get_or-le-sum_by}
use Rattle.std.proofs.lemmas.Option.{slice_get_within, get_or_from_slice_get}
use Rattle.wire_msg.specs.declared.actor.Actor.{Actor}
use Rattle.wire_msg.specs.declared.actor.Actor.TheVariants as to
use Rattle.wire_msg.specs.declared.message.Message.{Message}
use Rattle.wire_msg.specs.declared.outputs.Post.{Post}
use Rattle.wire_msg.specs.Sizes.{frame_size, bulk_of}
use Rattle.replica_core.specs.declared.journal.TakeFault.{TakeFault}
use Rattle.replica_core.specs.declared.journal.TakeFault.TheVariants as take
use Rattle.run_marks.specs.declared.mark.Mark.{Mark}
use Rattle.world_core.specs.declared.event.Event.{Event}
use Rattle.world_core.specs.declared.event.Event.TheVariants.{Start, Deliver, StopReplica, StopProxy, GiveUp, Publish}
use Rattle.world_core.specs.declared.event.StepFault.{StepFault}
use Rattle.world_core.specs.declared.event.StepFault.TheVariants.{NoActor, NoKey, WrongMode, NoMessage, NoCall, Limit, Taker, NoMemory}
use Rattle.world_core.specs.State.{Store, Replica, no_replica, replica_at}
use Rattle.world_core.specs.Step.{step}
use Rattle.world_core.specs.Ends.{Seen, Journal, no_journal, Journals, JournalsFor, StepEnds, taken_by_replica, replica_asked}
use Rattle.world_core.specs.InMemory.{EndsInMemory}

-- what is seen of a replica in memory
abbrev pub no_disk : Journal
no_disk = record { faults = 0; shut = false; calm = true; size = 0 }

all_same : {X : Type 0} (seats : List X) (d : ℕ) → d < length seats → get_or (map (λ (x : X). no_disk) seats) d no_journal ≡ no_disk
all_same [] d within = absurd (omega (arith, within))
all_same (seat ∷ seats) zero within = refl
all_same (seat ∷ seats) (suc d) within = all_same seats d (omega (arith, within))

pub journals_same : {X : Type 0} (seats : List X) (f : X → Replica) (replicas : List Replica) (journals : List Journal) → map f seats ≡ replicas → map (λ (x : X). no_disk) seats ≡ journals
    → (d : ℕ) → d < length replicas → slice_index_or journals d no_journal ≡ no_disk
journals_same seats f replicas journals a b d within =
    ap (λ (js : List Journal). get_or js d no_journal) (sym b) ∙ all_same seats d (omega (arith, within, ap length a, length-map seats f))

-- all replicas lie in memory, and the messages are within their limit
pub record LiesInMemory (seen : Seen) : Type 0 where
  pub journals : (d : ℕ) → d < length seen.store.replicas → slice_index_or seen.journals d no_journal ≡ no_disk
  pub small : (bulk_of seen.store.sent).bytes ≤ 536870912

-- the replica that is asked is there, and the message is one that was sent
abbrev IsThere : Store → ℕ × Message → Type 0
IsThere store asked = (asked.0 < length store.replicas) × (frame_size asked.1 ≤ (bulk_of store.sent).bytes)

running : (store : Store) (d : ℕ) → (replica_at store d).stopped ≡ false → d < length store.replicas
running store d on = by (ltb d (length store.replicas)) refl
  where
    by : (b : Bool) → ltb d (length store.replicas) ≡ b → d < length store.replicas
    by true e = ltb-true d (length store.replicas) e
    by false e =
        let none : replica_at store d ≡ no_replica = get_or-eq_default store.replicas no_replica (ltb-false d (length store.replicas) e) in
        let stopped : (replica_at store d).stopped ≡ true = ap (λ (r : Replica). r.stopped) none in
        absurd (cc)

taken_there : (store : Store) (to' : Actor) (message : Message) (asked : ℕ × Message) → frame_size message ≤ (bulk_of store.sent).bytes → taken_by_replica store to' message ≡ Some asked → IsThere store asked
taken_there store (to.Replica d) message asked small e = by (replica_at store d).stopped refl e
  where
    here : (ℕ × Message) → ℕ × Message
    here a = a

    by : (b : Bool) → (replica_at store d).stopped ≡ b → cond b None (Some (here (d, message))) ≡ Some asked → IsThere store asked
    by true on f = absurd (cc)
    by false on f =
        let same : here (d, message) ≡ asked = cc in
        subst (IsThere store) same (running store d on, small)
taken_there store to.Directory message asked small e = absurd (cc)
taken_there store (to.Proxy p) message asked small e = absurd (cc)

picked_there : (store : Store) (n : ℕ) (picked : Option Post) (asked : ℕ × Message) → slice_get store.sent n ≡ picked → option_map_or (λ (post : Post). taken_by_replica store post.to post.message) picked None ≡ Some asked → IsThere store asked
picked_there store n None asked is e = absurd (cc)
picked_there store n (Some post) asked is e =
    let size : Post → ℕ = λ p. frame_size p.message in
    let at : get_or store.sent n post ≡ post = get_or_from_slice_get store.sent n post post is in
    let small : frame_size (get_or store.sent n post).message ≤ sum_by size store.sent = get_or-le-sum_by size store.sent n post (slice_get_within store.sent n post is) in
    taken_there store post.to post.message asked (subst (λ (p : Post). frame_size p.message ≤ sum_by size store.sent) at small) e

asked_there : (store : Store) (event : Event) (asked : ℕ × Message) → replica_asked store event ≡ Some asked → IsThere store asked
asked_there store (Deliver n) asked e = picked_there store n (slice_get store.sent n) asked refl e
asked_there store (Start p key work) asked e = absurd (cc)
asked_there store (StopReplica d) asked e = absurd (cc)
asked_there store (StopProxy p) asked e = absurd (cc)
asked_there store (GiveUp p seq) asked e = absurd (cc)
asked_there store (Publish table) asked e = absurd (cc)

never_fails : (old new : Seen) (asked : Option (ℕ × Message)) (fault : TakeFault) → LiesInMemory old → ((a : ℕ × Message) → asked ≡ Some a → IsThere old.store a) → JournalsFor asked old.journals new.journals (Some fault) → ⊥
never_fails old new None fault lies there fails = fails
never_fails old new (Some asked) fault lies there fails = by fault fails.2
  where
    is : slice_index_or old.journals asked.0 no_journal ≡ no_disk
    is = lies.journals asked.0 (there asked refl).0

    by : (f : TakeFault) → Journals (slice_index_or old.journals asked.0 no_journal) fails.0 asked.1 (Some f) → ⊥
    by take.Shut e = let open_ : (slice_index_or old.journals asked.0 no_journal).shut ≡ false = ap (λ (j : Journal). j.shut) is in let shut = e.0 in absurd (cc)
    by (take.Full bytes) e =
        let size : (slice_index_or old.journals asked.0 no_journal).size ≡ 0 = ap (λ (j : Journal). j.size) is in
        let much = e.1 in
        let small = (there asked refl).1 in
        let all = lies.small in
        omega (arith, size, much.1, much.2, small, all)
    by take.DiskFault e = let calm : (slice_index_or old.journals asked.0 no_journal).calm ≡ true = ap (λ (j : Journal). j.calm) is in let fell = e.1 in absurd (cc)
    by (take.NoMemory error) e = e

-- how a step ends over replicas in memory
pub ends_in_memory : (old new : Seen) (event : Event) (result : Result (List Mark) StepFault) → LiesInMemory old → StepEnds old new event result → EndsInMemory old new (step old.store event) result
ends_in_memory old new event (Ok marks) lies ends = record { happening = ends.happening; taken = ends.taken; marks_are = ends.marks_are; store_is = ends.store_is; events_are = ends.events_are }
ends_in_memory old new event (Err (Taker fault)) lies ends = never_fails old new (replica_asked old.store event) fault lies (asked_there old.store event) ends.journals
ends_in_memory old new event (Err (NoMemory error)) lies ends = ends
ends_in_memory old new event (Err NoActor) lies ends = ends
ends_in_memory old new event (Err NoKey) lies ends = ends
ends_in_memory old new event (Err WrongMode) lies ends = ends
ends_in_memory old new event (Err (NoMessage n)) lies ends = ends
ends_in_memory old new event (Err NoCall) lies ends = ends
ends_in_memory old new event (Err (Limit what n)) lies ends = ends

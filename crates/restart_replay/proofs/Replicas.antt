-- An event leaves as many replicas and keys as there were, and each replica keeps as many keys.
use Rattle.std.proofs.Common.{◌≡◌, ℕ, ◌<◌, ◌≤◌, zero, suc, Bool, true, false, List, [], ◌∷◌, length, refl, sym, ap, ◌∙◌, subst, arith, inl, inr}
use Rattle.std.specs.Prelude.{slice_set, Option, Some, None}
use Rattle.std.specs.List.{All}
use Rattle.std.proofs.Math.ListN.{get_or-eq_default}
use Rattle.std.proofs.lemmas.Bool.{cases_lt}
use Rattle.std.proofs.lemmas.List.{length-set}
use Rattle.std.proofs.lemmas.List.Elements.{All-set}
use Rattle.span_base.specs.declared.ids.KeyId.{KeyId}
use Rattle.wire_msg.specs.declared.message.Message.{Message}
use Rattle.replica_core.specs.Rule as replica
use Rattle.world_core.specs.State.{Store, Replica, no_replica, replica_at}
use Rattle.world_core.specs.Step.{Happening, with_replica}
use Rattle.world_core.specs.Stores.{FitsReplica}
use Rattle.register_law.specs.Cases.{Happened, replica_stopped, replica_took}
use Rattle.register_law.proofs.Basics.{is_made}
use Rattle.register_law.proofs.Growth.{directory_grows}

-- so many replicas, each of which keeps so many keys
pub record AreReplicas (count keys : ℕ) (replicas : List Replica) : Type 0 where
  pub count_is : length replicas ≡ count
  pub kept : All (FitsReplica keys) replicas

pub replaced : (count keys : ℕ) (replicas : List Replica) (d : ℕ) (new : Replica) → AreReplicas count keys replicas → FitsReplica keys new → AreReplicas count keys (slice_set replicas d new)
replaced count keys replicas d new are fits = record {
  count_is = length-set replicas d new ∙ are.count_is;
  kept = All-set (FitsReplica keys) replicas d new fits are.kept;
}

step_keeps : (state : replica.State) (message : Message) (o : Option KeyId) → length (replica.step_at state message o).state.kept ≡ length state.kept
step_keeps state message None = refl
step_keeps state message (Some key) = length-set state.kept key.0 _

pub keeps_keys : (state : replica.State) (message : Message) → length (replica.step state message).state.kept ≡ length state.kept
keeps_keys state message = step_keeps state message (replica.request_key message)

-- a replica that runs is there
pub running : (store : Store) (d : ℕ) → (replica_at store d).stopped ≡ false → d < length store.replicas
running store d on =
    elim (cases_lt d (length store.replicas)) as (λ _. d < length store.replicas) [
      | inl within ↦ within
      | inr past ↦
          let stopped : (replica_at store d).stopped ≡ true = ap (λ (r : Replica). r.stopped) (get_or-eq_default store.replicas no_replica past) in
          absurd (cc)
    ]

-- what a replica that is there, or a change of one that isn't, does to all
changed : (count keys : ℕ) (s : Store) (d : ℕ) (b : Bool) (state : replica.State) → AreReplicas count keys s.replicas → (d < length s.replicas → length state.kept ≡ keys)
    → AreReplicas count keys (with_replica s d (record { stopped = b; state = state })).replicas
changed count keys s d b state are fits =
    elim (cases_lt d (length s.replicas)) as (λ _. AreReplicas count keys (slice_set s.replicas d (record { stopped = b; state = state }))) [
      | inl within ↦ replaced count keys s.replicas d (record { stopped = b; state = state }) are (fits within)
      | inr past ↦ subst (AreReplicas count keys) (sym (set_past s.replicas d (record { stopped = b; state = state }) past)) are
    ]
  where
    set_past : (xs : List Replica) (i : ℕ) (x : Replica) → length xs ≤ i → slice_set xs i x ≡ xs
    set_past [] i x past = refl
    set_past (y ∷ ys) zero x past = absurd (omega (arith, past))
    set_past (y ∷ ys) (suc i) x past = ap (λ (zs : List Replica). y ∷ zs) (set_past ys i x (omega (arith, past)))

pub fits_at : (count keys : ℕ) (s : Store) (d : ℕ) → AreReplicas count keys s.replicas → d < length s.replicas → length (replica_at s d).state.kept ≡ keys
fits_at count keys s d are within = are.kept d no_replica within

pub still_replicas : (count keys : ℕ) (s : Store) (h : Happening) → Happened s h → AreReplicas count keys s.replicas → AreReplicas count keys h.store.replicas
still_replicas count keys s h (replica_stopped d is) are =
    subst (λ (x : Happening). AreReplicas count keys x.store.replicas) (sym is) (changed count keys s d true (replica_at s d).state are (λ within. fits_at count keys s d are within))
still_replicas count keys s h (replica_took d message taken is) are =
    subst (λ (x : Happening). AreReplicas count keys x.store.replicas) (sym is)
    (changed count keys s d false (replica.step (replica_at s d).state message).state are (λ within. keeps_keys (replica_at s d).state message ∙ fits_at count keys s d are within))
still_replicas count keys s h o are = subst (λ (x : Happening). AreReplicas count keys x.store.replicas) (sym (is_made s h o)) are

pub keys_stay : (s : Store) (h : Happening) → Happened s h → length h.store.directory.sets ≡ length s.directory.sets
keys_stay s h is = ap (λ xs. length xs) (directory_grows s h is).sets

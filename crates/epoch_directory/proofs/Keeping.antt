-- What is true of every directory is true of a new one, and after a table is published.
use Rattle.std.proofs.Common.{◌≡◌, ℕ, ◌-◌, ◌<◌, ◌≤◌, Bool, true, false, cond, List, [], map, Option, Some, None, length, get_or, refl, ap, ◌∙◌, sym, subst, arith}
use Rattle.std.specs.Prelude.{unwrap_or}
use Rattle.std.specs.List.{All}
use Rattle.std.proofs.lemmas.List.{length-map, length-replicate, get_or-map}
use Rattle.std.proofs.lemmas.List.Elements.{All-nil, All-cons, All-map, All-replicate, All-from_get_or}
use Rattle.std.proofs.lemmas.List.FromFn.{length-map-range_with_len, get_or-map-range_with_len}
use Rattle.span_base.specs.declared.policy.Policy.{Policy}
use Rattle.span_base.specs.declared.policy.Policy.TheVariants.{Direct, Relay, Strong}
use Rattle.span_base.specs.Policy.{IsSoundPolicy, IsQuorumPolicy}
use Rattle.epoch_directory.specs.declared.table.KeySet.{KeySet}
use Rattle.epoch_directory.specs.declared.table.SetPolicy.{SetPolicy}
use Rattle.epoch_directory.specs.State.{State, opening, latest, policy_in, no_policy, table_in, set_count, is_strong_set, HasSameMode, IsTable, IsPublished, IsDirectory}
use Rattle.epoch_directory.specs.Tables.{listed, fault_of_listed, table_fault, policy_after, table_after, IsNextTable}
use Rattle.epoch_directory.proofs.Lines.{line_of_listed}
use Rattle.epoch_directory.proofs.LeastFault.{right_everywhere}
use Rattle.epoch_directory.proofs.Quorums.{listed_quorum}

-- a policy has its own mode
same_mode : (policy : Policy) → HasSameMode policy policy
same_mode (Direct f replicas primary) = tt
same_mode (Relay f replicas primary parent) = tt
same_mode (Strong f replicas members) = tt

-- a new directory
pub opening_kept : (keys : List KeySet) (first : List Policy) → All (λ key. key.set.0 < length first) keys → All IsSoundPolicy first → length first ≤ 64 → length keys ≤ 1000 → IsDirectory (opening keys first)
opening_kept keys first sets policies few_sets few_keys = record {
  some = omega arith;
  few = omega arith;
  tables = All-cons (IsTable first) first [] (record { whole = refl; sound = policies; modes = λ set _. same_mode (get_or first set no_policy) }) (All-nil (IsTable first));
  few_sets = few_sets;
  few_keys = omega (arith, length-map keys (λ (key : KeySet). key.set.0));
  sets = All-map (λ set. set < length first) (λ (key : KeySet). key.set.0) keys sets;
  keys = length-replicate (length keys) 1 ∙ sym (length-map keys (λ (key : KeySet). key.set.0));
  current = All-replicate (IsPublished (opening keys first)) (length keys) 1 (record { first = omega arith; last = omega arith });
}

-- the set of a key exists
pub set_exists : (keys : List KeySet) (i count : ℕ) (key : KeySet) → All (λ set. set < count) (map (λ (k : KeySet). k.set.0) keys) → i < length keys → key ≡ get_or keys i key → key.set.0 < count
set_exists keys i count key sets within read =
    let below : get_or (map (λ (k : KeySet). k.set.0) keys) i 0 < count = sets i 0 (omega (arith, length-map keys (λ (k : KeySet). k.set.0))) in
    let same : get_or (map (λ (k : KeySet). k.set.0) keys) i 0 ≡ (get_or keys i key).set.0 = get_or-map (λ (k : KeySet). k.set.0) keys i key 0 within in
    omega (arith, same ∙ ap (λ (k : KeySet). k.set.0) (sym read))

-- a quorum policy is sound
quorum_is_sound : (policy : Policy) → IsQuorumPolicy policy → IsSoundPolicy policy
quorum_is_sound (Direct f replicas primary) quorums = absurd quorums
quorum_is_sound (Relay f replicas primary parent) quorums = absurd quorums
quorum_is_sound (Strong f replicas members) quorums = quorums

-- a set's policy in the next epoch is sound, and has the mode of the set's first one
policy_after_right : (state : State) (table : List SetPolicy) (set : ℕ) → IsDirectory state → IsNextTable state table → table_fault state table ≡ None → set < set_count state
    → IsSoundPolicy (policy_after state table set) × HasSameMode (policy_in state 1 set) (policy_after state table set)
policy_after_right state table set kept next right exists = at (listed table set) refl where
  first : Policy
  first = policy_in state 1 set

  strong : (policy : Policy) (b : Bool) → is_strong_set state set ≡ b → listed table set ≡ Some policy → (line : SetPolicy) → (is_strong_set state line.set.0 ≡ false → IsSoundPolicy line.policy) → line.set.0 ≡ set → line.policy ≡ policy → IsSoundPolicy policy
  strong policy true e there line sound here same =
      let nothing : fault_of_listed set (listed table set) ≡ None = sym (ap (λ b. cond b (fault_of_listed set (listed table set)) None) e) ∙ right_everywhere state table right set exists in
      quorum_is_sound policy (listed_quorum set (listed table set) policy there nothing)
  strong policy false e there line sound here same =
      subst IsSoundPolicy same (sound (ap (is_strong_set state) here ∙ e))

  at : (o : Option Policy) → listed table set ≡ o → IsSoundPolicy (unwrap_or o (policy_in state (latest state) set)) × HasSameMode first (unwrap_or o (policy_in state (latest state) set))
  at None e =
      let before : IsTable (table_in state 1) (table_in state (latest state)) = kept.tables (latest state - 1) [] (omega arith) in
      (before.sound set no_policy (omega arith), before.modes set exists)
  at (Some policy) e =
      let sound = line_of_listed (λ (l : SetPolicy). is_strong_set state l.set.0 ≡ false → IsSoundPolicy l.policy) table set policy next.sound e in
      let mode = line_of_listed (λ (l : SetPolicy). HasSameMode (policy_in state 1 l.set.0) l.policy) table set policy next.modes e in
      (strong policy (is_strong_set state set) refl e sound.0 sound.1 sound.2 sound.3, subst (HasSameMode first) mode.3 (subst (λ (n : ℕ). HasSameMode (policy_in state 1 n) mode.0.policy) mode.2 mode.1))

-- the table of the next epoch is as a table has to be
pub table_after_whole : (state : State) (table : List SetPolicy) → IsDirectory state → IsNextTable state table → table_fault state table ≡ None → IsTable (table_in state 1) (table_after state table)
table_after_whole state table kept next right = record {
  whole = length-map-range_with_len (policy_after state table) 0 (set_count state);
  sound = All-from_get_or IsSoundPolicy (table_after state table) no_policy (λ i within.
      let exists : i < set_count state = omega (arith, length-map-range_with_len (policy_after state table) 0 (set_count state)) in
      subst IsSoundPolicy (sym (at i exists)) (policy_after_right state table i kept next right exists).0);
  modes = λ set exists. subst (HasSameMode (policy_in state 1 set)) (sym (at set exists)) (policy_after_right state table set kept next right exists).1;
} where
  at : (set : ℕ) → set < set_count state → get_or (table_after state table) set no_policy ≡ policy_after state table set
  at set exists =
      get_or-map-range_with_len (policy_after state table) 0 (set_count state) set set no_policy exists (omega arith)

-- What a contract sees of a directory.
use Rattle.std.specs.Prelude.{◌≡◌, ℕ, ◌-◌, ◌≤◌, ◌<◌, Bool, true, false, ◌&&◌, nat_lt, List, [], ◌∷◌, length, map, replicate, slice_index, slice_index_or}
use Rattle.std.specs.List.{All}
use Rattle.span_base.specs.DcSet.{no_centre}
use Rattle.span_base.specs.Policy.{IsSoundPolicy}
use Rattle.span_base.specs.declared.ids.KeyId.{KeyId}
use Rattle.span_base.specs.declared.policy.Policy.{Policy}
use Rattle.span_base.specs.declared.policy.Policy.TheVariants.{Direct, Relay, Strong}
use Rattle.epoch_directory.specs.declared.table.KeySet.{KeySet}

-- for each key its set and its current epoch, and the published tables: that of epoch e is number e - 1, and has a policy for each set
pub record State : Type 0 where
  pub sets : List ℕ
  pub tables : List (List Policy)
  pub current : List ℕ

-- the state of these keys, tables and current epochs
abbrev pub state_of : List KeySet → List (List Policy) → List ℕ → State
state_of keys tables current =
    record { sets = map (λ key. key.set.0) keys; tables = tables; current = current }

-- at first each key is in epoch 1
abbrev pub opening : List KeySet → List Policy → State
opening keys first = state_of keys (first ∷ []) (replicate (length keys) 1)

-- the latest epoch: so many are published
abbrev pub latest : State → ℕ
latest state = length state.tables

-- the policies of the sets in an epoch
abbrev pub table_in : State → ℕ → List Policy
table_in state epoch = slice_index_or state.tables (epoch - 1) []

-- stands for the policy of an epoch or a set that doesn't exist
abbrev pub no_policy : Policy
no_policy = Direct 0 no_centre []

-- the policy of a set in an epoch
abbrev pub policy_in : State → ℕ → ℕ → Policy
policy_in state epoch set = slice_index_or (table_in state epoch) set no_policy

-- how many sets there are
abbrev pub set_count : State → ℕ
set_count state = length (table_in state 1)

-- the policy is strong
abbrev pub is_strong : Policy → Bool
is_strong (Direct f replicas primary) = false
is_strong (Relay f replicas primary parent) = false
is_strong (Strong f replicas members) = true

-- the set's first policy is strong
abbrev pub is_strong_set : State → ℕ → Bool
is_strong_set state set = is_strong (policy_in state 1 set)

-- the set of a key
abbrev pub set_of : State → KeyId → ℕ
set_of state key = slice_index state.sets key.0

-- the key is one of the directory's, and its set is strong
abbrev pub is_strong_key : State → KeyId → Bool
is_strong_key state key = nat_lt key.0 (length state.sets) && is_strong_set state (set_of state key)

-- the current epoch of a key
abbrev pub current_of : State → KeyId → ℕ
current_of state key = slice_index state.current key.0

-- the epoch is published
pub record IsPublished (state : State) (epoch : ℕ) : Type 0 where
  pub first : 1 ≤ epoch
  pub last : epoch ≤ latest state

-- both are direct, both are relay, or both are strong
abbrev pub HasSameMode : Policy → Policy → Type 0
HasSameMode (Direct f replicas primary) (Direct g others near) = Unit {0}
HasSameMode (Relay f replicas primary parent) (Relay g others near hops) = Unit {0}
HasSameMode (Strong f replicas members) (Strong g others quorums) = Unit {0}
HasSameMode _ _ = ⊥

-- a policy for each set, sound and of the mode of the set's first one
pub record IsTable (first table : List Policy) : Type 0 where
  pub whole : length table ≡ length first
  pub sound : All IsSoundPolicy table
  pub modes : (set : ℕ) → set < length first → HasSameMode (slice_index_or first set no_policy) (slice_index_or table set no_policy)

-- what is true of every directory
pub record IsDirectory (state : State) : Type 0 where
  pub some : 1 ≤ latest state
  pub few : latest state ≤ 1000
  pub tables : All (IsTable (table_in state 1)) state.tables
  pub few_sets : set_count state ≤ 64
  pub few_keys : length state.sets ≤ 1000
  pub sets : All (λ set. set < set_count state) state.sets
  pub keys : length state.current ≡ length state.sets
  pub current : All (IsPublished state) state.current

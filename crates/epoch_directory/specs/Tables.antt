-- How a table opens the next epoch, and what may be wrong with it.
use Rattle.std.specs.Prelude.{◌≡◌, ◌≢◌, ℕ, ◌+◌, ◌<◌, ◌==◌, Bool, false, if◌then◌else◌, List, [], ◌∷◌, ◌++◌, map, Option, Some, None, is_some, option_map, unwrap_or, Result, Ok, Err}
use Rattle.std.specs.List.{All, AllPairs, find, range_with_len}
use Rattle.std.specs.Option.{option_map_or}
use Rattle.span_base.specs.Policy.{IsSoundPolicy}
use Rattle.span_base.specs.declared.policy.Policy.{Policy}
use Rattle.span_base.specs.declared.policy.Policy.TheVariants.{Direct, Relay, Strong}
use Rattle.wire_msg.specs.Sound.{are_quorums}
use Rattle.epoch_directory.specs.declared.table.SetPolicy.{SetPolicy}
use Rattle.epoch_directory.specs.declared.table.PublishFault.{PublishFault}
use Rattle.epoch_directory.specs.declared.table.PublishFault.TheVariants.{Limit, MissingSet, NotQuorum, NoMemory}
use Rattle.epoch_directory.specs.State.{State, latest, policy_in, set_count, is_strong_set, HasSameMode}

-- the line is that of the set
abbrev pub is_line_of : ℕ → SetPolicy → Bool
is_line_of set line = line.set.0 == set

-- the policy that a table lists for a set
abbrev pub listed : List SetPolicy → ℕ → Option Policy
listed table set = option_map (λ line. line.policy) (find (is_line_of set) table)

-- what a table has to be before it is judged: each set that it lists exists, none stands twice, each policy has the mode of its set's first one, and an eventual set's is sound
pub record IsNextTable (state : State) (table : List SetPolicy) : Type 0 where
  pub exist : All (λ line. line.set.0 < set_count state) table
  pub once : AllPairs (λ line other. line.set.0 ≢ other.set.0) table
  pub modes : All (λ line. HasSameMode (policy_in state 1 line.set.0) line.policy) table
  pub sound : All (λ line. is_strong_set state line.set.0 ≡ false → IsSoundPolicy line.policy) table

-- the policy is strong, and its quorums meet
abbrev pub is_quorum_policy : Policy → Bool
is_quorum_policy (Direct f replicas primary) = false
is_quorum_policy (Relay f replicas primary parent) = false
is_quorum_policy (Strong f replicas members) = are_quorums f replicas members

-- what is wrong with what a table lists for a strong set
abbrev pub fault_of_listed : ℕ → Option Policy → Option PublishFault
fault_of_listed set None = Some (MissingSet (record { 0 = set }))
fault_of_listed set (Some policy) = if is_quorum_policy policy then None else Some (NotQuorum (record { 0 = set }))

-- what is wrong with a table at a set: nothing may be at an eventual one
abbrev pub fault_at : State → List SetPolicy → ℕ → Option PublishFault
fault_at state table set = if is_strong_set state set then fault_of_listed set (listed table set) else None

-- what is wrong with a table at the least set at which something is
unfoldable pub table_fault : State → List SetPolicy → Option PublishFault
table_fault state table =
    option_map_or (fault_at state table) (find (λ set. is_some (fault_at state table set)) (range_with_len 0 (set_count state))) None

-- the epoch that a table opens, or why it opens none
abbrev pub next_epoch : State → List SetPolicy → Result ℕ PublishFault
next_epoch state table =
    if latest state == 1000 then Err (Limit 1001) else option_map_or (λ fault. Err fault) (table_fault state table) (Ok (latest state + 1))

-- how publishing a table ends: memory is asked for only where nothing else is wrong
abbrev pub PublishEnds : State → List SetPolicy → Result ℕ PublishFault → Type 0
PublishEnds state table (Err (NoMemory error)) = next_epoch state table ≡ Ok (latest state + 1)
PublishEnds state table result = result ≡ next_epoch state table

-- the policy of a set in the next epoch: the listed one, or else that of the latest epoch
abbrev pub policy_after : State → List SetPolicy → ℕ → Policy
policy_after state table set = unwrap_or (listed table set) (policy_in state (latest state) set)

-- the policies of the sets in the next epoch
abbrev pub table_after : State → List SetPolicy → List Policy
table_after state table = map (policy_after state table) (range_with_len 0 (set_count state))

-- one more epoch is published; each key stays in its own
abbrev pub after_publish : State → List SetPolicy → State
after_publish state table =
    record { sets = state.sets; tables = state.tables ++ table_after state table ∷ []; current = state.current }

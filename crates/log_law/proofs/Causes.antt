-- What is wrong with a table is wrong at one of the sets.
use Rattle.std.proofs.Common.{◌≡◌, ℕ, zero, suc, ◌+◌, ◌<◌, Bool, true, false, List, refl, arith}
use Rattle.std.specs.Prelude.{if◌then◌else◌, Option, Some, None, is_some}
use Rattle.std.specs.Option.{option_map_or}
use Rattle.std.specs.List.{find, range_with_len}
use Rattle.span_base.specs.declared.policy.Policy.{Policy}
use Rattle.epoch_directory.specs.declared.table.SetPolicy.{SetPolicy}
use Rattle.epoch_directory.specs.declared.table.PublishFault.{PublishFault}
use Rattle.epoch_directory.specs.declared.table.PublishFault.TheVariants.{Limit, MissingSet, NotQuorum, NoMemory}
use Rattle.epoch_directory.specs.State.{State, set_count, is_strong_set}
use Rattle.epoch_directory.specs.Tables.{listed, is_quorum_policy, fault_of_listed, fault_at, table_fault}
use Rattle.log_law.proofs.Basics.{chosen}

-- the set that is told is below this number
abbrev pub IsBelow : ℕ → Option PublishFault → Type 0
IsBelow n None = Unit {0}
IsBelow n (Some (MissingSet set)) = set.0 < n
IsBelow n (Some (NotQuorum set)) = set.0 < n
IsBelow n (Some (Limit number)) = Unit {0}
IsBelow n (Some (NoMemory error)) = Unit {0}

-- what is found in a range stands in it
found_below : (k n set : ℕ) (test : ℕ → Bool) → find test (range_with_len k n) ≡ Some set → set < k + n
found_below k zero set test h = absurd (cc)
found_below k (suc n) set test h = by (test k) h (found_below (k + 1) n set test)
  where
    by : (b : Bool) → (if b then Some k else find test (range_with_len (k + 1) n)) ≡ Some set → (find test (range_with_len (k + 1) n) ≡ Some set → set < k + 1 + n) → set < k + suc n
    by true e later = let same : k ≡ set = cc in omega (arith, same)
    by false e later = let lt = later e in omega (arith, lt)

listed_below : (n set : ℕ) (o : Option Policy) → set < n → IsBelow n (fault_of_listed set o)
listed_below n set None lt = lt
listed_below n set (Some policy) lt = chosen (IsBelow n) (is_quorum_policy policy) None (Some (NotQuorum (record { 0 = set }))) tt lt

at_below : (state : State) (table : List SetPolicy) (n set : ℕ) → set < n → IsBelow n (fault_at state table set)
at_below state table n set lt = chosen (IsBelow n) (is_strong_set state set) (fault_of_listed set (listed table set)) None (listed_below n set (listed table set) lt) tt

pub fault_below : (state : State) (table : List SetPolicy) → IsBelow (set_count state) (table_fault state table)
unfolding table_fault
fault_below state table = by (find (λ set. is_some (fault_at state table set)) (range_with_len 0 (set_count state))) refl
  where
    by : (o : Option ℕ) → find (λ set. is_some (fault_at state table set)) (range_with_len 0 (set_count state)) ≡ o → IsBelow (set_count state) (option_map_or (fault_at state table) o None)
    by None is = tt
    by (Some set) is = let lt = found_below 0 (set_count state) set (λ set. is_some (fault_at state table set)) is in at_below state table (set_count state) set (omega (arith, lt))

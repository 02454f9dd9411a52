-- How publishing a faulty table ends: want of memory is never what is wrong with a table.
use Rattle.std.proofs.Common.{◌≡◌, ℕ, ◌+◌, ◌==◌, Bool, true, false, cond, List, Option, Some, None, sym, ap, ◌∙◌}
use Rattle.std.specs.Prelude.{Ok, Err, is_some}
use Rattle.std.specs.List.{find, range_with_len}
use Rattle.std.specs.Option.{option_map_or}
use Rattle.span_base.specs.declared.policy.Policy.{Policy}
use Rattle.epoch_directory.specs.declared.table.SetPolicy.{SetPolicy}
use Rattle.epoch_directory.specs.declared.table.PublishFault.{PublishFault}
use Rattle.epoch_directory.specs.declared.table.PublishFault.TheVariants.{Limit, MissingSet, NotQuorum, NoMemory}
use Rattle.epoch_directory.specs.State.{State, latest, set_count, is_strong_set}
use Rattle.epoch_directory.specs.Tables.{listed, is_quorum_policy, fault_of_listed, fault_at, table_fault, next_epoch, PublishEnds}

never_of_listed : (set : ℕ) (o : Option Policy) (error : _) → fault_of_listed set o ≡ Some (NoMemory error) → ⊥
never_of_listed set None error is = cc
never_of_listed set (Some policy) error is = by (is_quorum_policy policy) is
  where
    by : (b : Bool) → cond b None (Some (NotQuorum (record { 0 = set }))) ≡ Some (NoMemory error) → ⊥
    by true h = cc
    by false h = cc

never_at : (state : State) (table : List SetPolicy) (set : ℕ) (error : _) → fault_at state table set ≡ Some (NoMemory error) → ⊥
never_at state table set error is = by (is_strong_set state set) is
  where
    by : (b : Bool) → cond b (fault_of_listed set (listed table set)) None ≡ Some (NoMemory error) → ⊥
    by true h = never_of_listed set (listed table set) error h
    by false h = cc

never : (state : State) (table : List SetPolicy) (error : _) → table_fault state table ≡ Some (NoMemory error) → ⊥
unfolding table_fault
never state table error is = by (find (λ set. is_some (fault_at state table set)) (range_with_len 0 (set_count state))) is
  where
    by : (o : Option ℕ) → option_map_or (fault_at state table) o None ≡ Some (NoMemory error) → ⊥
    by None h = cc
    by (Some set) h = never_at state table set error h

told : (state : State) (table : List SetPolicy) (fault : PublishFault) → (latest state == 1000) ≡ false → Some fault ≡ table_fault state table → Err fault ≡ next_epoch state table
told state table fault room is =
    sym (ap (λ b. cond b (Err (Limit 1001)) (option_map_or (λ (f : PublishFault). Err f) (table_fault state table) (Ok (latest state + 1)))) room
    ∙ ap (λ o. option_map_or (λ (f : PublishFault). Err f) o (Ok (latest state + 1))) (sym is))

-- publishing ends by what is wrong
pub ends_faulty : (state : State) (table : List SetPolicy) (fault : PublishFault) → (latest state == 1000) ≡ false → Some fault ≡ table_fault state table → PublishEnds state table (Err fault)
ends_faulty state table (NoMemory error) room is = absurd (never state table error (sym is))
ends_faulty state table (Limit number) room is = told state table (Limit number) room is
ends_faulty state table (MissingSet set) room is = told state table (MissingSet set) room is
ends_faulty state table (NotQuorum set) room is = told state table (NotQuorum set) room is

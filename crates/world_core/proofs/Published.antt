-- What the definition says of a table that is published, by what the directory answers.
use Rattle.std.proofs.Common.{◌≡◌, ℕ, ◌+◌, ◌==◌, Bool, true, false, cond, List, [], ◌∷◌, sym, ap, ◌∙◌}
use Rattle.std.specs.Prelude.{Option, Some, None, Result, Ok, Err}
use Rattle.std.specs.List.{find, range_with_len}
use Rattle.std.specs.Option.{option_map_or}
use Rattle.span_base.specs.declared.policy.Policy.{Policy}
use Rattle.span_base.specs.declared.words.What.TheVariants.{Epochs}
use Rattle.epoch_directory.specs.declared.table.SetPolicy.{SetPolicy}
use Rattle.epoch_directory.specs.declared.table.PublishFault.{PublishFault}
use Rattle.epoch_directory.specs.declared.table.PublishFault.TheVariants as fault
use Rattle.epoch_directory.specs.State.{State, latest, set_count, is_strong_set}
use Rattle.epoch_directory.specs.Tables.{listed, is_quorum_policy, fault_of_listed, fault_at, table_fault, next_epoch, after_publish}
use Rattle.run_marks.specs.declared.mark.Mark.TheVariants as k
use Rattle.replica_core.specs.declared.journal.TakeFault.{TakeFault}
use Rattle.world_core.specs.declared.event.StepFault.{StepFault}
use Rattle.world_core.specs.declared.event.StepFault.TheVariants.{NoActor, NoKey, WrongMode, NoMessage, NoCall, Limit, Taker, NoMemory}
use Rattle.world_core.specs.State.{Store}
use Rattle.world_core.specs.Step.{Outcome, opens_none, publish}
use Rattle.world_core.specs.Ends.{Seen, Publishes, EndsAs}
use Rattle.world_core.proofs.Outcomes.{seen_same}

-- a table's fault is never the limit
listed_no_limit : (set n : ℕ) (o : Option Policy) → fault_of_listed set o ≡ Some (fault.Limit n) → ⊥
listed_no_limit set n None is = absurd (cc)
listed_no_limit set n (Some policy) is = by (is_quorum_policy policy) is
  where
    by : (b : Bool) → cond b None (Some (fault.NotQuorum (record { 0 = set }))) ≡ Some (fault.Limit n) → ⊥
    by true e = absurd (cc)
    by false e = absurd (cc)

at_no_limit : (state : State) (table : List SetPolicy) (n set : ℕ) → fault_at state table set ≡ Some (fault.Limit n) → ⊥
at_no_limit state table n set = by (is_strong_set state set)
  where
    by : (b : Bool) → cond b (fault_of_listed set (listed table set)) None ≡ Some (fault.Limit n) → ⊥
    by true e = listed_no_limit set n (listed table set) e
    by false e = absurd (cc)

no_limit : (state : State) (table : List SetPolicy) (n : ℕ) → table_fault state table ≡ Some (fault.Limit n) → ⊥
unfolding table_fault
no_limit state table n = by (find _ (range_with_len 0 (set_count state)))
  where
    by : (o : Option ℕ) → option_map_or (fault_at state table) o None ≡ Some (fault.Limit n) → ⊥
    by None e = absurd (cc)
    by (Some set) e = at_no_limit state table n set e

-- the next epoch, and the outcome, by the test at the limit and by what is wrong with the table
abbrev next_by : State → Bool → Option PublishFault → Result ℕ PublishFault
next_by state b o = cond b (Err (fault.Limit 1001)) (option_map_or (λ f. Err f) o (Ok (latest state + 1)))

abbrev published_by : Store → List SetPolicy → Bool → Option PublishFault → Outcome
published_by s table b o =
    cond b (Err (Limit Epochs 1001)) (option_map_or (opens_none s) o (Ok (record { store = record s { directory = after_publish s.directory table }; marks = k.Epoch (latest s.directory + 1) ∷ []; posts = [] })))

module _ (s : Store) (table : List SetPolicy) where
  limit_by : (n : ℕ) (b : Bool) (o : Option PublishFault) → (o ≡ Some (fault.Limit n) → ⊥) → Err (fault.Limit n) ≡ next_by s.directory b o → published_by s table b o ≡ Err (Limit Epochs n)
  limit_by n true o never is = let same : n ≡ 1001 = cc in ap (λ m. let e : Outcome = Err (Limit Epochs m) in e) (sym same)
  limit_by n false None never is = absurd (cc)
  limit_by n false (Some f) never is = absurd (never (let same : f ≡ fault.Limit n = cc in ap Some same))

-- as many epochs are published as can be
pub full : (old : State) (table : List SetPolicy) (n : ℕ) → Err (fault.Limit n) ≡ next_epoch old table → (s : Store) → s.directory ≡ old → publish s table ≡ Err (Limit Epochs n)
full old table n next s is =
    limit_by s table n (latest s.directory == 1000) (table_fault s.directory table) (no_limit s.directory table n) (next ∙ ap (λ d. next_epoch d table) (sym is))

none_no_taker : (s : Store) (f : TakeFault) (o : PublishFault) → opens_none s o ≡ Err (Taker f) → ⊥
none_no_taker s f (fault.MissingSet set) is = absurd (cc)
none_no_taker s f (fault.NotQuorum set) is = absurd (cc)
none_no_taker s f (fault.Limit n) is = absurd (cc)
none_no_taker s f (fault.NoMemory error) is = absurd (cc)

no_taker : (s : Store) (table : List SetPolicy) (f : TakeFault) → publish s table ≡ Err (Taker f) → ⊥
no_taker s table f = by (latest s.directory == 1000) (table_fault s.directory table)
  where
    by : (b : Bool) (o : Option PublishFault) → published_by s table b o ≡ Err (Taker f) → ⊥
    by true o is = absurd (cc)
    by false None is = absurd (cc)
    by false (Some x) is = none_no_taker s f x is

-- a table that isn't published
pub not_published : (old new : Seen) (before after : State) (table : List SetPolicy) (fault : StepFault) (outcome : Outcome) → outcome ≡ publish old.store table → Publishes before table after (Err fault) → old.store.directory ≡ before → new.store ≡ record old.store { directory = after } → new.journals ≡ old.journals → new.events ≡ old.events
    → EndsAs old new None outcome (Err fault)
not_published old new before after table fault outcome asked ends is store journals events = by fault ends
  where
    same : after ≡ before → new ≡ old
    same e = seen_same old new (store ∙ ap (λ (d : State). let z : Store = record old.store { directory = d } in z) (e ∙ sym is)) journals events

    by : (f : StepFault) → Publishes before table after (Err f) → EndsAs old new None outcome (Err f)
    by NoActor e = (asked ∙ e.0 old.store is, same e.1)
    by NoKey e = (asked ∙ e.0 old.store is, same e.1)
    by WrongMode e = (asked ∙ e.0 old.store is, same e.1)
    by (NoMessage n) e = (asked ∙ e.0 old.store is, same e.1)
    by NoCall e = (asked ∙ e.0 old.store is, same e.1)
    by (Limit what n) e = (asked ∙ e.0 old.store is, same e.1)
    by (Taker f) e = absurd (no_taker old.store table f (e.0 old.store is))
    by (NoMemory error) e = same e

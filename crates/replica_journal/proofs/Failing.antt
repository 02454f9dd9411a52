-- The calls of a disk in memory by which a record is appended, where one of them is to fail.
use Rattle.std.proofs.Common.{ℕ, ◌≡◌, ◌≢◌, ◌+◌, ◌-◌, ◌≤◌, ◌⊎◌, inl, inr, Bool, true, false, ◌||◌, ◌==◌, nat_lt, List, [], ◌∷◌, length, Result, Ok, Err, is_err, sym, ◌∙◌, ap, subst, arith}
use Rattle.std.specs.List.{list_all}
use Rattle.std.proofs.lemmas.Bool.{and_parts, eqb-true, eqb-false}
use Rattle.span_base.specs.Counts.{next_count}
use Rattle.span_base.specs.declared.sink.DeviceFault.{DeviceFault}
use Rattle.span_base.specs.declared.sink.DeviceFault.TheVariants as device
use Rattle.replica_journal.specs.declared.disk.Failed.{Failed}
use Rattle.replica_journal.specs.Disk.{History, Wrote, Synced, synced}
use Rattle.replica_journal.specs.Calls.{CallPlan, next_fails, is_calm, after_call}
use Rattle.replica_journal.specs.Memory.{HeldDisk, after_write, after_sync, FailsBy}
use Rattle.replica_journal.specs.Steps.{Appends, Unwritten, Unsafe, Unopened, Unsure, Done}
use Rattle.replica_journal.proofs.Counted.{all_same, none_below, grows, by_one}

-- none of the listed calls is still to fail
abbrev pub IsSteady : CallPlan → Type 0
IsSteady plan = list_all (λ n. nat_lt n (next_count plan.made)) plan.failing ≡ true

pub steady_from_calm : (plan : CallPlan) → is_calm plan ≡ true → IsSteady plan
unfolding is_calm
steady_from_calm plan calm = (and_parts (list_all (λ n. nat_lt n (next_count plan.made)) plan.failing) (plan.stop == 0) calm).0

-- so the next call fails exactly where it is stopped
steady_next : (plan : CallPlan) → IsSteady plan → next_fails plan ≡ (plan.stop == 1)
unfolding next_fails
steady_next plan steady = ap (λ b. b || (plan.stop == 1)) (none_below (next_count plan.made) plan.failing steady)

steady_after : (plan : CallPlan) (failed : Bool) → IsSteady plan → IsSteady (after_call plan failed)
steady_after plan failed steady =
    let next : ℕ = next_count plan.made in
    all_same next (next_count next) plan.failing (grows next) (by_one next) (none_below next plan.failing steady) ∙ steady

-- what a write and a sync of a disk in memory do
abbrev pub MemWrites : HeldDisk → HeldDisk → ℕ → List ℕ → Result (Unit {0}) DeviceFault → Type 0
MemWrites old new at piece result = (new ≡ after_write old at piece result) × FailsBy (next_fails old.calls) result

abbrev pub MemSyncs : HeldDisk → HeldDisk → Result (Unit {0}) Failed → Type 0
MemSyncs old new result = (new ≡ after_sync old (is_err result)) × (is_err result ≡ next_fails old.calls)

-- a call that didn't fail
record IsPassed (old new : HeldDisk) (history : History) : Type 0 where
  early : old.calls.stop ≢ 1
  counted : new.calls.stop ≡ old.calls.stop - 1
  steady : IsSteady new.calls
  told : new.history ≡ history

-- and one that did
record IsStopped (old new : HeldDisk) (history : History) : Type 0 where
  due : old.calls.stop ≡ 1
  told : new.history ≡ history

write_passed : (old new : HeldDisk) (at : ℕ) (piece : List ℕ) → IsSteady old.calls → MemWrites old new at piece (Ok tt) → IsPassed old new (Wrote at (length piece) piece ∷ old.history)
write_passed old new at piece steady does = record {
  early = eqb-false old.calls.stop 1 (sym (steady_next old.calls steady) ∙ does.1);
  counted = ap (λ (h : HeldDisk). h.calls.stop) does.0;
  steady = subst (λ (h : HeldDisk). IsSteady h.calls) (sym does.0) (steady_after old.calls false steady);
  told = ap (λ (h : HeldDisk). h.history) does.0;
}

sync_passed : (old new : HeldDisk) → IsSteady old.calls → MemSyncs old new (Ok tt) → IsPassed old new (synced old.history)
sync_passed old new steady does = record {
  early = eqb-false old.calls.stop 1 (sym (steady_next old.calls steady) ∙ sym does.1);
  counted = ap (λ (h : HeldDisk). h.calls.stop) does.0;
  steady = subst (λ (h : HeldDisk). IsSteady h.calls) (sym does.0) (steady_after old.calls false steady);
  told = ap (λ (h : HeldDisk). h.history) does.0;
}

write_stopped : (old new : HeldDisk) (at : ℕ) (piece : List ℕ) → IsSteady old.calls → MemWrites old new at piece (Err device.Failed) → IsStopped old new (Wrote at (length piece) piece ∷ old.history)
write_stopped old new at piece steady does = record {
  due = eqb-true old.calls.stop 1 (sym (steady_next old.calls steady) ∙ does.1);
  told = ap (λ (h : HeldDisk). h.history) does.0;
}

sync_stopped : (old new : HeldDisk) (failed : Failed) → IsSteady old.calls → MemSyncs old new (Err failed) → IsStopped old new old.history
sync_stopped old new failed steady does = record {
  due = eqb-true old.calls.stop 1 (sym (steady_next old.calls steady) ∙ sym does.1);
  told = ap (λ (h : HeldDisk). h.history) does.0;
}

module _ (gate : ℕ) (piece : List ℕ) (old new : HeldDisk) (steady : IsSteady old.calls) where
  -- the record behind its gate, and then that made safe and the gate opened
  abbrev pub written : History
  written = Wrote (gate + 1) (length piece) piece ∷ old.history

  abbrev pub opened : History
  opened = Wrote gate 1 (1 ∷ []) ∷ Synced ∷ written

  -- how far the calls came
  abbrev pub Stops : Result (Unit {0}) DeviceFault → Type 0
  Stops answer = (answer ≡ Err device.NoMemory) ⊎ (((old.calls.stop ≤ 2) × (new.history ≡ written)) ⊎ ((3 ≤ old.calls.stop) × (new.history ≡ opened)))

  -- the first two calls
  synced_there : (a b : HeldDisk) → a.history ≡ written → b.history ≡ synced a.history → b.history ≡ Synced ∷ written
  synced_there a b first next = next ∙ ap synced first

  opened_there : (b c : HeldDisk) → b.history ≡ Synced ∷ written → c.history ≡ Wrote gate 1 (1 ∷ []) ∷ b.history → c.history ≡ opened
  opened_there b c safe next = next ∙ ap (λ (h : History). Wrote gate 1 (1 ∷ []) ∷ h) safe

  pub stops : (answer : Result (Unit {0}) DeviceFault) → 1 ≤ old.calls.stop → old.calls.stop ≤ 4 → Appends MemWrites MemSyncs gate piece old new answer → Stops answer
  stops answer low high (Unwritten device.NoMemory w is) = inl is
  stops answer low high (Unwritten device.Failed w is) =
      let one = write_stopped old new (gate + 1) piece steady w in
      inr (inl (omega (arith, one.due), one.told))
  stops answer low high (Unsafe a failed w s is) =
      let one = write_passed old a (gate + 1) piece steady w in
      let two = sync_stopped a new failed one.steady s in
      inr (inl (omega (arith, one.early, one.counted, two.due), two.told ∙ one.told))
  stops answer low high (Unopened a b device.NoMemory w s v is) = inl is
  stops answer low high (Unopened a b device.Failed w s v is) =
      let one = write_passed old a (gate + 1) piece steady w in
      let two = sync_passed a b one.steady s in
      let three = write_stopped b new gate (1 ∷ []) two.steady v in
      inr (inr (omega (arith, one.early, one.counted, two.early, two.counted, three.due), opened_there b new (synced_there a b one.told two.told) three.told))
  stops answer low high (Unsure a b c failed w s v t is) =
      let one = write_passed old a (gate + 1) piece steady w in
      let two = sync_passed a b one.steady s in
      let three = write_passed b c gate (1 ∷ []) two.steady v in
      let four = sync_stopped c new failed three.steady t in
      inr (inr (omega (arith, one.early, one.counted, two.early, two.counted, three.early, three.counted, four.due), four.told ∙ opened_there b c (synced_there a b one.told two.told) three.told))
  stops answer low high (Done a b c w s v t is) =
      let one = write_passed old a (gate + 1) piece steady w in
      let two = sync_passed a b one.steady s in
      let three = write_passed b c gate (1 ∷ []) two.steady v in
      let four = sync_passed c new three.steady t in
      absurd (omega (arith, low, high, one.early, one.counted, two.early, two.counted, three.early, three.counted, four.early))

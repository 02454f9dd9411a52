-- What is left of a journal by a take whose disk failed in a call.
use Rattle.std.proofs.Common.{ℕ, ◌≡◌, ◌≤◌, inl, inr, true, [], ◌∷◌, ◌++◌, length, Result, Err, refl, sym, subst}
use Rattle.span_base.specs.declared.sink.DeviceFault.{DeviceFault}
use Rattle.span_base.specs.declared.sink.DeviceFault.TheVariants as device
use Rattle.wire_msg.specs.declared.message.Message.{Message}
use Rattle.wire_msg.specs.Laws.{FitsBytes}
use Rattle.replica_core.specs.declared.journal.TakeFault.{TakeFault}
use Rattle.replica_core.specs.Rule.{State}
use Rattle.replica_journal.specs.declared.replay.Place.{Place}
use Rattle.replica_journal.specs.Disk.{History}
use Rattle.replica_journal.specs.Calls.{CallPlan, is_calm, stop_in}
use Rattle.replica_journal.specs.Memory.{HeldDisk}
use Rattle.replica_journal.specs.Records.{IsRecord, body_of}
use Rattle.replica_journal.specs.Journaled.{IsKeptBy}
use Rattle.replica_journal.specs.Taken.{IsWanting, Logs, taken_by}
use Rattle.replica_journal.specs.Stopped.{KeepsStopped}
use Rattle.replica_journal.proofs.Failing.{MemWrites, MemSyncs, Stops, steady_from_calm, stops}
use Rattle.replica_journal.proofs.Restarts.{early_holds, late_holds}

module _ (state : State) (place : Place) (message : Message) (call : ℕ) (low : 1 ≤ call) (high : call ≤ 4) (history : History) (plan : CallPlan)
    (kept : IsKeptBy history state place) (calm : is_calm plan ≡ true) (sound : FitsBytes message → IsRecord (length state.kept) message) where
  abbrev old : HeldDisk
  old = record { history = history; calls = stop_in plan call }

  left : (new : HeldDisk) (answer : Result (Unit {0}) DeviceFault) → IsRecord (length state.kept) message
      → Stops place.gate (body_of message ++ 0 ∷ []) old new (steady_from_calm plan calm) answer → (answer ≡ Err device.NoMemory → ⊥) → KeepsStopped state place message call new.history
  left new answer record_is (inl lacked) none = absurd (none lacked)
  left new answer record_is (inr (inl early)) none =
      subst (λ (h : History). KeepsStopped state place message call h) (sym early.1) (early_holds state place message history kept (body_of message ++ 0 ∷ []) record_is refl call early.0)
  left new answer record_is (inr (inr late)) none =
      subst (λ (h : History). KeepsStopped state place message call h) (sym late.1) (late_holds state place message history kept (body_of message ++ 0 ∷ []) record_is refl call late.0)

  wanting : (result : Result (Unit {0}) TakeFault) (answer : Result (Unit {0}) DeviceFault) → result ≡ taken_by answer → answer ≡ Err device.NoMemory → IsWanting result
  wanting result answer is lacked = subst IsWanting (sym is) (subst (λ (a : Result (Unit {0}) DeviceFault). IsWanting (taken_by a)) (sym lacked) tt)

  pub fails_in : (new : HeldDisk) (result : Result (Unit {0}) TakeFault) → (IsWanting result → ⊥) → Logs MemWrites MemSyncs place.gate message old new result
      → KeepsStopped state place message call new.history
  fails_in new result some (inl wants) = absurd (some wants.0)
  fails_in new result some (inr logs) =
      left new logs.answer (sound logs.fits) (stops place.gate (body_of message ++ 0 ∷ []) old new (steady_from_calm plan calm) logs.answer low high logs.calls) (λ lacked. some (wanting result logs.answer logs.ends lacked))

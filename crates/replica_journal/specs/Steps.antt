-- The calls of a disk by which a record is appended.
use Rattle.std.specs.Prelude.{ℕ, ◌≡◌, ◌+◌, List, [], ◌∷◌, Result, Ok, Err}
use Rattle.span_base.specs.declared.sink.DeviceFault.{DeviceFault}
use Rattle.span_base.specs.declared.sink.DeviceFault.TheVariants as device
use Rattle.replica_journal.specs.declared.disk.Failed.{Failed}

-- What stands behind the gate is written, then made safe; then the gate is opened, and made safe. The
-- first of these calls that isn't done is the last one. W and S tell what a write and a sync do.
pub data Appends {D : Type 0} (W : D → D → ℕ → List ℕ → Result (Unit {0}) DeviceFault → Type 0) (S : D → D → Result (Unit {0}) Failed → Type 0)
    (gate : ℕ) (piece : List ℕ) (old new : D) (result : Result (Unit {0}) DeviceFault) : Type 0 where
  Unwritten : (fault : DeviceFault) → W old new (gate + 1) piece (Err fault) → result ≡ Err fault → Appends W S gate piece old new result
  Unsafe : (a : D) (failed : Failed) → W old a (gate + 1) piece (Ok tt) → S a new (Err failed) → result ≡ Err device.Failed → Appends W S gate piece old new result
  Unopened : (a b : D) (fault : DeviceFault) → W old a (gate + 1) piece (Ok tt) → S a b (Ok tt) → W b new gate (1 ∷ []) (Err fault) → result ≡ Err fault → Appends W S gate piece old new result
  Unsure : (a b c : D) (failed : Failed) → W old a (gate + 1) piece (Ok tt) → S a b (Ok tt) → W b c gate (1 ∷ []) (Ok tt) → S c new (Err failed) → result ≡ Err device.Failed → Appends W S gate piece old new result
  Done : (a b c : D) → W old a (gate + 1) piece (Ok tt) → S a b (Ok tt) → W b c gate (1 ∷ []) (Ok tt) → S c new (Ok tt) → result ≡ Ok tt → Appends W S gate piece old new result

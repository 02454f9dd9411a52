-- How a disk counts its faults.
use Rattle.std.specs.Prelude.{ℕ, ◌≡◌, ◌≤◌, Bool, true, false, IsTrue, Result, Ok, Err}
use Rattle.span_base.specs.Counts.{Rose}
use Rattle.span_base.specs.declared.sink.DeviceFault.{DeviceFault}
use Rattle.span_base.specs.declared.sink.DeviceFault.TheVariants as device

-- whether a write failed: want of memory is no fault
abbrev pub write_failed : Result (Unit {0}) DeviceFault → Bool
write_failed (Ok done) = false
write_failed (Err device.Failed) = true
write_failed (Err device.NoMemory) = false

-- The count of faults before a call and now, and whether the disk was calm and is: a fault raises
-- the count, no other answer changes either, and a calm disk never fails and stays calm.
pub record Counts (before now : ℕ) (was is failed : Bool) : Type 0 where
  pub stays : before ≤ now
  pub rose : IsTrue failed → Rose before now
  pub same : failed ≡ false → (now ≡ before) × (is ≡ was)
  pub calm : IsTrue was → (failed ≡ false) × IsTrue is

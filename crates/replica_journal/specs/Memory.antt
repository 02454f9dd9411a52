-- What a disk in memory holds.
use Rattle.std.specs.Prelude.{ℕ, ◌≡◌, Bool, true, false, ⊤, if◌then◌else◌, List, [], ◌∷◌, ◌++◌, length, Result, Ok, Err}
use Rattle.span_base.specs.declared.sink.DeviceFault.{DeviceFault}
use Rattle.span_base.specs.declared.sink.DeviceFault.TheVariants as device
use Rattle.replica_journal.specs.declared.write.Write.{Write}
use Rattle.replica_journal.specs.Disk.{Change, Wrote, Synced, History, synced}
use Rattle.replica_journal.specs.Calls.{CallPlan, after_call, is_calm}
use Rattle.replica_journal.specs.Counting.{Counts}

-- a disk in memory: all that happened to it, and its calls
pub record HeldDisk : Type 0 where
  pub history : History
  pub calls : CallPlan

-- a write, and then its sync, if there was one
abbrev pub changes_of : Write → List Change
changes_of write =
    if write.is_safe then Synced ∷ Wrote write.at (length write.piece) write.piece ∷ [] else Wrote write.at (length write.piece) write.piece ∷ []

-- the history, on top of an earlier one, that writes are, of which the first came first
abbrev pub history_onto : History → List Write → History
history_onto history [] = history
history_onto history (write ∷ writes) = history_onto (changes_of write ++ history) writes

abbrev pub history_of : List Write → History
history_of writes = history_onto [] writes

-- what was safe
abbrev pub safe_part : History → History
safe_part [] = []
safe_part (Wrote at size landed ∷ history) = safe_part history
safe_part (Synced ∷ history) = Synced ∷ history

-- after a crash that kept all that was written since the last sync, or nothing of it
abbrev pub crashed : Bool → History → History
crashed new history = if new then synced history else safe_part history

-- after a call that changes no bytes, which failed or didn't
abbrev pub after_look : HeldDisk → Bool → HeldDisk
after_look held failed = record held { calls = after_call held.calls failed }

-- after a sync
abbrev pub after_sync : HeldDisk → Bool → HeldDisk
after_sync held failed = record { history = if failed then held.history else synced held.history; calls = after_call held.calls failed }

-- after a write of this piece: it lands also where its call fails
abbrev pub after_write : HeldDisk → ℕ → List ℕ → Result (Unit {0}) DeviceFault → HeldDisk
after_write held at piece (Ok done) = record { history = Wrote at (length piece) piece ∷ held.history; calls = after_call held.calls false }
after_write held at piece (Err device.Failed) = record { history = Wrote at (length piece) piece ∷ held.history; calls = after_call held.calls true }
after_write held at piece (Err device.NoMemory) = held

-- a write fails exactly where its call is one that fails, unless it finds no memory
abbrev pub FailsBy : Bool → Result (Unit {0}) DeviceFault → Type 0
FailsBy fails (Ok done) = fails ≡ false
FailsBy fails (Err device.Failed) = fails ≡ true
FailsBy fails (Err device.NoMemory) = ⊤

-- the faults of a disk in memory are counted over a call, which failed or didn't
abbrev pub CountsIn : HeldDisk → HeldDisk → Bool → Type 0
CountsIn old new failed = Counts old.calls.faults new.calls.faults (is_calm old.calls) (is_calm new.calls) failed

-- Bytes of a disk that were read into a buffer, and what they say of the gate at a place.
use Rattle.std.specs.Prelude.{ℕ, ◌≡◌, ◌+◌, ◌<◌, ◌≤◌, ⊤, List, ◌∷◌, length, take, drop, Option, Some, None, Result, Ok, Err}
use Rattle.replica_journal.specs.declared.disk.Failed.{Failed}
use Rattle.replica_journal.specs.declared.record.AtGate.{AtGate}
use Rattle.replica_journal.specs.declared.record.AtGate.TheVariants.{Record, Closed, Damaged}
use Rattle.replica_journal.specs.declared.window.Window.{Window}
use Rattle.replica_journal.specs.Disk.{History, bytes_of}
use Rattle.replica_journal.specs.Records.{IsClosed, IsRecord, IsSoundRecord}
use Rattle.replica_journal.specs.AtGate.{IsRecordAt}

-- the buffer's first bytes are those of the file from this place on; they fill it, or are the file's last
pub record HasFront (file : List ℕ) (at : ℕ) (buf : List ℕ) (n : ℕ) : Type 0 where
  pub bytes : take n buf ≡ take n (drop at file)
  pub rest : n < length buf → length file ≤ at + n

-- the same of what a disk tells
abbrev pub HasFrontOf : Option History → ℕ → List ℕ → ℕ → Type 0
HasFrontOf None at buf n = ⊤
HasFrontOf (Some history) at buf n = HasFront (bytes_of history) at buf n

-- a buffer was filled with what a disk tells
abbrev pub Fills : Option History → ℕ → List ℕ → Result ℕ Failed → Type 0
Fills told at buf (Ok n) = HasFrontOf told at buf n
Fills told at buf (Err failed) = ⊤

-- the gate at the front of the bytes is open, and no sound record follows it
pub record IsWrong (keys : ℕ) (bytes : List ℕ) : Type 0 where
  pub rest : List ℕ
  pub spelled : bytes ≡ 1 ∷ rest
  pub unsound : ¬ IsSoundRecord keys rest

-- what stands at the front of these bytes, which are all that there are
abbrev pub IsFound : ℕ → List ℕ → AtGate → Type 0
IsFound keys bytes (Record message size) = IsRecordAt keys bytes message size
IsFound keys bytes Closed = IsClosed bytes
IsFound keys bytes Damaged = IsWrong keys bytes

-- the same from this place of a disk on, where it tells its bytes
abbrev pub IsFoundAt : Option History → ℕ → ℕ → AtGate → Type 0
IsFoundAt None keys place found = ⊤
IsFoundAt (Some history) keys place found = IsFound keys (drop place (bytes_of history)) found

-- a place is before the end of what a disk tells
abbrev pub IsInside : Option History → ℕ → Type 0
IsInside None place = ⊤
IsInside (Some history) place = place < length (bytes_of history)

-- the window holds what a disk tells from its place on
pub record IsWindow (told : Option History) (window : Window) : Type 0 where
  pub size : length window.bytes.items ≡ 131072
  pub within : window.len ≤ 131072
  pub front : HasFrontOf told window.at window.bytes.items window.len

-- a record that was found is sound, and takes some bytes
abbrev pub IsSoundFound : ℕ → AtGate → Type 0
IsSoundFound keys (Record message size) = IsRecord keys message × (1 ≤ size)
IsSoundFound keys Closed = ⊤
IsSoundFound keys Damaged = ⊤

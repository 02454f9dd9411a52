-- What the beginning of the opening leaves of a disk.
use Rattle.std.specs.Prelude.{ℕ, ◌≡◌, ◌<◌, ◌≤◌, ◌⊎◌, ⊤, List, [], ◌∷◌, length, Option, Some, None, Result, Ok, Err}
use Rattle.replica_journal.specs.declared.open_fault.OpenCause.{OpenCause}
use Rattle.replica_journal.specs.Disk.{History, GoesOn, AtEachMoment, IsImage, IsLawfulHistory, bytes_of}

-- a crash leaves just the bytes, which are these many: those from before, or a closed gate alone where there was at most one
pub record IsReady (before after : History) (end : ℕ) : Type 0 where
  pub safe : (image : List ℕ) → IsImage after image → image ≡ bytes_of after
  pub end_is : end ≡ length (bytes_of after)
  pub bytes : ((1 < end) × (bytes_of after ≡ bytes_of before)) ⊎ ((length (bytes_of before) ≤ 1) × (bytes_of after ≡ 0 ∷ []))

-- a crash leaves what one before might have left, or what was to be read, or at most one byte where that was all
abbrev pub IsNoWorse : History → List ℕ → Type 0
IsNoWorse before image = (IsImage before image ⊎ (image ≡ bytes_of before)) ⊎ ((length (bytes_of before) ≤ 1) × (length image ≤ 1))

abbrev pub IsReadyOn : History → History → Result ℕ OpenCause → Type 0
IsReadyOn before after (Ok end) = IsReady before after end
IsReadyOn before after (Err cause) = ⊤

pub record Begun (before after : History) (result : Result ℕ OpenCause) : Type 0 where
  pub on : GoesOn before after
  pub lawful : IsLawfulHistory before → IsLawfulHistory after
  pub moments : AtEachMoment before after (IsNoWorse before)
  pub ready : IsReadyOn before after result

-- the same of what a disk tells, if it does
abbrev pub Begins : Option History → Option History → Result ℕ OpenCause → Type 0
Begins None new result = new ≡ None
Begins (Some before) new result = (after : History) × (new ≡ Some after) × Begun before after result

-- Bytes that were read ahead of their use.
use Rattle.std.specs.Prelude.{ℕ, ◌≡◌, ◌<◌, ◌≤◌, Bool, true, false, nat_lt, List, [], ◌++◌, length, take, Option, Result, Ok, Err, option_map}
use Rattle.replica_journal.specs.declared.disk.Failed.{Failed}

-- the bytes that weren't used yet: those read ahead, and then those to come, where they are told
abbrev pub ahead : List ℕ → Option (List ℕ) → Option (List ℕ)
ahead read coming = option_map (λ rest. read ++ rest) coming

-- a read takes more of the bytes to come behind those read ahead, or none where none is to come
pub record Reads (coming coming' : Option (List ℕ)) (old new : List ℕ) (some : Bool) : Type 0 where
  pub same : ahead new coming' ≡ ahead old coming
  pub more : some ≡ true → length old < length new
  pub none : some ≡ false → (new ≡ old) × (coming' ≡ coming) × (coming ≡ option_map (λ rest. []) coming)

abbrev pub Fills : Option (List ℕ) → Option (List ℕ) → List ℕ → List ℕ → Result Bool Failed → Type 0
Fills coming coming' old new (Ok some) = Reads coming coming' old new some
Fills coming coming' old new (Err failed) = coming' ≡ coming

-- the same of a buffer whose front, of so many bytes, was those read ahead
abbrev pub Refills : Option (List ℕ) → Option (List ℕ) → List ℕ → List ℕ → ℕ → Result ℕ Failed → Type 0
Refills coming coming' old buf kept (Ok end) = (kept ≤ end) × Reads coming coming' old (take end buf) (nat_lt kept end)
Refills coming coming' old buf kept (Err failed) = coming' ≡ coming

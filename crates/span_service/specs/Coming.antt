-- What a stream has yet to give.
use Rattle.std.specs.Prelude.{ℕ, ◌≡◌, List, [], ◌++◌, take, Option, Some, None, Result, Ok, Err}
use Rattle.replica_journal.specs.declared.disk.Failed.{Failed}

-- the first n bytes of the buffer are the next of those to come, and are none only where none is to come
pub record GivesFront (old new : List ℕ) (buf : List ℕ) (n : ℕ) : Type 0 where
  pub bytes : old ≡ take n buf ++ new
  pub some : n ≡ 0 → old ≡ []

-- a read that answers n took the first n bytes off those to come, and one that fails none
abbrev pub Gives : Option (List ℕ) → Option (List ℕ) → List ℕ → Result ℕ Failed → Type 0
Gives None new buf (Ok n) = new ≡ None
Gives (Some old) new buf (Ok n) = (rest : List ℕ) × (new ≡ Some rest) × GivesFront old rest buf n
Gives old new buf (Err failed) = new ≡ old

-- What writing a part of a frame leaves.
use Rattle.std.specs.Prelude.{ℕ, ◌≡◌, ◌+◌, ◌≤◌, ◌++◌, List, vec_len, vec_capacity}
use Rattle.std.specs.Global.{Vec}

-- there is memory for so many bytes more
abbrev pub HasSpace : Vec ℕ → ℕ → Type 0
HasSpace bytes size = vec_len bytes + size ≤ vec_capacity bytes

-- this text, which has so many bytes, stands behind what was written; no memory was given back
abbrev pub Adds : Vec ℕ → List ℕ → ℕ → Vec ℕ → Type 0
Adds old text size new = (new.items ≡ old.items ++ text) × (vec_len new ≡ vec_len old + size) × (vec_capacity old ≤ vec_capacity new)

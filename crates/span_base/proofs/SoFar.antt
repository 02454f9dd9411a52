-- A file that is read piece after piece.
use Rattle.std.proofs.Common.{ℕ, ◌≡◌, ◌+◌, ◌≤◌, List, ◌++◌, length, take, refl, arith, length-append}
use Rattle.std.proofs.Math.Seq.{take-add}
use Rattle.std.proofs.lemmas.List.{length-take}
use Rattle.std.specs.Prelude.{Option, Some, None, Ok, ⊤}
use Rattle.span_base.specs.Files.{Files, file_of, GivesFrom, Reads, ReadsFile}

-- what was read so far is a front of the file, where it is there
abbrev pub IsFrontOf : Option (List ℕ) → List ℕ → Type 0
IsFrontOf None got = ⊤
IsFrontOf (Some file) got = got ≡ take (length got) file

-- what was read so far is a front of the named file, where that is told
abbrev pub IsFront : Option Files → List ℕ → List ℕ → Type 0
IsFront None name got = ⊤
IsFront (Some files) name got = IsFrontOf (file_of name files) got

-- a front of the file and the next bytes of it are a longer front
more : (file got buf : List ℕ) (n : ℕ) → n ≤ length buf → GivesFrom file (length got) buf n → got ≡ take (length got) file
    → got ++ take n buf ≡ take (length (got ++ take n buf)) file
more file got buf n le given front =
    let len : length (got ++ take n buf) ≡ length got + n = omega (arith, length-append got (take n buf), length-take n buf) in
    rw (len, take-add (length got) n file, ← given.bytes, ← front) refl

-- a read that gives bytes makes the front longer
IsFrontOf-append : (file : Option (List ℕ)) (got buf : List ℕ) (n : ℕ) → n ≤ length buf
    → ReadsFile file (length got) buf (Ok n) → IsFrontOf file got → IsFrontOf file (got ++ take n buf)
IsFrontOf-append None got buf n le given front = tt
IsFrontOf-append (Some file) got buf n le given front = more file got buf n le given front

pub IsFront-append : (files now : Option Files) (name got buf : List ℕ) (at n : ℕ) → now ≡ files → at ≡ length got → n ≤ length buf
    → Reads now name at buf (Ok n) → IsFront files name got → IsFront files name (got ++ take n buf)
IsFront-append None now name got buf at n same here le given front = tt
IsFront-append (Some files) now name got buf at n same here le given front =
    IsFrontOf-append (file_of name files) got buf n le (rw (same, here) at given) front

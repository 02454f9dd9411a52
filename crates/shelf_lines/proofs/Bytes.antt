-- Bytes that a reader has of a file: more of them, all of them, and fewer.
use Rattle.std.proofs.Common.{◌≡◌, ℕ, zero, suc, ◌+◌, ◌<◌, ◌≤◌, List, [], ◌∷◌, ◌++◌, length, take, drop, refl, sym, ◌∙◌, ap, subst, arith, append_assoc, length-append}
use Rattle.std.proofs.lemmas.List.{take-append-drop, append-nil}
use Rattle.std.proofs.Math.Seq.{drop-append_seam}
use Rattle.std.specs.Prelude.{Option, Some, None, Ok, ⊤}
use Rattle.span_base.specs.Files.{Files, file_of, Reads, ReadsFile}
use Rattle.shelf_lines.specs.Lines.{BeginsFile, Begins, IsFile}

-- the next bytes of a file are more of it
more_of : (file : Option (List ℕ)) (front piece : List ℕ) (at n : ℕ) → at ≡ length front → ReadsFile file at piece (Ok n)
    → BeginsFile file front → BeginsFile file (front ++ take n piece)
more_of None front piece at n here reads begins = absurd reads
more_of (Some file) front piece at n here reads begins =
    let rest_is : drop at file ≡ begins.0 = ap (λ k. drop k file) here ∙ ap (drop (length front)) begins.1 ∙ drop-append_seam front begins.0 in
    let same : take n piece ≡ take n begins.0 = reads.bytes ∙ ap (take n) rest_is in
    let whole : begins.0 ≡ take n piece ++ drop n begins.0 = sym (take-append-drop n begins.0) ∙ ap (λ t. t ++ drop n begins.0) (sym same) in
    (drop n begins.0, begins.1 ∙ ap (λ t. front ++ t) whole ∙ sym (append_assoc front (take n piece) (drop n begins.0)))

pub Begins-more : (files now : Option Files) (name front piece : List ℕ) (at n : ℕ) → now ≡ files → at ≡ length front
    → Reads now name at piece (Ok n) → Begins files name front → Begins files name (front ++ take n piece)
Begins-more None now name front piece at n same here reads begins = tt
Begins-more (Some files) now name front piece at n same here reads begins =
    more_of (file_of name files) front piece at n here (rw same at reads) begins

nothing_left : (rest : List ℕ) → length rest ≤ 0 → rest ≡ []
nothing_left [] le = refl
nothing_left (x ∷ rest) le = absurd (omega arith)

none_behind : (at n : ℕ) → (at < at + n → 0 < 0) → n ≤ 0
none_behind at zero none = omega arith
none_behind at (suc n) none = absurd (omega (arith, none (omega arith)))

-- a file that gives no more bytes has no more
all_of : (file : Option (List ℕ)) (front piece : List ℕ) (at : ℕ) → at ≡ length front → ReadsFile file at piece (Ok 0)
    → BeginsFile file front → file ≡ Some front
all_of None front piece at here reads begins = absurd reads
all_of (Some file) front piece at here reads begins =
    let len : length file ≡ length front + length begins.0 = ap length begins.1 ∙ length-append front begins.0 in
    let few : length begins.0 ≤ 0 = none_behind (length front) (length begins.0) (λ more. reads.some (omega arith)) in
    ap (λ (t : List ℕ). Some t) (begins.1 ∙ ap (λ t. front ++ t) (nothing_left begins.0 few) ∙ append-nil front)

pub IsFile-read : (files now : Option Files) (name front piece : List ℕ) (at : ℕ) → now ≡ files → at ≡ length front
    → Reads now name at piece (Ok 0) → Begins files name front → IsFile files name front
IsFile-read None now name front piece at same here reads begins = tt
IsFile-read (Some files) now name front piece at same here reads begins =
    all_of (file_of name files) front piece at here (rw same at reads) begins

-- fewer bytes begin a file too
fewer_of : (file : Option (List ℕ)) (front more : List ℕ) → BeginsFile file (front ++ more) → BeginsFile file front
fewer_of None [] more begins = refl
fewer_of None (x ∷ front) more begins = cc
fewer_of (Some file) front more begins = (more ++ begins.0, begins.1 ∙ append_assoc front more begins.0)

pub Begins-front : (files : Option Files) (name front more : List ℕ) → Begins files name (front ++ more) → Begins files name front
Begins-front None name front more begins = tt
Begins-front (Some files) name front more begins = fewer_of (file_of name files) front more begins

-- where the bytes in the window begin so, the front of the window begins so
pub Begins-take : (files : Option Files) (name front bytes : List ℕ) (n : ℕ) → Begins files name (front ++ bytes)
    → Begins files name (front ++ take n bytes)
Begins-take files name front bytes n begins =
    Begins-front files name (front ++ take n bytes) (drop n bytes)
    (subst (Begins files name) (ap (λ t. front ++ t) (sym (take-append-drop n bytes)) ∙ sym (append_assoc front (take n bytes) (drop n bytes))) begins)

starts : (file : Option (List ℕ)) → BeginsFile file []
starts None = refl
starts (Some file) = (file, refl)

-- no bytes begin any file
pub Begins-nothing : (files : Option Files) (name : List ℕ) → Begins files name []
Begins-nothing None name = tt
Begins-nothing (Some files) name = starts (file_of name files)

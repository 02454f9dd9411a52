-- A buffer is filled piece after piece.
use Rattle.std.proofs.Common.{ℕ, ◌≡◌, ◌+◌, ◌≤◌, List, ◌++◌, length, take, drop, Option, Some, None, Ok, refl, sym, inl, inr, ◌∙◌, ap, subst, arith}
use Rattle.std.specs.Prelude.{⊤}
use Rattle.std.proofs.Math.Seq.{take-add}
use Rattle.std.proofs.lemmas.List.{length-take, take_at, take-append-le, drop_at, drop-drop}
use Rattle.std.proofs.lemmas.Bool.{cases_lt}
use Rattle.span_base.specs.Files.{GivesFrom}
use Rattle.replica_journal.specs.Disk.{History, bytes_of, TellsFrom}
use Rattle.replica_journal.specs.Windows.{HasFrontOf}

-- the first bytes of the buffer are those of the file
abbrev pub IsFilled : Option History → ℕ → List ℕ → ℕ → Type 0
IsFilled None at buf n = ⊤
IsFilled (Some history) at buf n = take n buf ≡ take n (drop at (bytes_of history))

pub nothing_filled : (told : Option History) (at : ℕ) (buf : List ℕ) → IsFilled told at buf 0
nothing_filled None at buf = tt
nothing_filled (Some history) at buf = refl

more : (file front piece : List ℕ) (at n : ℕ) → front ≡ take (length front) (drop at file) → take n piece ≡ take n (drop (at + length front) file)
    → take (length front + n) (front ++ piece) ≡ take (length front + n) (drop at file)
more file front piece at n was read =
    take-add (length front) n (front ++ piece)
    ∙ ap (λ (l : List ℕ). l ++ take n (drop (length front) (front ++ piece))) (take_at front piece (length front) refl)
    ∙ ap (λ (l : List ℕ). front ++ take n l) (drop_at front piece (length front) refl)
    ∙ ap (λ (l : List ℕ). front ++ l) (read ∙ ap (take n) (sym (drop-drop (length front) at file)))
    ∙ ap (λ (l : List ℕ). l ++ take n (drop (length front) (drop at file))) was
    ∙ sym (take-add (length front) n (drop at file))

-- a piece more: the buffer after it is its first bytes from before, then what was read, and whatever is behind
pub filled_more : (told now : Option History) (at filled n : ℕ) (old piece post new : List ℕ) → now ≡ told → filled ≤ length old → n ≤ length piece → new ≡ take filled old ++ (piece ++ post)
    → TellsFrom now (at + filled) piece (Ok n) → IsFilled told at old filled → IsFilled told at new (filled + n)
filled_more None now at filled n old piece post new same within fits is read was = tt
filled_more (Some history) now at filled n old piece post new same within fits is read was =
    let size : length (take filled old) ≡ filled = omega (arith, length-take filled old) in
    let gives : GivesFrom (bytes_of history) (at + filled) piece n = subst (λ (o : Option History). TellsFrom o (at + filled) piece (Ok n)) same read in
    ap (take (filled + n)) is
    ∙ ap (λ (k : ℕ). take (k + n) (take filled old ++ (piece ++ post))) (sym size)
    ∙ more (bytes_of history) (take filled old) (piece ++ post) at n
    (was ∙ ap (λ (k : ℕ). take k (drop at (bytes_of history))) (sym size))
    (take-append-le n piece post fits ∙ gives.bytes ∙ ap (λ (k : ℕ). take n (drop (at + k) (bytes_of history))) (sym size))
    ∙ ap (λ (k : ℕ). take (k + n) (drop at (bytes_of history))) size

-- nothing more to read
pub filled_end : (told now : Option History) (at filled : ℕ) (buf piece new : List ℕ) → now ≡ told → filled ≤ length buf → new ≡ take filled buf ++ piece → TellsFrom now (at + filled) piece (Ok 0)
    → IsFilled told at buf filled → HasFrontOf told at new filled
filled_end None now at filled buf piece new same within is read was = tt
filled_end (Some history) now at filled buf piece new same within is read was =
    let size : length (take filled buf) ≡ filled = omega (arith, length-take filled buf) in
    let gives : GivesFrom (bytes_of history) (at + filled) piece 0 = subst (λ (o : Option History). TellsFrom o (at + filled) piece (Ok 0)) same read in
    record {
      bytes = ap (take filled) is ∙ take_at (take filled buf) piece filled size ∙ was;
      rest = λ few. elim (cases_lt (at + filled) (length (bytes_of history))) [ inl lt ↦ absurd (omega (arith, gives.some lt)) | inr ge ↦ ge ];
    }

pub filled_whole : (told : Option History) (at filled : ℕ) (buf : List ℕ) → length buf ≤ filled → IsFilled told at buf filled → HasFrontOf told at buf filled
filled_whole None at filled buf whole was = tt
filled_whole (Some history) at filled buf whole was = record { bytes = was; rest = λ few. absurd (omega arith) }

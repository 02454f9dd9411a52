-- Pieces of a text that are put at its end one after another, the last of them perhaps in part.
use Rattle.std.proofs.Common.{◌≡◌, ℕ, ◌+◌, List, ◌++◌, take, length, min, sym, ap, ◌∙◌, append_assoc, arith}
use Rattle.std.specs.Prelude.{Result, Ok, Err, OnErr}
use Rattle.std.proofs.lemmas.List.{take_min, take-append-le}
use Rattle.std.proofs.Math.Seq.{take-append-add, take-append_seam}
use Rattle.bound_cert.specs.Text.{AddsFront}

-- what holds in any case holds where there is an error
pub where_error : {T E P : Type 0} (r : Result T E) → P → OnErr r P
where_error (Ok value) p = tt
where_error (Err error) p = p

-- a piece was put there, and then nothing more
pub stopped : (old new before rest whole : List ℕ) → new ≡ old ++ before → before ++ rest ≡ whole → AddsFront old new whole
stopped old new before rest whole n w =
    (length before, n ∙ ap (λ t. old ++ t) (sym (ap (take (length before)) (sym w) ∙ take-append_seam before rest)))

-- a front of a piece is one of all that begins with it
front_of : (n : ℕ) (piece rest : List ℕ) → take (min n (length piece)) (piece ++ rest) ≡ take n piece
front_of n piece rest = take-append-le (min n (length piece)) piece rest (omega arith) ∙ take_min n piece

-- a piece was put there, and then a front of the next
pub front_put : (old mid new before piece rest whole : List ℕ) → mid ≡ old ++ before → before ++ (piece ++ rest) ≡ whole → AddsFront mid new piece → AddsFront old new whole
front_put old mid new before piece rest whole m w (n, e) =
    let k = min n (length piece) in
    let there : take (length before + k) whole ≡ before ++ take n piece =
    ap (take (length before + k)) (sym w) ∙ take-append-add before (piece ++ rest) k ∙ ap (λ t. before ++ t) (front_of n piece rest) in
    (length before + k, e ∙ ap (λ t. t ++ take n piece) m ∙ append_assoc old before (take n piece) ∙ ap (λ t. old ++ t) (sym there))

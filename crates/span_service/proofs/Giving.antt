-- What a stream in memory gives.
use Rattle.std.proofs.Common.{ℕ, zero, suc, ◌≡◌, ◌<◌, List, [], ◌∷◌, ◌++◌, length, take, drop, min, get_or, refl, sym, ◌∙◌, ap, arith, append_assoc, take-append-drop, length-drop, ◌+◌}
use Rattle.std.proofs.lemmas.List.{drop_more}
use Rattle.std.specs.List.{concat}
use Rattle.span_service.specs.Coming.{GivesFront}
use Rattle.span_service.specs.Pieces.{left_of, trimmed, first_of, without}

-- the bytes of the pieces are those of the first one that has something left, and then the rest
split : (left : List (List ℕ)) (n : ℕ) → concat left ≡ take n (first_of left) ++ concat (without n left)
split [] zero = refl
split [] (suc n) = refl
split ([] ∷ pieces) n = split pieces n
split ((byte ∷ piece) ∷ pieces) n =
    ap (λ (l : List ℕ). l ++ concat pieces) (sym (take-append-drop n (byte ∷ piece))) ∙ append_assoc (take n (byte ∷ piece)) (drop n (byte ∷ piece)) (concat pieces)

nothing_left : (left : List (List ℕ)) → length (first_of left) ≡ 0 → concat left ≡ []
nothing_left [] none = refl
nothing_left ([] ∷ pieces) none = nothing_left pieces none
nothing_left ((byte ∷ piece) ∷ pieces) none = absurd (omega (arith, none))

-- a read gives the next bytes to come
pub gives_front : (left rest : List (List ℕ)) (buf : List ℕ) (n : ℕ) → 0 < length buf → n ≡ min (length (first_of left)) (length buf) → take n buf ≡ take n (first_of left) → rest ≡ without n left
    → GivesFront (concat left) (concat rest) buf n
gives_front left rest buf n some count bytes after = record {
  bytes = split left n ∙ ap (λ (l : List ℕ). l ++ concat (without n left)) (sym bytes) ∙ ap (λ (p : List (List ℕ)). take n buf ++ concat p) (sym after);
  some = λ none. nothing_left left (omega (arith, some, count, none));
}

full : (piece : List ℕ) (pieces : List (List ℕ)) → 0 < length piece → trimmed (piece ∷ pieces) ≡ piece ∷ pieces
full [] pieces some = absurd (omega (arith, some))
full (byte ∷ piece) pieces some = refl

-- a piece that has something left isn't passed
pub untouched : (pieces : List (List ℕ)) (passed used : ℕ) → passed < length pieces → used < length (get_or pieces passed [])
    → left_of pieces passed used ≡ trimmed (left_of pieces passed used)
untouched pieces passed used inside some =
    rw (drop_more pieces passed [] inside) (sym (full (drop used (get_or pieces passed [])) (drop (passed + 1) pieces) (omega (arith, some, length-drop used (get_or pieces passed [])))))

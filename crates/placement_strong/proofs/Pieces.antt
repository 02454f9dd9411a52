-- Lists made of blocks of one length.
use Rattle.std.proofs.Common.{◌≡◌, ℕ, zero, suc, ◌+◌, ◌*◌, ◌<◌, List, [], ◌∷◌, ◌++◌, length, get_or, sym, ap, ◌∙◌, arith}
use Rattle.std.specs.List.{flat_map}
use Rattle.std.proofs.lemmas.List.{length-append, get_or_append_left, get_or-append-add}

-- how long they are
pub length-blocks_of : {X A : Type 0} (f : X → List A) (m : ℕ) → ((x : X) → length (f x) ≡ m) → (xs : List X) → length (flat_map f xs) ≡ length xs * m
length-blocks_of f m each [] = omega arith
length-blocks_of f m each (x ∷ xs) = omega (arith, length-append (f x) (flat_map f xs), each x, length-blocks_of f m each xs)

-- the element at a place of a block
pub get_or-blocks_of : {X A : Type 0} (f : X → List A) (m : ℕ) → ((x : X) → length (f x) ≡ m) → (xs : List X) (a i : ℕ) (e : X) (z : A) → a < length xs → i < m → get_or (flat_map f xs) (a * m + i) z ≡ get_or (f (get_or xs a e)) i z
get_or-blocks_of f m each [] a i e z in' low = absurd (omega arith)
get_or-blocks_of f m each (x ∷ xs) zero i e z in' low =
    let at : 0 * m + i ≡ i = omega arith in
    ap (λ j. get_or (f x ++ flat_map f xs) j z) at ∙ get_or_append_left (f x) (flat_map f xs) z i (omega (arith, each x))
get_or-blocks_of f m each (x ∷ xs) (suc a) i e z in' low =
    let at : suc a * m + i ≡ m + (a * m + i) = omega arith in
    ap (λ j. get_or (f x ++ flat_map f xs) j z) at
    ∙ ap (λ k. get_or (f x ++ flat_map f xs) (k + (a * m + i)) z) (sym (each x))
    ∙ get_or-append-add (f x) (flat_map f xs) (a * m + i) z
    ∙ get_or-blocks_of f m each xs a i e z (omega arith) low

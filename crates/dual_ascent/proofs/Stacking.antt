-- Where a row doesn't wait there is room for it.
use Rattle.std.proofs.Common.{◌≡◌, ℕ, zero, suc, ◌+◌, ◌<◌, Bool, true, false, cond, List, [], ◌∷◌, length, get_or, arith}
use Rattle.std.specs.Prelude.{count_by}
use Rattle.std.proofs.lemmas.List.Sums.{count_by-le-length, sum_by-cons}

pub one_is_free : (waits : List Bool) (row : ℕ) → row < length waits → get_or waits row false ≡ false → count_by (λ w. w) waits < length waits
one_is_free [] row inside free = absurd (omega arith)
one_is_free (true ∷ waits) zero inside free = absurd (cc)
one_is_free (false ∷ waits) zero inside free = omega (arith, count_by-le-length (λ w. w) waits)
one_is_free (true ∷ waits) (suc row) inside free =
    let more : count_by (λ w. w) (true ∷ waits) ≡ 1 + count_by (λ w. w) waits = sum_by-cons (λ (w : Bool). cond w 1 0) true waits in
    omega (arith, more, one_is_free waits row (omega arith) free)
one_is_free (false ∷ waits) (suc row) inside free = omega (arith, one_is_free waits row (omega arith) free)

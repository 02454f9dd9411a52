-- Bounds of products, and sums over pairs.
use Rattle.std.proofs.Common.{◌≡◌, ℕ, ◌+◌, ◌<◌, List, [], length, drop, take, get_or, min, arith, sym, ap, ◌∙◌}
use Rattle.std.specs.List.{sum_by, zip}
use Rattle.std.proofs.lemmas.List.{length-drop, nil_from_length}
use Rattle.std.proofs.lemmas.List.Sums.{sum_by_more}
use Rattle.std.proofs.lemmas.Slice.Zip.{length-zip}
use Rattle.std.proofs.lemmas.Nat.{mul-le}

-- past the end of one of two lists no pair is left
pub no_pair_left : {A B : Type 0} (xs : List A) (ys : List B) (k : ℕ) → k ≡ min (length xs) (length ys) → zip (drop k xs) (drop k ys) ≡ []
no_pair_left xs ys k end =
    nil_from_length (zip (drop k xs) (drop k ys)) (omega (arith, length-zip (drop k xs) (drop k ys), length-drop k xs, length-drop k ys))

-- one item more in a sum so far
pub sum_step : {X : Type 0} (f : X → ℕ) (xs : List X) (i : ℕ) (d : X) (total term : ℕ) → i < length xs → total ≡ sum_by f (take i xs) → term ≡ f (get_or xs i d) → total + term ≡ sum_by f (take (i + 1) xs)
sum_step f xs i d total term h so here =
    ap (λ t. t + term) so ∙ ap (λ t. sum_by f (take i xs) + t) here ∙ sym (sum_by_more f xs i d h)

pub ruleset products = (mul-le)

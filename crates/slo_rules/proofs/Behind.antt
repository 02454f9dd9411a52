-- Passing a word byte by byte.
use Rattle.std.proofs.Common.{◌≡◌, ℕ, suc, ◌<◌, List, [], ◌∷◌, length, drop, drop-cons, slice_index, Err, refl, ap, ◌∙◌, arith}
use Rattle.slo_rules.specs.PolicyLines.{behind}

none-behind : (c : ℕ) (word text : List ℕ) → length text ≡ 0 → behind (c ∷ word) text ≡ Err 0
unfolding behind
none-behind c word [] none = refl
none-behind c word (d ∷ text) none = absurd (omega arith)

-- a text that ends within the word
pub behind_none : (word : List ℕ) (i : ℕ) (text : List ℕ) → i < length word → length text ≡ 0 → behind (drop i word) text ≡ Err 0
behind_none word i text inside none =
    ap (λ rest. behind rest text) (drop-cons word i 0 inside) ∙ none-behind (slice_index word i) (drop (suc i) word) text none

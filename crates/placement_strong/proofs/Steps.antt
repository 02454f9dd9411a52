-- Steps of loops over the later ones of some numbers.
use Rattle.std.proofs.Common.{◌≡◌, ℕ, ◌+◌, ◌-◌, ◌<◌, List, [], ◌∷◌, ◌++◌, map, ap, ◌∙◌, arith}
use Rattle.std.specs.List.{range_with_len}
use Rattle.std.proofs.lemmas.List.{append-nil, append_assoc}
use Rattle.std.proofs.lemmas.List.FromFn.{map-range_with_len_more}

-- one number more of those from one on
pub later_next : {X : Type 0} (f : ℕ → X) (a b : ℕ) → a < b → map f (range_with_len (a + 1) (b + 1 - (a + 1))) ≡ map f (range_with_len (a + 1) (b - (a + 1))) ++ f b ∷ []
later_next f a b low =
    let more : b + 1 - (a + 1) ≡ (b - (a + 1)) + 1 = omega arith in
    ap (λ n. map f (range_with_len (a + 1) n)) more ∙ map-range_with_len_more f (a + 1) (b - (a + 1)) b (omega arith)

pub later_none : {X : Type 0} (f : ℕ → X) (a : ℕ) → map f (range_with_len (a + 1) (a + 1 - (a + 1))) ≡ []
later_none f a = let none : a + 1 - (a + 1) ≡ 0 = omega arith in ap (λ n. map f (range_with_len (a + 1) n)) none

pub ruleset later = (later_next, later_none, append_assoc, append-nil)

-- Rows over sets of centres, as they are made and as they are defined.
use Rattle.std.proofs.Common.{◌≡◌, ℕ, ◌+◌, ◌*◌, List, [], ◌∷◌, map, pos, refl, ap, ◌∙◌, Result}
use Rattle.std.specs.Prelude.{IfOk}
use Rattle.std.proofs.lemmas.Result.{IfOk-weaker}
use Rattle.zero_one.specs.declared.rows.Row.{Row}
use Rattle.placement_rows.specs.Rows.{plus, at_least}

entries-agree : (f g : ℕ → ℕ) → ((d : ℕ) → f d ≡ g d) → (ds : List ℕ) → map (λ d. plus (f d)) ds ≡ map (λ d. plus (g d)) ds
entries-agree f g same [] = refl
entries-agree f g same (d ∷ ds) = ap (λ v. plus v ∷ map (λ d. plus (f d)) ds) (same d) ∙ ap (λ es. plus (g d) ∷ es) (entries-agree f g same ds)

-- a sum over a set of centres is the row of that bound over those centres
pub sum_is : {E : Type 0} (var : ℕ → ℕ) (first step least bound : ℕ) (near ds : List ℕ) → near ≡ ds → ((d : ℕ) → first + d * step ≡ var d) → least ≡ bound → (result : Result Row E)
    → IfOk result (λ row. row ≡ at_least least (λ d. first + d * step) near) → IfOk result (λ row. row ≡ at_least bound var ds)
sum_is var first step least bound near ds near_is var_is least_is result made =
    IfOk-weaker result (λ row. row ≡ at_least least (λ d. first + d * step) near) (λ row. row ≡ at_least bound var ds)
    (λ row is.
    is
    ∙ ap (λ xs. at_least least (λ d. first + d * step) xs) near_is
    ∙ ap (λ es. let r : Row = record { entries = es; bound = pos least } in r) (entries-agree (λ d. first + d * step) var var_is ds)
    ∙ ap (λ k. at_least k var ds) least_is)
    made

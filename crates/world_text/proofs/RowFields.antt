-- The fields of a record, one after the other.
use Rattle.std.proofs.Common.{◌≡◌, ℕ, ◌+◌, zero, suc, List, [], ◌∷◌, ◌++◌, take, Some, None, refl, ap, add-one}
use Rattle.csv.specs.Records.{field_at}

-- one field more
pub take-field : (fields : List (List ℕ)) (i : ℕ) (f : List ℕ) → Some f ≡ field_at fields i → take (i + 1) fields ≡ take i fields ++ f ∷ []
unfolding field_at
take-field [] i f e = absurd (cc e)
take-field (x ∷ xs) zero f e = let s : f ≡ x = cc in cc
take-field (x ∷ xs) (suc i) f e = rw add-one (ap (λ l. x ∷ l) (rw add-one at (take-field xs i f e)))

-- where there is no field, all were taken
pub take-all_fields : (fields : List (List ℕ)) (i : ℕ) → None ≡ field_at fields i → take i fields ≡ fields
unfolding field_at
take-all_fields [] zero e = refl
take-all_fields [] (suc i) e = refl
take-all_fields (x ∷ xs) zero e = absurd (cc e)
take-all_fields (x ∷ xs) (suc i) e = ap (λ l. x ∷ l) (take-all_fields xs i e)

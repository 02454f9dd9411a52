-- The fields of a record, as many as they are.
use Rattle.std.proofs.Common.{◌≡◌, ℕ, ◌<◌, ◌≤◌, Bor, List, [], ◌∷◌, length, map, take, drop, ◌-◌, get_or, arith, refl}
use Rattle.std.proofs.lemmas.List.{take_rest, length-map}

-- what stands for a field past the end
abbrev pub no_field : Bor (List ℕ)
no_field = record { ref_ptr = (0, 0); now = [] }

abbrev pub field : List (Bor (List ℕ)) → ℕ → List ℕ
field fs i = (get_or fs i no_field).now

abbrev pub texts : List (Bor (List ℕ)) → List (List ℕ)
texts fs = map (λ f. f.now) fs

-- the fields of a list of so many
pub five_fields : (fs : List (Bor (List ℕ))) → 5 ≤ length fs → length fs < 6 → texts fs ≡ field fs 0 ∷ field fs 1 ∷ field fs 2 ∷ field fs 3 ∷ field fs 4 ∷ []
five_fields [] low high = absurd (omega arith)
five_fields (a ∷ []) low high = absurd (omega arith)
five_fields (a ∷ b ∷ []) low high = absurd (omega arith)
five_fields (a ∷ b ∷ c ∷ []) low high = absurd (omega arith)
five_fields (a ∷ b ∷ c ∷ d ∷ []) low high = absurd (omega arith)
five_fields (a ∷ b ∷ c ∷ d ∷ e ∷ []) low high = refl
five_fields (a ∷ b ∷ c ∷ d ∷ e ∷ f ∷ fs) low high = absurd (omega arith)

pub no_fields : (fs : List (Bor (List ℕ))) → length fs < 1 → texts fs ≡ []
no_fields [] low = refl
no_fields (a ∷ fs) low = absurd (omega arith)

pub one_field_up : (fs : List (Bor (List ℕ))) → 1 ≤ length fs → texts fs ≡ field fs 0 ∷ texts (take (length fs - 1) (drop 1 fs))
one_field_up [] low = absurd (omega arith)
one_field_up (a ∷ fs) low = let e : take (length (a ∷ fs) - 1) (drop 1 (a ∷ fs)) ≡ fs = take_rest (a ∷ fs) 1 in rw e refl

pub four_fields : (fs : List (Bor (List ℕ))) → 4 ≤ length fs → length fs < 5 → texts fs ≡ field fs 0 ∷ field fs 1 ∷ field fs 2 ∷ field fs 3 ∷ []
four_fields [] low high = absurd (omega arith)
four_fields (a ∷ []) low high = absurd (omega arith)
four_fields (a ∷ b ∷ []) low high = absurd (omega arith)
four_fields (a ∷ b ∷ c ∷ []) low high = absurd (omega arith)
four_fields (a ∷ b ∷ c ∷ d ∷ []) low high = refl
four_fields (a ∷ b ∷ c ∷ d ∷ e ∷ fs) low high = absurd (omega arith)

pub seven_fields_up : (fs : List (Bor (List ℕ))) → 7 ≤ length fs
    → texts fs ≡ field fs 0 ∷ field fs 1 ∷ field fs 2 ∷ field fs 3 ∷ field fs 4 ∷ field fs 5 ∷ field fs 6 ∷ texts (take (length fs - 7) (drop 7 fs))
seven_fields_up [] low = absurd (omega arith)
seven_fields_up (a ∷ []) low = absurd (omega arith)
seven_fields_up (a ∷ b ∷ []) low = absurd (omega arith)
seven_fields_up (a ∷ b ∷ c ∷ []) low = absurd (omega arith)
seven_fields_up (a ∷ b ∷ c ∷ d ∷ []) low = absurd (omega arith)
seven_fields_up (a ∷ b ∷ c ∷ d ∷ e ∷ []) low = absurd (omega arith)
seven_fields_up (a ∷ b ∷ c ∷ d ∷ e ∷ f ∷ []) low = absurd (omega arith)
seven_fields_up (a ∷ b ∷ c ∷ d ∷ e ∷ f ∷ g ∷ fs) low = let rest : take (length (a ∷ b ∷ c ∷ d ∷ e ∷ f ∷ g ∷ fs) - 7) (drop 7 (a ∷ b ∷ c ∷ d ∷ e ∷ f ∷ g ∷ fs)) ≡ fs = take_rest (a ∷ b ∷ c ∷ d ∷ e ∷ f ∷ g ∷ fs) 7 in rw rest refl

-- a record has as many fields as it has texts
pub texts_length : (fs : List (Bor (List ℕ))) → length (texts fs) ≡ length fs
texts_length fs = length-map fs (λ (f : Bor (List ℕ)). f.now)

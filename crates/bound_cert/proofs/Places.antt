-- What stands before a place of a text that could still become a line.
use Rattle.std.proofs.Common.{◌≡◌, ℕ, ◌^◌, ◌<◌, ◌⊎◌, inl, inr, List, [], ◌∷◌, ◌++◌, refl, sym, ap, ◌∙◌, subst, arith, append_assoc, codes}
use Rattle.std.proofs.lemmas.List.{append-nil}
use Rattle.std.proofs.lemmas.List.Elements.{All-nil, All-push}
use Rattle.std.specs.Fmt.{decimal}
use Rattle.std.proofs.lemmas.Fmt.{decimal_digit}
use Rattle.span_base.specs.Number.{IsNumber, number_of}
use Rattle.span_base.specs.Grammar.{CanGoOn}
use Rattle.bound_cert.specs.declared.leaves.Pair.{Pair}
use Rattle.bound_cert.specs.declared.leaves.Leaf.{Leaf}
use Rattle.bound_cert.specs.declared.leaves.Line.TheVariants.{Branch, Close}
use Rattle.bound_cert.specs.Text.{pair_text, pairs_text, line_text}
use Rattle.bound_cert.specs.Reading.{IsSpellablePair, IsSpellable, IsLineShape}
use Rattle.bound_cert.proofs.Numbers.{number_low, decimal-number_of}
use Rattle.bound_cert.proofs.Fronts.{Role, Front, var, scale, row, mult, start, began_branch, began_leaf, number, stuck, step, run, run_append, run_digits, run_row, start_var, start_scale, Gap, leaf_gap}

abbrev pub leaf_of : ℕ → List Pair → Leaf
leaf_of s pairs = record { s = s; pairs = pairs }

-- the text of a leaf line
abbrev pub leaf_text : ℕ → List Pair → List ℕ
leaf_text s pairs = line_text (Close (leaf_of s pairs))

-- what stands before the number
abbrev pub role_text : Role → List ℕ
role_text var = codes "b "
role_text scale = codes "l "
role_text (row s pairs) = leaf_text s pairs ++ codes " "
role_text (mult s pairs r) = (leaf_text s pairs ++ codes " ") ++ (decimal r ++ codes ":")

-- the numbers before can be spelled
abbrev pub IsGoodRole : Role → Type 0
IsGoodRole var = Unit {0}
IsGoodRole scale = Unit {0}
IsGoodRole (row s pairs) = IsSpellable (Close (leaf_of s pairs))
IsGoodRole (mult s pairs r) = IsSpellable (Close (leaf_of s pairs)) × (r < 10 ^ 38)

-- the front of a line that leads to a state
abbrev pub front_text : Front → List ℕ
front_text start = []
front_text began_branch = codes "b"
front_text began_leaf = codes "l"
front_text (number role ds) = role_text role ++ ds
front_text stuck = []

-- the state is one of a front
abbrev pub IsGood : Front → Type 0
IsGood start = Unit {0}
IsGood began_branch = Unit {0}
IsGood began_leaf = Unit {0}
IsGood (number role ds) = IsGoodRole role × ((ds ≡ []) ⊎ IsNumber ds)
IsGood stuck = ⊥

run_gap : (s : ℕ) (pairs : List Pair) → IsSpellable (Close (leaf_of s pairs)) → run start (leaf_text s pairs ++ codes " ") ≡ number (row s pairs) []
run_gap s pairs low =
    let gap : Gap (run start (leaf_text s pairs)) s pairs = leaf_gap (leaf_of s pairs) low in
    run_append start (leaf_text s pairs) (codes " ") ∙ gap.next

pub reaches_role : (role : Role) → IsGoodRole role → run start (role_text role) ≡ number role []
reaches_role var good = start_var
reaches_role scale good = start_scale
reaches_role (row s pairs) good = run_gap s pairs good
reaches_role (mult s pairs r) good =
    run_append start (leaf_text s pairs ++ codes " ") (decimal r ++ codes ":")
    ∙ ap (λ f. run f (decimal r ++ codes ":")) (run_gap s pairs good.0)
    ∙ run_row s pairs r good.1

pub reaches_number : (role : Role) (ds : List ℕ) → IsGoodRole role → IsNumber ds → run start (role_text role ++ ds) ≡ number role ds
reaches_number role ds good h =
    run_append start (role_text role) ds ∙ ap (λ f. run f ds) (reaches_role role good) ∙ run_digits role [] ds h

-- the front of a state leads to it
pub reaches : (f : Front) → IsGood f → run start (front_text f) ≡ f
unfolding step
reaches start good = refl
reaches began_branch good = refl
reaches began_leaf good = refl
reaches (number role ds) good = by ds good.1
  where
    by : (ds : List ℕ) → (ds ≡ []) ⊎ IsNumber ds → run start (role_text role ++ ds) ≡ number role ds
    by ds (inl none) =
        ap (λ xs. run start (role_text role ++ xs)) none ∙ ap (run start) (append-nil (role_text role)) ∙ reaches_role role good.0 ∙ ap (number role) (sym none)
    by ds (inr h) = reaches_number role ds good.0 h
reaches stuck good = absurd good

pairs_text_push : (pairs : List Pair) (pair : Pair) → pairs_text (pairs ++ pair ∷ []) ≡ pairs_text pairs ++ pair_text pair
pairs_text_push [] pair = append-nil (pair_text pair)
pairs_text_push (p ∷ pairs) pair = ap (λ t. pair_text p ++ t) (pairs_text_push pairs pair) ∙ sym (append_assoc (pair_text p) (pairs_text pairs) (pair_text pair))

-- a leaf line with one pair more
pub leaf_text_push : (s : ℕ) (pairs : List Pair) (r m : ℕ) → leaf_text s (pairs ++ record { row = r; mult = m } ∷ []) ≡ role_text (mult s pairs r) ++ decimal m
leaf_text_push s pairs r m =
    let pair : Pair = record { row = r; mult = m } in
    ap (λ t. (codes "l " ++ decimal s) ++ t) (pairs_text_push pairs pair) ∙ regroup (codes "l " ++ decimal s) (pairs_text pairs) (decimal r) (decimal m)
  where
    regroup : (a b c d : List ℕ) → a ++ (b ++ (((codes " " ++ c) ++ codes ":") ++ d)) ≡ (((a ++ b) ++ codes " ") ++ (c ++ codes ":")) ++ d
    regroup a b c d = simp append_assoc

pub push_good : (s : ℕ) (pairs : List Pair) (r m : ℕ) → IsSpellable (Close (leaf_of s pairs)) → r < 10 ^ 38 → m < 10 ^ 38 → IsSpellable (Close (leaf_of s (pairs ++ record { row = r; mult = m } ∷ [])))
push_good s pairs r m good row_low mult_low = (good.0, All-push IsSpellablePair pairs (record { row = r; mult = m }) good.1 (row_low, mult_low))

-- what can be put behind a number to make a line of it
abbrev ending : Role → List ℕ
ending var = []
ending scale = []
ending (row s pairs) = codes ":0"
ending (mult s pairs r) = []

zero_text : decimal 0 ≡ codes "0"
zero_text = decimal_digit 0 (omega arith)

number_goes_on : (role : Role) (ds : List ℕ) → IsGoodRole role → IsNumber ds → IsLineShape ((role_text role ++ ds) ++ ending role)
number_goes_on var ds good h =
    (Branch (number_of ds), number_low ds h, ap (λ t. codes "b " ++ t) (decimal-number_of ds h) ∙ sym (append-nil (codes "b " ++ ds)))
number_goes_on scale ds good h =
    (Close (leaf_of (number_of ds) []), (number_low ds h, All-nil IsSpellablePair), ap (λ t. (codes "l " ++ t) ++ []) (decimal-number_of ds h))
number_goes_on (row s pairs) ds good h =
    let pair : Pair = record { row = number_of ds; mult = 0 } in (
      Close (leaf_of s (pairs ++ pair ∷ [])),
      push_good s pairs (number_of ds) 0 good (number_low ds h) (omega arith),
      leaf_text_push s pairs (number_of ds) 0
          ∙ ap (λ t. ((leaf_text s pairs ++ codes " ") ++ (t ++ codes ":")) ++ decimal 0) (decimal-number_of ds h)
          ∙ ap (λ t. ((leaf_text s pairs ++ codes " ") ++ (ds ++ codes ":")) ++ t) zero_text
          ∙ regroup (leaf_text s pairs ++ codes " ") ds,
    )
  where
    regroup : (a b : List ℕ) → (a ++ (b ++ codes ":")) ++ codes "0" ≡ (a ++ b) ++ codes ":0"
    regroup a b = simp append_assoc
number_goes_on (mult s pairs r) ds good h = (
  Close (leaf_of s (pairs ++ record { row = r; mult = number_of ds } ∷ [])),
  push_good s pairs r (number_of ds) good.0 good.1 (number_low ds h),
  leaf_text_push s pairs r (number_of ds) ∙ ap (λ t. role_text (mult s pairs r) ++ t) (decimal-number_of ds h) ∙ sym (append-nil (role_text (mult s pairs r) ++ ds)),
)

-- the front of a state can become a line
pub goes_on : (f : Front) → IsGood f → CanGoOn IsLineShape (front_text f)
goes_on start good = (codes "b 0", number_goes_on var (codes "0") tt refl)
goes_on began_branch good = (codes " 0", number_goes_on var (codes "0") tt refl)
goes_on began_leaf good = (codes " 0", number_goes_on scale (codes "0") tt refl)
goes_on (number role ds) good = by ds good.1
  where
    by : (ds : List ℕ) → (ds ≡ []) ⊎ IsNumber ds → CanGoOn IsLineShape (role_text role ++ ds)
    by ds (inl none) =
        let whole : IsLineShape ((role_text role ++ codes "0") ++ ending role) = number_goes_on role (codes "0") good.0 refl in
        let regroup : (role_text role ++ codes "0") ++ ending role ≡ (role_text role ++ ds) ++ (codes "0" ++ ending role) =
        append_assoc (role_text role) (codes "0") (ending role)
        ∙ ap (λ t. t ++ (codes "0" ++ ending role)) (sym (append-nil (role_text role)) ∙ ap (λ t. role_text role ++ t) (sym none)) in
        (codes "0" ++ ending role, subst IsLineShape regroup whole)
    by ds (inr h) = (ending role, number_goes_on role ds good.0 h)
goes_on stuck good = absurd good

-- The fronts of lines as the states of an automaton: where each byte of a line leads.
use Rattle.std.proofs.Common.{◌≡◌, ℕ, ◌^◌, ◌<◌, Bool, true, false, cond, ◌==◌, List, [], ◌∷◌, ◌++◌, length, refl, sym, ap, ◌∙◌, subst, arith, append_assoc, codes, All}
use Rattle.std.proofs.lemmas.List.{append-nil}
use Rattle.std.proofs.lemmas.List.Elements.{All-head, All-tail}
use Rattle.std.specs.Fmt.{decimal}
use Rattle.span_base.specs.Number.{is_number, IsNumber, number_of}
use Rattle.span_base.proofs.Spelling.{decimal_reads}
use Rattle.bound_cert.specs.declared.leaves.Pair.{Pair}
use Rattle.bound_cert.specs.declared.leaves.Leaf.{Leaf}
use Rattle.bound_cert.specs.declared.leaves.Line.{Line}
use Rattle.bound_cert.specs.declared.leaves.Line.TheVariants.{Branch, Close}
use Rattle.bound_cert.specs.Text.{pair_text, pairs_text, line_text}
use Rattle.bound_cert.specs.Reading.{IsSpellablePair, IsSpellable}
use Rattle.bound_cert.proofs.Numbers.{number_front, number_ends}

-- which number of a line is next, with what was read before it
pub data Role : Type 0 where
  var : Role
  scale : Role
  row : ℕ → List Pair → Role
  mult : ℕ → List Pair → ℕ → Role

-- a front of a line, up to some digits of a number; or no front of any
pub data Front : Type 0 where
  start : Front
  began_branch : Front
  began_leaf : Front
  number : Role → List ℕ → Front
  stuck : Front

-- where a byte leads behind a number
abbrev pub after : Role → ℕ → ℕ → Front
after var n c = stuck
after scale n c = cond (c == 32) (number (row n []) []) stuck
after (row s pairs) n c = cond (c == 58) (number (mult s pairs n) []) stuck
after (mult s pairs r) n c = cond (c == 32) (number (row s (pairs ++ record { row = r; mult = n } ∷ [])) []) stuck

-- where a byte leads
unfoldable pub step : Front → ℕ → Front
step start c = cond (c == 98) began_branch (cond (c == 108) began_leaf stuck)
step began_branch c = cond (c == 32) (number var []) stuck
step began_leaf c = cond (c == 32) (number scale []) stuck
step (number role ds) c =
    cond (is_number (ds ++ c ∷ [])) (number role (ds ++ c ∷ [])) (cond (is_number ds) (after role (number_of ds) c) stuck)
step stuck c = stuck

-- where a text leads
abbrev pub run : Front → List ℕ → Front
run f [] = f
run f (c ∷ cs) = run (step f c) cs

-- a number that a line may end with
abbrev pub may_end : Role → Bool
may_end var = true
may_end scale = true
may_end (row s pairs) = false
may_end (mult s pairs r) = true

-- whether a line may end here
abbrev pub is_end : Front → Bool
is_end start = false
is_end began_branch = false
is_end began_leaf = false
is_end (number role ds) = cond (is_number ds) (may_end role) false
is_end stuck = false

pub run_append : (f : Front) (xs ys : List ℕ) → run f (xs ++ ys) ≡ run (run f xs) ys
run_append f [] ys = refl
run_append f (x ∷ xs) ys = run_append (step f x) xs ys

pub run_stuck : (xs : List ℕ) → run stuck xs ≡ stuck
unfolding step
run_stuck [] = refl
run_stuck (x ∷ xs) = run_stuck xs

-- the digits of a number lead to it
step_digit : (role : Role) (ds : List ℕ) (c : ℕ) → is_number (ds ++ c ∷ []) ≡ true → step (number role ds) c ≡ number role (ds ++ c ∷ [])
unfolding step
step_digit role ds c h = rw h refl

-- a byte that is no digit of it leads on behind a number
pub step_after : (role : Role) (ds : List ℕ) (c : ℕ) → is_number (ds ++ c ∷ []) ≡ false → IsNumber ds → step (number role ds) c ≡ after role (number_of ds) c
unfolding step
step_after role ds c h n = rw (h, n) refl

pub step_none : (role : Role) (c : ℕ) → is_number (c ∷ []) ≡ false → step (number role []) c ≡ stuck
unfolding step
step_none role c h = rw h refl

some_append : (ds : List ℕ) (c : ℕ) → 0 < length (ds ++ c ∷ [])
some_append [] c = omega arith
some_append (d ∷ ds) c = omega arith

pub run_digits : (role : Role) (ds xs : List ℕ) → IsNumber (ds ++ xs) → run (number role ds) xs ≡ number role (ds ++ xs)
run_digits role ds [] h = ap (number role) (sym (append-nil ds))
run_digits role ds (x ∷ xs) h =
    let whole : (ds ++ x ∷ []) ++ xs ≡ ds ++ x ∷ xs = append_assoc ds (x ∷ []) xs in
    let h' : IsNumber ((ds ++ x ∷ []) ++ xs) = subst IsNumber (sym whole) h in
    let front : IsNumber (ds ++ x ∷ []) = number_front (ds ++ x ∷ []) xs (some_append ds x) h' in
    ap (λ f. run f xs) (step_digit role ds x front) ∙ run_digits role (ds ++ x ∷ []) xs h' ∙ ap (number role) whole

pub run_decimal : (role : Role) (n : ℕ) → n < 10 ^ 38 → run (number role []) (decimal n) ≡ number role (decimal n)
run_decimal role n low = run_digits role [] (decimal n) (decimal_reads n low).0

-- a place behind the S of a leaf, or behind some pairs: the line may end here, or a row may follow
pub record Gap (f : Front) (s : ℕ) (pairs : List Pair) : Type 0 where
  pub ends : is_end f ≡ true
  pub next : step f 32 ≡ number (row s pairs) []

end_of : (role : Role) (ds : List ℕ) → IsNumber ds → may_end role ≡ true → is_end (number role ds) ≡ true
end_of role ds h may = rw (h, may) refl

gap_scale : (s : ℕ) → s < 10 ^ 38 → Gap (number scale (decimal s)) s []
gap_scale s low =
    let d : IsNumber (decimal s) × (number_of (decimal s) ≡ s) = decimal_reads s low in
    record {
      ends = end_of scale (decimal s) d.0 refl;
      next = step_after scale (decimal s) 32 (number_ends (decimal s) 32 refl) d.0 ∙ ap (λ n. number (row n []) []) d.1;
    }

gap_mult : (s : ℕ) (pairs : List Pair) (pair : Pair) → pair.mult < 10 ^ 38 → Gap (number (mult s pairs pair.row) (decimal pair.mult)) s (pairs ++ pair ∷ [])
gap_mult s pairs pair low =
    let d : IsNumber (decimal pair.mult) × (number_of (decimal pair.mult) ≡ pair.mult) = decimal_reads pair.mult low in
    let one : ℕ → Pair = λ n. record { row = pair.row; mult = n } in
    record {
      ends = end_of (mult s pairs pair.row) (decimal pair.mult) d.0 refl;
      next = step_after (mult s pairs pair.row) (decimal pair.mult) 32 (number_ends (decimal pair.mult) 32 refl) d.0 ∙ ap (λ n. number (row s (pairs ++ one n ∷ [])) []) d.1;
    }

-- behind a row stands a colon
pub step_colon : (s : ℕ) (pairs : List Pair) (r : ℕ) → r < 10 ^ 38 → step (number (row s pairs) (decimal r)) 58 ≡ number (mult s pairs r) []
step_colon s pairs r low =
    let d : IsNumber (decimal r) × (number_of (decimal r) ≡ r) = decimal_reads r low in
    step_after (row s pairs) (decimal r) 58 (number_ends (decimal r) 58 refl) d.0 ∙ ap (λ n. number (mult s pairs n) []) d.1

pub run_row : (s : ℕ) (pairs : List Pair) (r : ℕ) → r < 10 ^ 38 → run (number (row s pairs) []) (decimal r ++ 58 ∷ []) ≡ number (mult s pairs r) []
run_row s pairs r low =
    run_append (number (row s pairs) []) (decimal r) (58 ∷ [])
    ∙ ap (λ f. step f 58) (run_decimal (row s pairs) r low)
    ∙ step_colon s pairs r low

over_pair : (f : Front) (s : ℕ) (done : List Pair) (pair : Pair) → Gap f s done → IsSpellablePair pair → Gap (run f (pair_text pair)) s (done ++ pair ∷ [])
over_pair f s done pair gap low =
    let ends : run f (pair_text pair) ≡ number (mult s done pair.row) (decimal pair.mult) =
    run_append f (32 ∷ (decimal pair.row ++ 58 ∷ [])) (decimal pair.mult)
    ∙ ap (λ g. run (run g (decimal pair.row ++ 58 ∷ [])) (decimal pair.mult)) gap.next
    ∙ ap (λ g. run g (decimal pair.mult)) (run_row s done pair.row low.0)
    ∙ run_decimal (mult s done pair.row) pair.mult low.1 in
    subst (λ g. Gap g s (done ++ pair ∷ [])) (sym ends) (gap_mult s done pair low.1)

over_pairs : (f : Front) (s : ℕ) (done todo : List Pair) → Gap f s done → All IsSpellablePair todo → Gap (run f (pairs_text todo)) s (done ++ todo)
over_pairs f s done [] gap low = subst (Gap f s) (sym (append-nil done)) gap
over_pairs f s done (pair ∷ todo) gap low =
    let first : Gap (run f (pair_text pair)) s (done ++ pair ∷ []) = over_pair f s done pair gap (All-head IsSpellablePair pair todo low) in
    let rest : Gap (run (run f (pair_text pair)) (pairs_text todo)) s ((done ++ pair ∷ []) ++ todo) =
    over_pairs (run f (pair_text pair)) s (done ++ pair ∷ []) todo first (All-tail IsSpellablePair pair todo low) in
    let rest' : Gap (run (run f (pair_text pair)) (pairs_text todo)) s (done ++ pair ∷ todo) =
    subst (Gap (run (run f (pair_text pair)) (pairs_text todo)) s) (append_assoc done (pair ∷ []) todo) rest in
    subst (λ g. Gap g s (done ++ pair ∷ todo)) (sym (run_append f (pair_text pair) (pairs_text todo))) rest'

began : (c : ℕ) (role : Role) → step (step start c) 32 ≡ number role [] → (n : ℕ) → n < 10 ^ 38 → run start ((c ∷ 32 ∷ []) ++ decimal n) ≡ number role (decimal n)
began c role h n low = ap (λ f. run f (decimal n)) h ∙ run_decimal role n low

pub start_var : run start (codes "b ") ≡ number var []
unfolding step
start_var = refl

pub start_scale : run start (codes "l ") ≡ number scale []
unfolding step
start_scale = refl

-- the text of a leaf leads to a gap
pub leaf_gap : (end : Leaf) → IsSpellable (Close end) → Gap (run start (line_text (Close end))) end.s end.pairs
leaf_gap end low =
    let front : run start (codes "l " ++ decimal end.s) ≡ number scale (decimal end.s) = began 108 scale start_scale end.s low.0 in
    let first : Gap (run start (codes "l " ++ decimal end.s)) end.s [] = subst (λ f. Gap f end.s []) (sym front) (gap_scale end.s low.0) in
    let all = over_pairs (run start (codes "l " ++ decimal end.s)) end.s [] end.pairs first low.1 in
    subst (λ f. Gap f end.s end.pairs) (sym (run_append start (codes "l " ++ decimal end.s) (pairs_text end.pairs))) all

-- the text of a line leads to an end
pub line_ends : (line : Line) → IsSpellable line → is_end (run start (line_text line)) ≡ true
line_ends (Branch n) low =
    ap is_end (began 98 var start_var n low) ∙ end_of var (decimal n) (decimal_reads n low).0 refl
line_ends (Close end) low = (leaf_gap end low).ends

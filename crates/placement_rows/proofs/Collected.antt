-- Sets into which the numbers of a range are put that pass a test, and loops over such a set.
use Rattle.std.proofs.Common.{◌≡◌, ℕ, zero, suc, ◌+◌, ◌-◌, ◌<◌, ◌≤◌, inl, inr, Bool, true, false, cond, List, [], ◌∷◌, ◌++◌, map, refl, sym, ap, subst, ◌∙◌, arith}
use Rattle.std.specs.List.{filter, fold, range_with_len}
use Rattle.std.proofs.lemmas.Bool.{cases_lt, cases_eq, cases_Bool, false_from_ne_true}
use Rattle.std.proofs.lemmas.List.{append-nil, append_assoc, map-append}
use Rattle.std.proofs.lemmas.List.Elements.{filter-append}
use Rattle.span_base.specs.declared.dc_set.DcSet.{DcSet}
use Rattle.span_base.specs.DcSet.{has, centres_of, centres_below, insert, no_centre as no_dc}
use Rattle.span_base.proofs.Sets.{has-insert_same, has-insert_other, has-below, has-no_centre}
use Rattle.placement_rows.specs.Centres.{set_of_centres}
use Rattle.placement_rows.proofs.Sums.{filter-below, filter-range_agree, range-append}
use Rattle.placement_rows.proofs.Loops.{fold_next_in, fold_next_out, kept_next_in, kept_next_out}

-- what a set has it still has when more is added
insert-keeps : (s : DcSet) (e d : ℕ) → has s d ≡ true → has (insert s e) d ≡ true
insert-keeps s e d is = elim (cases_eq d e) [
  | inl same ↦ subst (λ k. has (insert s k) d ≡ true) same (has-insert_same s d (has-below s d is))
  | inr other ↦ has-insert_other s e d other ∙ is
]

fold-keeps : (ds : List ℕ) (s : DcSet) (d : ℕ) → has s d ≡ true → has (fold insert s ds) d ≡ true
fold-keeps [] s d is = is
fold-keeps (e ∷ ds) s d is = fold-keeps ds (insert s e) d (insert-keeps s e d is)

fold-has : (p : ℕ → Bool) (s : DcSet) (a k : ℕ) → a + k ≤ 16 → (d : ℕ) → a ≤ d → d < a + k → p d ≡ true → has (fold insert s (filter p (range_with_len a k))) d ≡ true
fold-has p s a zero few d low high is = absurd (omega arith)
fold-has p s a (suc k) few d low high is = elim (cases_lt a d) [
  | inl above ↦ elim (p a) as (λ b. has (fold insert s (cond b (a ∷ filter p (range_with_len (a + 1) k)) (filter p (range_with_len (a + 1) k)))) d ≡ true) [
    | true ↦ fold-has p (insert s a) (a + 1) k (omega arith) d (omega arith) (omega arith) is
    | false ↦ fold-has p s (a + 1) k (omega arith) d (omega arith) (omega arith) is
  ]
  | inr below ↦
      let same : d ≡ a = omega arith in
      let here : p a ≡ true = ap p (sym same) ∙ is in
      subst (λ b. has (fold insert s (cond b (a ∷ filter p (range_with_len (a + 1) k)) (filter p (range_with_len (a + 1) k)))) d ≡ true) (sym here)
      (fold-keeps (filter p (range_with_len (a + 1) k)) (insert s a) d (subst (λ e. has (insert s a) e ≡ true) (sym same) (has-insert_same s a (omega arith))))
]

fold-lacks : (p : ℕ → Bool) (s : DcSet) (a k d : ℕ) → (a ≤ d → d < a + k → p d ≡ true → ⊥) → has (fold insert s (filter p (range_with_len a k))) d ≡ has s d
fold-lacks p s a zero d not = refl
fold-lacks p s a (suc k) d not = elim (cases_Bool (p a)) [
  | inl is_one ↦
      ap (λ b. has (fold insert s (cond b (a ∷ filter p (range_with_len (a + 1) k)) (filter p (range_with_len (a + 1) k)))) d) is_one
      ∙ fold-lacks p (insert s a) (a + 1) k d (λ low high is. not (omega arith) (omega arith) is)
      ∙ has-insert_other s a d (λ same. not (omega arith) (omega arith) (ap p same ∙ is_one))
  | inr is_zero ↦
      ap (λ b. has (fold insert s (cond b (a ∷ filter p (range_with_len (a + 1) k)) (filter p (range_with_len (a + 1) k)))) d) is_zero
      ∙ fold-lacks p s (a + 1) k d (λ low high is. not (omega arith) (omega arith) is)
]

-- such a set has the numbers that pass
pub has-set_of : (p : ℕ → Bool) (n : ℕ) → n ≤ 16 → (d : ℕ) → d < n → has (set_of_centres (filter p (range_with_len 0 n))) d ≡ p d
has-set_of p n few d low = elim (cases_Bool (p d)) [
  | inl is_one ↦ fold-has p no_dc 0 n (omega arith) d (omega arith) (omega arith) is_one ∙ sym is_one
  | inr is_zero ↦ fold-lacks p no_dc 0 n d (λ from to is. cc) ∙ has-no_centre d ∙ sym is_zero
]

-- and no other
pub set_of-below : (p : ℕ → Bool) (n d : ℕ) → has (set_of_centres (filter p (range_with_len 0 n))) d ≡ true → d < n
set_of-below p n d is = elim (cases_lt d n) [
  | inl low ↦ low
  | inr past ↦ let no : has (set_of_centres (filter p (range_with_len 0 n))) d ≡ false = fold-lacks p no_dc 0 n d (λ from to e. omega arith) ∙ has-no_centre d in cc
]

-- the centres of a set that lies below a number of centres
pub centres_of-below : (s : DcSet) (n : ℕ) → n ≤ 16 → ((d : ℕ) → has s d ≡ true → d < n) → centres_of s ≡ filter (has s) (range_with_len 0 n)
unfolding centres_of centres_below
centres_of-below s n few low =
    let count : 16 ≡ n + (16 - n) = omega arith in
    ap (λ k. filter (has s) (range_with_len 0 k)) count
    ∙ ap (filter (has s)) (range-append 0 n (16 - n))
    ∙ filter-append (has s) (range_with_len 0 n) (range_with_len (0 + n) (16 - n))
    ∙ ap (λ ds. filter (has s) (range_with_len 0 n) ++ ds) (filter-below (has s) (0 + n) (16 - n) (λ d from to. false_from_ne_true (has s d) (λ e. let h = low d e in omega arith)))
    ∙ append-nil (filter (has s) (range_with_len 0 n))

pub centres_of-set_of : (p : ℕ → Bool) (n : ℕ) → n ≤ 16 → centres_of (set_of_centres (filter p (range_with_len 0 n))) ≡ filter p (range_with_len 0 n)
centres_of-set_of p n few =
    centres_of-below (set_of_centres (filter p (range_with_len 0 n))) n few (set_of-below p n)
    ∙ filter-range_agree (has (set_of_centres (filter p (range_with_len 0 n)))) p 0 n (λ d low high. has-set_of p n few d (omega arith))

-- the numbers of a range that are in such a set
pub kept_of-set_of : (p : ℕ → Bool) (n : ℕ) → n ≤ 16 → filter (has (set_of_centres (filter p (range_with_len 0 n)))) (range_with_len 0 n) ≡ filter p (range_with_len 0 n)
kept_of-set_of p n few = filter-range_agree (has (set_of_centres (filter p (range_with_len 0 n)))) p 0 n (λ d from to. has-set_of p n few d (omega arith))

pub ruleset collects = (fold_next_in, fold_next_out, centres_of-set_of)

-- what is made of the centres of a set, once all are passed
pub entries-all : {X : Type 0} (f : ℕ → X) (s : DcSet) (d : ℕ) → 16 ≤ d → d ≤ 16 → map f (filter (has s) (range_with_len 0 d)) ≡ map f (centres_of s)
unfolding centres_of centres_below
entries-all f s d high low =
    let all : d ≡ 16 = omega arith in
    ap (λ n. map f (filter (has s) (range_with_len 0 n))) all

pub ruleset entries = (kept_next_in, kept_next_out, append_assoc, entries-all)

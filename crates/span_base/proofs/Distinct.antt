-- Centres that are all different.
use Rattle.std.proofs.Common.{◌≡◌, ◌≢◌, ℕ, ◌<◌, ◌≤◌, ◌+◌, ◌⊎◌, inl, inr, true, false, List, length, arith, slice_index, sym, ◌∙◌, below_more, ap, subst, Bool, ◌==◌, refl}
use Rattle.std.specs.List.{All, AllPairs}
use Rattle.std.proofs.lemmas.List.{get_or_default}
use Rattle.std.proofs.lemmas.Bool.{eqb-true, eqb-false}
use Rattle.span_base.specs.DcSet.{DcSet, has}

-- the first i centres are below 16 and all different, and are the set's
pub record DistinctSoFar (centres : List ℕ) (i : ℕ) (seen : DcSet) : Type 0 where
  pub distinct : (j k : ℕ) → j < k → k < i → slice_index centres j ≢ slice_index centres k
  pub below : (k : ℕ) → k < i → slice_index centres k < 16
  pub seen_are : (d : ℕ) → has seen d ≡ true → (k : ℕ) × (k < i) × (slice_index centres k ≡ d)
  pub are_seen : (k : ℕ) → k < i → has seen (slice_index centres k) ≡ true

abbrev pub AllDifferent : List ℕ → Type 0
AllDifferent cs = AllPairs (λ c d. c ≢ d) cs × All (λ c. c < 16) cs

pub eq_or_not : (a b : ℕ) → (a ≡ b) ⊎ (a ≢ b)
eq_or_not a b =
    (elim (a == b) as (λ (v : Bool). (a == b) ≡ v → (a ≡ b) ⊎ (a ≢ b))
    [ true ↦ λ e. inl (eqb-true a b e) | false ↦ λ e. inr (eqb-false a b e) ]) refl

-- at the end all are different
pub all_different : (cs : List ℕ) (i : ℕ) (seen : DcSet) → DistinctSoFar cs i seen → length cs ≤ i → AllDifferent cs
all_different cs i seen so_far end = (
  λ j k d order within same.
      let low : j < length cs = omega arith in
      so_far.distinct j k order (omega arith) (get_or_default cs j 0 d low ∙ same ∙ get_or_default cs k d 0 within),
  λ k d within. subst (λ x. x < 16) (get_or_default cs k 0 d within) (so_far.below k (omega arith)),
)

-- a number from 16 on is no centre
pub high_refuses : (cs : List ℕ) (i : ℕ) → i < length cs → 16 ≤ slice_index cs i → ¬ AllDifferent cs
high_refuses cs i within high all =
    let low : slice_index cs i < 16 = all.1 i 0 within in
    omega arith

-- a centre that was seen stands twice
pub seen_refuses : (cs : List ℕ) (i : ℕ) (seen : DcSet) → DistinctSoFar cs i seen → i < length cs → has seen (slice_index cs i) ≡ true → ¬ AllDifferent cs
seen_refuses cs i seen so_far within twice all =
    let first : (k : ℕ) × (k < i) × (slice_index cs k ≡ slice_index cs i) = so_far.seen_are (slice_index cs i) twice in
    all.0 first.0 i 0 first.1 within first.2

-- one centre more
pub DistinctSoFar-more : (cs : List ℕ) (i : ℕ) (seen more : DcSet) (d : ℕ) → DistinctSoFar cs i seen → d ≡ slice_index cs i → d < 16 → has seen d ≡ false → has more d ≡ true → ((e : ℕ) → e ≢ d → has more e ≡ has seen e) → DistinctSoFar cs (i + 1) more
DistinctSoFar-more cs i seen more d so_far is low fresh same other = record {
  distinct = λ j k order within. distinct' j k order within;
  below = below_more (λ k. slice_index cs k < 16) i so_far.below (subst (λ x. x < 16) is low);
  seen_are = λ e h. seen' e h (eq_or_not e d);
  are_seen = below_more (λ k. has more (slice_index cs k) ≡ true) i
      (λ k within. kept (slice_index cs k) (so_far.are_seen k within) (eq_or_not (slice_index cs k) d))
      (subst (λ x. has more x ≡ true) is same);
}
  where
    kept : (e : ℕ) → has seen e ≡ true → (e ≡ d) ⊎ (e ≢ d) → has more e ≡ true
    kept e h (inl here) = subst (λ x. has more x ≡ true) (sym here) same
    kept e h (inr away) = other e away ∙ h

    seen' : (e : ℕ) → has more e ≡ true → (e ≡ d) ⊎ (e ≢ d) → (k : ℕ) × (k < i + 1) × (slice_index cs k ≡ e)
    seen' e h (inl here) = (i, omega arith, sym is ∙ sym here)
    seen' e h (inr away) =
        let first : (k : ℕ) × (k < i) × (slice_index cs k ≡ e) = so_far.seen_are e (sym (other e away) ∙ h) in
        let low : first.0 < i = first.1 in
        (first.0, omega arith, first.2)

    unseen : (k : ℕ) → k < i → slice_index cs k ≢ d
    unseen k within e =
        let was : has seen d ≡ true = subst (λ x. has seen x ≡ true) e (so_far.are_seen k within) in
        let no : false ≡ true = sym fresh ∙ was in
        cc

    last_or_before : (k : ℕ) → k < i + 1 → (k < i) ⊎ (k ≡ i)
    last_or_before k h = split (eq_or_not k i)
      where
        split : (k ≡ i) ⊎ (k ≢ i) → (k < i) ⊎ (k ≡ i)
        split (inl e) = inr e
        split (inr ne) = inl (omega arith)

    distinct' : (j k : ℕ) → j < k → k < i + 1 → slice_index cs j ≢ slice_index cs k
    distinct' j k order within same' = by (last_or_before k within)
      where
        by : (k < i) ⊎ (k ≡ i) → ⊥
        by (inl before) = so_far.distinct j k order before same'
        by (inr last) = unseen j (omega arith) (same' ∙ ap (slice_index cs) last ∙ sym is)

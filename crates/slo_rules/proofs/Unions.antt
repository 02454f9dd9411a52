-- Sets of centres that have the same centres.
use Rattle.std.proofs.Common.{◌≡◌, ℕ, ◌+◌, ◌<◌, ◌≤◌, ◌^◌, inl, inr, Bool, true, false, cond, ◌||◌, ◌==◌, List, ◌∷◌, refl, ap, ◌∙◌, sym, arith, suc, zero}
use Rattle.std.specs.List.{filter, range_with_len, list_any}
use Rattle.std.specs.Cmp.Lexicographic.{same_text, bytes_decides}
use Rattle.std.proofs.lemmas.Bool.{eqb-true, ne_eqb, eq-eqb, cases_eq, false_from_ne_true, false≢true}
use Rattle.span_base.specs.declared.dc_set.DcSet.{DcSet}
use Rattle.span_base.specs.DcSet.{bits_of, has, centres_below, centres_of}
use Rattle.span_base.proofs.Sets.{same_set}
use Rattle.slo_rules.specs.Rules.{same_list}

first_or : (b c e : Bool) → (c ≡ false) → (e ≡ false) → (cond b c false || e) ≡ false
first_or true c e h k = ap (λ x. x || e) h ∙ k
first_or false c e h k = k

list_any_if : (p : ℕ → Bool) (b : Bool) (d : ℕ) (ds : List ℕ) → list_any p (cond b (d ∷ ds) ds) ≡ (cond b (p d) false || list_any p ds)
list_any_if p true d ds = refl
list_any_if p false d ds = refl

-- a number below a range isn't among those that are kept of it
none_below : (q : ℕ → Bool) (n a d : ℕ) → d < a → list_any (λ x. x == d) (filter q (range_with_len a n)) ≡ false
none_below q zero a d h = refl
none_below q (suc n) a d h =
    list_any_if (λ x. x == d) (q a) a (filter q (range_with_len (a + 1) n))
    ∙ first_or (q a) (a == d) _ (ne_eqb a d (λ e. omega arith)) (none_below q n (a + 1) d (omega arith))

here : (b c e : Bool) → c ≡ true → e ≡ false → (cond b c false || e) ≡ b
here true c e h k = ap (λ x. x || e) h
here false c e h k = k

further : (b c e : Bool) → c ≡ false → (cond b c false || e) ≡ e
further true c e h = ap (λ x. x || e) h
further false c e h = refl

-- a number of a range is among those that are kept of it where it passes
kept : (q : ℕ → Bool) (n a d : ℕ) → a ≤ d → d < a + n → list_any (λ x. x == d) (filter q (range_with_len a n)) ≡ q d
kept q zero a d low high = absurd (omega arith)
kept q (suc n) a d low high = elim (cases_eq a d) [
  | inl same ↦
      list_any_if (λ x. x == d) (q a) a (filter q (range_with_len (a + 1) n))
      ∙ here (q a) (a == d) _ (eq-eqb a d same) (none_below q n (a + 1) d (omega arith))
      ∙ ap q same
  | inr other ↦
      list_any_if (λ x. x == d) (q a) a (filter q (range_with_len (a + 1) n))
      ∙ further (q a) (a == d) _ (ne_eqb a d other)
      ∙ kept q n (a + 1) d (omega arith) (omega arith)
]

-- a set has a centre where it is among its centres
among : (s : DcSet) (d : ℕ) → d < 16 → list_any (λ x. x == d) (centres_of s) ≡ has s d
unfolding centres_of centres_below
among s d h = kept (has s) 16 0 d (omega arith) (omega arith)

same_bits_of : (s t : DcSet) → bits_of s < 2 ^ 16 → bits_of t < 2 ^ 16 → same_list (centres_of s) (centres_of t) ≡ true → bits_of s ≡ bits_of t
same_bits_of s t low high same =
    let lists : centres_of s ≡ centres_of t = same_text (centres_of s) (centres_of t) (sym same) in
    ap bits_of (same_set s t low high (λ d h. sym (among s d h) ∙ ap (list_any (λ x. x == d)) lists ∙ among t d h))

-- two sets with the same bits have the same centres
equal : (s t : DcSet) → bits_of s ≡ bits_of t → same_list (centres_of s) (centres_of t) ≡ true
equal s t e =
    let same : centres_of s ≡ centres_of t = ap (λ n. let r : DcSet = record { bits = n } in centres_of r) e in
    (bytes_decides (centres_of s) (centres_of t)).1 same

decided : (s t : DcSet) → bits_of s < 2 ^ 16 → bits_of t < 2 ^ 16 → (b : Bool) → (bits_of s == bits_of t) ≡ b → same_list (centres_of s) (centres_of t) ≡ b
decided s t low high true e = equal s t (eqb-true (bits_of s) (bits_of t) e)
decided s t low high false e =
    false_from_ne_true (same_list (centres_of s) (centres_of t)) (λ same. false≢true (sym e ∙ eq-eqb (bits_of s) (bits_of t) (same_bits_of s t low high same)))

-- two sets have the same centres where they have the same bits
pub same-centres_of : (s t : DcSet) → bits_of s < 2 ^ 16 → bits_of t < 2 ^ 16 → same_list (centres_of s) (centres_of t) ≡ (bits_of s == bits_of t)
same-centres_of s t low high = decided s t low high (bits_of s == bits_of t) refl

pub ruleset sets = (same-centres_of)

-- Tests of the centres of a set.
use Rattle.std.proofs.Common.{◌≡◌, ℕ, ◌+◌, ◌-◌, ◌<◌, ◌≤◌, Bool, true, nat_lt, ◌++◌, get_or, sym, ap, subst, ◌∙◌, arith}
use Rattle.std.specs.List.{filter, range_with_len, list_all, list_any, Contains}
use Rattle.std.proofs.lemmas.Bool.{lt-ltb, ltb-true, false_from_ne_true}
use Rattle.std.proofs.lemmas.List.{append-nil}
use Rattle.std.proofs.lemmas.List.Elements.{filter-append}
use Rattle.std.proofs.lemmas.List.Folds.{list_any_at, Any-from_list_any}
use Rattle.std.proofs.lemmas.List.Sums.{AllPass-from_list_all, list_all-from_AllPass}
use Rattle.span_base.specs.declared.dc_set.DcSet.{DcSet}
use Rattle.span_base.specs.DcSet.{has, centres_of, centres_below}
use Rattle.span_base.proofs.Sets.{All-centres_of, Contains-centres_of}
use Rattle.slo_rules.specs.Rules.{lies_below}
use Rattle.placement_rows.proofs.Sums.{filter-below, range-append}

-- what all centres of a set pass, each of them passes
pub all_pass : (p : ℕ → Bool) (s : DcSet) → list_all p (centres_of s) ≡ true → (d : ℕ) → has s d ≡ true → p d ≡ true
all_pass p s all d is =
    let at = Contains-centres_of s d is in
    ap p (sym at.2) ∙ AllPass-from_list_all p (centres_of s) all at.0 d at.1

pub all_pass-from : (p : ℕ → Bool) (s : DcSet) → ((d : ℕ) → has s d ≡ true → p d ≡ true) → list_all p (centres_of s) ≡ true
all_pass-from p s each = list_all-from_AllPass p (centres_of s) (λ k d within. each (get_or (centres_of s) k d) (All-centres_of s k d within))

-- a centre of a set that passes a test
pub record Passing (p : ℕ → Bool) (s : DcSet) : Type 0 where
  pub at : ℕ
  pub among : has s at ≡ true
  pub passes : p at ≡ true

pub any_pass : (p : ℕ → Bool) (s : DcSet) → list_any p (centres_of s) ≡ true → Passing p s
any_pass p s some =
    let any = Any-from_list_any p (centres_of s) some in
    record { at = any.1; among = ap (has s) (sym any.3) ∙ All-centres_of s any.0 any.1 any.2; passes = any.4 }

pub any_pass-from : (p : ℕ → Bool) (s : DcSet) (d : ℕ) → has s d ≡ true → p d ≡ true → list_any p (centres_of s) ≡ true
any_pass-from p s d is passes =
    let at = Contains-centres_of s d is in
    list_any_at p (centres_of s) at.0 d at.1 (ap p at.2 ∙ passes)

-- of two sets with the same centres each has those of the other
pub same_centres : (s t : DcSet) → centres_of s ≡ centres_of t → (d : ℕ) → has s d ≡ true → has t d ≡ true
same_centres s t same d is =
    let at = subst (λ ds. Contains ds d) same (Contains-centres_of s d is) in
    ap (has t) (sym at.2) ∙ All-centres_of t at.0 d at.1

-- a set lies below a number where its centres are below it
pub below_all : (n : ℕ) (s : DcSet) → lies_below n s ≡ true → (d : ℕ) → has s d ≡ true → d < n
below_all n s all d is = ltb-true d n (all_pass (λ dc. nat_lt dc n) s all d is)

pub below_from : (n : ℕ) (s : DcSet) → ((d : ℕ) → has s d ≡ true → d < n) → lies_below n s ≡ true
below_from n s low = all_pass-from (λ dc. nat_lt dc n) s (λ d is. lt-ltb d n (low d is))

-- the centres of a set that lies below a number of centres
pub centres_of-below : (s : DcSet) (n : ℕ) → n ≤ 16 → ((d : ℕ) → has s d ≡ true → d < n) → centres_of s ≡ filter (has s) (range_with_len 0 n)
unfolding centres_of centres_below
centres_of-below s n few low =
    let count : 16 ≡ n + (16 - n) = omega arith in
    ap (λ k. filter (has s) (range_with_len 0 k)) count
    ∙ ap (filter (has s)) (range-append 0 n (16 - n))
    ∙ filter-append (has s) (range_with_len 0 n) (range_with_len (0 + n) (16 - n))
    ∙ ap (λ ds. filter (has s) (range_with_len 0 n) ++ ds) (filter-below (has s) (0 + n) (16 - n) (λ d from to. false_from_ne_true (has s d) (λ e. let h = low d e in omega arith)))
    ∙ append-nil (filter (has s) (range_with_len 0 n))

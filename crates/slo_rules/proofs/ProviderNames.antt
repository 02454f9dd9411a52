-- How many providers the centres of a set lie with.
use Rattle.std.proofs.Common.{◌≡◌, ℕ, ◌+◌, ◌<◌, ◌≤◌, inl, inr, Bool, true, false, cond, ◌||◌, nat_lt, List, [], ◌∷◌, length, refl, ap, ◌∙◌, sym, arith, suc, zero}
use Rattle.std.specs.List.{filter, range_with_len, list_all, list_any}
use Rattle.std.specs.Cmp.Lexicographic.{same_text}
use Rattle.std.proofs.lemmas.Bool.{and_parts, ltb-true, cases_eq}
use Rattle.span_base.specs.declared.dc_set.DcSet.{DcSet}
use Rattle.span_base.specs.DcSet.{has, centres_below, centres_of}
use Rattle.workload.specs.World.{Lists, centre_of}
use Rattle.slo_rules.specs.Centres.{centres_from}
use Rattle.slo_rules.specs.Rules.{lies_below, same_list, same_provider, providers_of}
use Rattle.slo_rules.proofs.Centres.{centres_of_is, centres_from-end, centres_from-next}

-- what all items have, those after the first have
all_tail : (p : ℕ → Bool) (b : Bool) (d : ℕ) (ds : List ℕ) → list_all p (cond b (d ∷ ds) ds) ≡ true → list_all p ds ≡ true
all_tail p true d ds h = (and_parts (p d) (list_all p ds) h).1
all_tail p false d ds h = h

all_head : (p : ℕ → Bool) (b : Bool) (d : ℕ) (ds : List ℕ) → list_all p (cond b (d ∷ ds) ds) ≡ true → b ≡ true → p d ≡ true
all_head p true d ds h e = (and_parts (p d) (list_all p ds) h).0
all_head p false d ds h e = cc

-- what all kept numbers of a range have, each of them has
all_at : (p q : ℕ → Bool) (n a d : ℕ) → list_all p (filter q (range_with_len a n)) ≡ true → a ≤ d → d < a + n → q d ≡ true → p d ≡ true
all_at p q zero a d h low high e = absurd (omega arith)
all_at p q (suc n) a d h low high e = elim (cases_eq d a) [
  | inl same ↦ ap p same ∙ all_head p (q a) a (filter q (range_with_len (a + 1) n)) h (ap q (sym same) ∙ e)
  | inr other ↦ all_at p q n (a + 1) d (all_tail p (q a) a (filter q (range_with_len (a + 1) n)) h) (omega arith) (omega arith) e
]

-- a centre of a set is below 16
pub below-has : (s : DcSet) (d : ℕ) → has s d ≡ true → d < 16
below-has s d e = ltb-true d 16 (and_parts _ _ e).0

-- each centre of a set that lies below n is below n
pub below-lies_below : (n : ℕ) (s : DcSet) (d : ℕ) → lies_below n s ≡ true → has s d ≡ true → d < n
unfolding centres_of centres_below
below-lies_below n s d h e =
    let small = below-has s d e in
    ltb-true d n (all_at (λ dc. nat_lt dc n) (has s) 16 0 d h (omega arith) (omega arith) e)

-- a name that is among others adds no new name to find
covered : (name added : List ℕ) (names : List (List ℕ)) (c : Bool) → same_list name added ≡ c → list_any (same_list added) names ≡ true → list_any (same_list name) names ≡ (c || list_any (same_list name) names)
covered name added names true is e = let same : name ≡ added = same_text name added (sym is) in ap (λ x. list_any (same_list x) names) same ∙ e
covered name added names false is e = refl

any_if : (name added : List ℕ) (names : List (List ℕ)) (b : Bool) → list_any (same_list added) names ≡ b → list_any (same_list name) (cond b names (added ∷ names)) ≡ (same_list name added || list_any (same_list name) names)
any_if name added names true e = covered name added names (same_list name added) refl e
any_if name added names false e = refl

-- a name is among the providers of centres where one of them has it
any-providers_of : (w : Lists) (a : ℕ) (ds : List ℕ) → list_any (same_list (centre_of w a).provider) (providers_of w ds) ≡ list_any (same_provider w a) ds
any-providers_of w a [] = refl
any-providers_of w a (d ∷ ds) =
    any_if (centre_of w a).provider (centre_of w d).provider (providers_of w ds) (list_any (same_list (centre_of w d).provider) (providers_of w ds)) refl
    ∙ ap (λ b. same_provider w a d || b) (any-providers_of w a ds)

length_if : (added : List ℕ) (names : List (List ℕ)) (b : Bool) → length (cond b names (added ∷ names)) ≡ cond b 0 1 + length names
length_if added names true = omega arith
length_if added names false = omega arith

-- one centre more: a provider more, unless a later one lies with it too
pub one_more : (w : Lists) (d : ℕ) (ds : List ℕ) → length (providers_of w (d ∷ ds)) ≡ cond (list_any (same_provider w d) ds) 0 1 + length (providers_of w ds)
one_more w d ds =
    length_if (centre_of w d).provider (providers_of w ds) (list_any (same_list (centre_of w d).provider) (providers_of w ds))
    ∙ ap (λ (b : Bool). cond b 0 1 + length (providers_of w ds)) (any-providers_of w d ds)

more_if : (w : Lists) (d : ℕ) (ds : List ℕ) (b : Bool) → length (providers_of w (cond b (d ∷ ds) ds)) ≡ cond b (cond (list_any (same_provider w d) ds) 0 1) 0 + length (providers_of w ds)
more_if w d ds true = one_more w d ds
more_if w d ds false = omega arith

pub providers_start : (w : Lists) (s : DcSet) → length (providers_of w (centres_of s)) ≡ length (providers_of w (centres_from s 0))
providers_start w s = ap (λ ds. length (providers_of w ds)) (centres_of_is s)

pub providers_end : (w : Lists) (s : DcSet) (d : ℕ) → 16 ≤ d → length (providers_of w (centres_from s d)) ≡ 0
providers_end w s d h = ap (λ ds. length (providers_of w ds)) (centres_from-end s d h)

pub providers_next : (w : Lists) (s : DcSet) (d : ℕ) → d < 16 → length (providers_of w (centres_from s d)) ≡ cond (has s d) (cond (list_any (same_provider w d) (centres_from s (d + 1))) 0 1) 0 + length (providers_of w (centres_from s (d + 1)))
providers_next w s d h = ap (λ ds. length (providers_of w ds)) (centres_from-next s d h) ∙ more_if w d (centres_from s (d + 1)) (has s d)

any_cases : (p : ℕ → Bool) (b : Bool) (d : ℕ) (ds : List ℕ) → list_any p (cond b (d ∷ ds) ds) ≡ (cond b (p d) false || list_any p ds)
any_cases p true d ds = refl
any_cases p false d ds = refl

-- whether a centre from `d` on passes a test
pub any_end : (p : ℕ → Bool) (s : DcSet) (d : ℕ) → 16 ≤ d → list_any p (centres_from s d) ≡ false
any_end p s d h = ap (list_any p) (centres_from-end s d h)

pub any_next : (p : ℕ → Bool) (s : DcSet) (d : ℕ) → d < 16 → list_any p (centres_from s d) ≡ (cond (has s d) (p d) false || list_any p (centres_from s (d + 1)))
any_next p s d h = ap (list_any p) (centres_from-next s d h) ∙ any_cases p (has s d) d (centres_from s (d + 1))

pub ruleset provider_counts = (providers_start, providers_end, providers_next, below-lies_below)

pub ruleset later_providers = (any_end, any_next, below-lies_below, below-has)

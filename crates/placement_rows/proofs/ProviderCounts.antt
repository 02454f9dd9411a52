-- How many providers some centres lie with, counted over the providers of the world.
use Rattle.std.proofs.Common.{◌≡◌, ℕ, zero, suc, ◌+◌, ◌<◌, inl, inr, Bool, true, false, cond, not, ◌||◌, ◌==◌, List, [], ◌∷◌, ◌++◌, length, refl, sym, ap, ◌∙◌, arith}
use Rattle.std.specs.List.{count_by, filter, range_with_len, list_any, AllByRecursion}
use Rattle.std.specs.Cmp.Lexicographic.{same_text}
use Rattle.std.proofs.lemmas.Bool.{cases_Bool, and_from, eq-eqb}
use Rattle.std.proofs.lemmas.List.Elements.{filter-append}
use Rattle.std.proofs.lemmas.List.Folds.{list_any_at, list_any-append}
use Rattle.std.proofs.lemmas.List.FromFn.{length-range_with_len, get_or-range_with_len}
use Rattle.std.proofs.lemmas.List.Sums.{sum_by-append}
use Rattle.workload.specs.World.{Lists, centre_count, centre_of}
use Rattle.slo_rules.specs.Rules.{same_list, same_provider, providers_of}
use Rattle.slo_rules.proofs.ProviderNames.{one_more}
use Rattle.placement_rows.specs.Centres.{centres}
use Rattle.placement_rows.specs.Providers.{is_first_of_provider, providers}
use Rattle.placement_rows.proofs.Sums.{sum_by-agree, sum_by-add, sum_by-none, range-append}

pub same_list-refl : (xs : List ℕ) → same_list xs xs ≡ true
same_list-refl [] = refl
same_list-refl (x ∷ xs) = and_from (x == x) (same_list xs xs) (eq-eqb x x refl) (same_list-refl xs)

-- centres of one provider have the same others beside them
pub same-any : (w : Lists) (a b : ℕ) (ds : List ℕ) → same_provider w a b ≡ true → list_any (same_provider w a) ds ≡ list_any (same_provider w b) ds
same-any w a b ds is = ap (λ name. list_any (λ d. same_list name (centre_of w d).provider) ds) (same_text (centre_of w a).provider (centre_of w b).provider (sym is))

pub same-sym : (w : Lists) (a b : ℕ) → same_provider w a b ≡ true → same_provider w b a ≡ true
same-sym w a b is =
    ap (λ name. same_list (centre_of w b).provider name) (same_text (centre_of w a).provider (centre_of w b).provider (sym is))
    ∙ same_list-refl (centre_of w b).provider

same-turn : (w : Lists) (a b : ℕ) (c e : Bool) → same_provider w a b ≡ c → same_provider w b a ≡ e → c ≡ e
same-turn w a b true true f g = refl
same-turn w a b false false f g = refl
same-turn w a b true false f g = let h = same-sym w a b f in cc
same-turn w a b false true f g = let h = same-sym w b a g in cc

one-first : (b : Bool) → cond b 1 0 + cond (not b) 1 0 ≡ cond (b || (true || false)) 1 0
one-first true = refl
one-first false = refl

other-first : (b c : Bool) → cond b 1 0 + cond c 0 0 ≡ cond (b || (false || false)) 1 0
other-first true true = refl
other-first true false = refl
other-first false true = refl
other-first false false = refl

count-cond : (p : ℕ → Bool) (b : Bool) (d : ℕ) → count_by p (cond b (d ∷ []) []) ≡ cond b (cond (p d) 1 0) 0
count-cond p true d = omega arith
count-cond p false d = refl

-- the first centres of providers up to one, and that one
firsts-next : (w : Lists) (d n : ℕ) (c : Bool) → same_provider w n d ≡ c
    → cond (list_any (same_provider w d) (range_with_len 0 n)) 1 0 + cond (is_first_of_provider w n) (cond (same_provider w n d) 1 0) 0 ≡ cond (list_any (same_provider w d) (range_with_len 0 n) || (same_provider w d n || false)) 1 0
firsts-next w d n true is =
    let b = list_any (same_provider w d) (range_with_len 0 n) in
    ap (λ t. cond b 1 0 + cond (is_first_of_provider w n) (cond t 1 0) 0) is
    ∙ ap (λ t. cond b 1 0 + cond (not t) 1 0) (same-any w n d (range_with_len 0 n) is)
    ∙ one-first b
    ∙ ap (λ t. cond (b || (t || false)) 1 0) (sym (same-sym w n d is))
firsts-next w d n false is =
    let b = list_any (same_provider w d) (range_with_len 0 n) in
    ap (λ t. cond b 1 0 + cond (is_first_of_provider w n) (cond t 1 0) 0) is
    ∙ other-first b (is_first_of_provider w n)
    ∙ ap (λ t. cond (b || (t || false)) 1 0) (same-turn w n d false (same_provider w d n) is refl)

-- of the providers of the first `n` centres one is the centre's where one of them lies with it
firsts : (w : Lists) (d n : ℕ) → count_by (λ e. same_provider w e d) (filter (is_first_of_provider w) (range_with_len 0 n)) ≡ cond (list_any (same_provider w d) (range_with_len 0 n)) 1 0
firsts w d zero = refl
firsts w d (suc n) =
    let p : ℕ → Bool = λ e. same_provider w e d in
    let range : range_with_len 0 (suc n) ≡ range_with_len 0 n ++ n ∷ [] =
    ap (λ k. range_with_len 0 k) (let e : suc n ≡ n + 1 = omega arith in e) ∙ range-append 0 n 1 ∙ ap (λ k. range_with_len 0 n ++ k ∷ []) (let e : 0 + n ≡ n = omega arith in e) in
    ap (λ ds. count_by p (filter (is_first_of_provider w) ds)) range
    ∙ ap (count_by p) (filter-append (is_first_of_provider w) (range_with_len 0 n) (n ∷ []))
    ∙ sum_by-append (λ e. cond (p e) 1 0) (filter (is_first_of_provider w) (range_with_len 0 n)) (cond (is_first_of_provider w n) (n ∷ []) [])
    ∙ ap (λ k. count_by p (filter (is_first_of_provider w) (range_with_len 0 n)) + k) (count-cond p (is_first_of_provider w n) n)
    ∙ ap (λ k. k + cond (is_first_of_provider w n) (cond (same_provider w n d) 1 0) 0) (firsts w d n)
    ∙ firsts-next w d n (same_provider w n d) refl
    ∙ ap (λ (b : Bool). cond b 1 0) (sym (list_any-append (same_provider w d) (range_with_len 0 n) (n ∷ [])))
    ∙ ap (λ ds. cond (list_any (same_provider w d) ds) 1 0) (sym range)

-- a centre of the world lies with one of the providers
one-provider : (w : Lists) (d : ℕ) → d < centre_count w → count_by (λ e. same_provider w e d) (providers w) ≡ 1
one-provider w d low =
    let at = get_or-range_with_len 0 (centre_count w) d 0 low in
    let here : 0 + d ≡ d = omega arith in
    firsts w d (centre_count w)
    ∙ ap (λ (b : Bool). cond b 1 0) (list_any_at (same_provider w d) (centres w) d 0 (omega (arith, length-range_with_len 0 (centre_count w), low))
    (ap (same_provider w d) (at ∙ here) ∙ same_list-refl (centre_of w d).provider))

covered : (w : Lists) (d : ℕ) (ds : List ℕ) (e : ℕ) (c : Bool) → list_any (same_provider w d) ds ≡ true → same_provider w e d ≡ c
    → ◌≡◌ {A = ℕ} (cond (c || list_any (same_provider w e) ds) 1 0) (cond (list_any (same_provider w e) ds) 1 0)
covered w d ds e true among is = ap (λ (b : Bool). cond b 1 0) (sym (same-any w e d ds is ∙ among))
covered w d ds e false among is = refl

apart : (w : Lists) (d : ℕ) (ds : List ℕ) (e : ℕ) (c : Bool) → list_any (same_provider w d) ds ≡ false → same_provider w e d ≡ c
    → cond (c || list_any (same_provider w e) ds) 1 0 ≡ cond c 1 0 + cond (list_any (same_provider w e) ds) 1 0
apart w d ds e true among is = ap (λ (b : Bool). 1 + cond b 1 0) (sym (same-any w e d ds is ∙ among))
apart w d ds e false among is = omega arith

-- the providers of some centres of the world are those of the world's that have one of them
pub providers-count : (w : Lists) (ds : List ℕ) → AllByRecursion (λ d. d < centre_count w) ds → length (providers_of w ds) ≡ count_by (λ e. list_any (same_provider w e) ds) (providers w)
providers-count w [] low = sym (sum_by-none (providers w))
providers-count w (d ∷ ds) low =
    let rest = providers-count w ds low.1 in
    one_more w d ds
    ∙ elim (cases_Bool (list_any (same_provider w d) ds)) [
      | inl among ↦
          ap (λ (b : Bool). cond b 0 1 + length (providers_of w ds)) among
          ∙ (let e : 0 + length (providers_of w ds) ≡ length (providers_of w ds) = omega arith in e)
          ∙ rest
          ∙ sym (sum_by-agree (λ e. cond (same_provider w e d || list_any (same_provider w e) ds) 1 0) (λ e. cond (list_any (same_provider w e) ds) 1 0) (λ e. covered w d ds e (same_provider w e d) among refl) (providers w))
      | inr new ↦
          ap (λ (b : Bool). cond b 0 1 + length (providers_of w ds)) new
          ∙ ap (λ k. 1 + k) rest
          ∙ ap (λ k. k + count_by (λ e. list_any (same_provider w e) ds) (providers w)) (sym (one-provider w d low.0))
          ∙ sym (sum_by-add (λ e. cond (same_provider w e d) 1 0) (λ e. cond (list_any (same_provider w e) ds) 1 0) (providers w))
          ∙ sym (sum_by-agree (λ e. cond (same_provider w e d || list_any (same_provider w e) ds) 1 0) (λ e. cond (same_provider w e d) 1 0 + cond (list_any (same_provider w e) ds) 1 0) (λ e. apart w d ds e (same_provider w e d) new refl) (providers w))
    ]

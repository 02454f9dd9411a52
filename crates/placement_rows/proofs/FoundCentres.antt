-- What the first centres say, once they are found: which centres are first, and which are of one
-- provider.
use Rattle.std.proofs.Common.{◌≡◌, ℕ, zero, ◌+◌, ◌<◌, inl, inr, Bool, true, false, cond, not, ◌==◌, ◌||◌, List, [], ◌∷◌, length, get_or, map, nat_lt, refl, sym, ap, subst, ◌∙◌, arith}
use Rattle.std.specs.List.{All, AllByRecursion, filter, list_all, list_any, range_with_len, enumerate_from}
use Rattle.std.specs.Cmp.Lexicographic.{same_text}
use Rattle.std.proofs.lemmas.Bool.{cases_Bool, cases_eq, cases_lt, eq-eqb, ne_eqb, and_parts, ltb-true}
use Rattle.std.proofs.lemmas.List.Elements.{recursion_from_All}
use Rattle.workload.specs.World.{Lists, centre_count, centre_of}
use Rattle.slo_rules.specs.Rules.{lies_below, same_list, same_provider}
use Rattle.span_base.specs.declared.dc_set.DcSet.{DcSet}
use Rattle.span_base.specs.DcSet.{centres_of}
use Rattle.placement_rows.specs.declared.first_centres.FirstCentres.{FirstCentres}
use Rattle.placement_rows.specs.Centres.{centres}
use Rattle.placement_rows.specs.Rows.{backed}
use Rattle.placement_rows.specs.Providers.{is_first_of_provider, providers, numbered_providers, asks_providers, keeps_replica}
use Rattle.placement_rows.specs.FirstCentres.{IsFirstOf, AreFound, is_first, is_same, kept_by}
use Rattle.placement_rows.proofs.Sums.{filter-range_agree}
use Rattle.placement_rows.proofs.Each.{each-kept}
use Rattle.placement_rows.proofs.ProviderCounts.{same_list-refl, same-sym}
use Rattle.placement_rows.proofs.ProviderLoops.{some_hit}

-- two centres of one provider are of one with the same others
same-other : (w : Lists) (a b e : ℕ) → same_provider w a b ≡ true → same_provider w a e ≡ same_provider w b e
same-other w a b e is = ap (λ name. same_list name (centre_of w e).provider) (same_text (centre_of w a).provider (centre_of w b).provider (sym is))

-- a provider's first centre is no later than another of its centres
no-later : (w : Lists) (a b e f : ℕ) → IsFirstOf w a e → IsFirstOf w b f → same_provider w a b ≡ true → f < e → ⊥
no-later w a b e f first other is before =
    let hit = some_hit (same_provider w a) f e before (same-other w a b f is ∙ other.same) in cc (hit, first.none_before)

one-first : (w : Lists) (a b e f : ℕ) → IsFirstOf w a e → IsFirstOf w b f → same_provider w a b ≡ true → e ≡ f
one-first w a b e f first other is = elim (cases_lt e f) [
  | inl before ↦ absurd (no-later w b a f e other first (same-sym w a b is) before)
  | inr after ↦ elim (cases_lt f e) [
    | inl before ↦ absurd (no-later w a b e f first other is before)
    | inr same ↦ omega (arith, after, same)
  ]
]

-- two centres are of one provider where its first centres are one
pub same-first : (w : Lists) (a b e f : ℕ) → IsFirstOf w a e → IsFirstOf w b f → (e == f) ≡ same_provider w a b
same-first w a b e f first other = elim (cases_Bool (same_provider w a b)) [
  | inl is ↦ eq-eqb e f (one-first w a b e f first other is) ∙ sym is
  | inr apart ↦
      ne_eqb e f (λ same.
      let other_way : same_provider w e b ≡ true = same-sym w b e (subst (λ k. same_provider w b k ≡ true) (sym same) other.same) in
      let joined : same_provider w a b ≡ true = same-other w a e b first.same ∙ other_way in cc (joined, apart))
      ∙ sym apart
]

-- a centre is the first of its provider where it is its provider's first centre
pub first-first : (w : Lists) (d e : ℕ) → IsFirstOf w d e → (e == d) ≡ is_first_of_provider w d
first-first w d e first = elim (cases_eq e d) [
  | inl same ↦ eq-eqb e d same ∙ sym (ap not (subst (λ k. list_any (same_provider w d) (range_with_len 0 k) ≡ false) same first.none_before))
  | inr other ↦
      ne_eqb e d other
      ∙ elim (cases_lt e d) [
        | inl before ↦ sym (ap not (some_hit (same_provider w d) e d before first.same))
        | inr after ↦ let hit = some_hit (same_provider w d) d e (omega (arith, after, other)) (same_list-refl (centre_of w d).provider) in cc (hit, first.none_before)
      ]
]

-- two functions that agree where a fact holds of each element give the same of each
map-where : {X Y : Type 0} (f g : X → Y) (P : X → Type 0) → ((x : X) → P x → f x ≡ g x) → (xs : List X) → AllByRecursion P xs → map f xs ≡ map g xs
map-where f g P same [] all = refl
map-where f g P same (x ∷ xs) all = ap (λ y. y ∷ map f xs) (same x all.0) ∙ ap (λ ys. g x ∷ ys) (map-where f g P same xs all.1)

filter-where : {X : Type 0} (p q : X → Bool) (P : X → Type 0) → ((x : X) → P x → p x ≡ q x) → (xs : List X) → AllByRecursion P xs → filter p xs ≡ filter q xs
filter-where p q P same [] all = refl
filter-where p q P same (x ∷ xs) all =
    ap (λ b. cond b (x ∷ filter p xs) (filter p xs)) (same x all.0) ∙ ap (λ ys. cond (q x) (x ∷ ys) ys) (filter-where p q P same xs all.1)

any-where : {X : Type 0} (p q : X → Bool) (P : X → Type 0) → ((x : X) → P x → p x ≡ q x) → (xs : List X) → AllByRecursion P xs → list_any p xs ≡ list_any q xs
any-where p q P same [] all = refl
any-where p q P same (x ∷ xs) all = ap (λ b. b || list_any p xs) (same x all.0) ∙ ap (λ b. q x || b) (any-where p q P same xs all.1)

each-second : (P : ℕ → Type 0) (a : ℕ) (xs : List ℕ) → AllByRecursion P xs → AllByRecursion (λ (ze : ℕ × ℕ). P ze.1) (enumerate_from a xs)
each-second P a [] all = tt
each-second P a (x ∷ xs) all = (all.0, each-second P (a + 1) xs all.1)

each-below : (n : ℕ) (ds : List ℕ) → list_all (λ d. nat_lt d n) ds ≡ true → AllByRecursion (λ d. d < n) ds
each-below n [] all = tt
each-below n (d ∷ ds) all = let parts = and_parts (nat_lt d n) (list_all (λ d. nat_lt d n) ds) all in (ltb-true d n parts.0, each-below n ds parts.1)

module _ (w : Lists) (set : ℕ) (c : FirstCentres) (found : AreFound w set c) (asks : asks_providers w set ≡ true) where
  is-same : (a b : ℕ) → a < centre_count w → b < centre_count w → is_same c a b ≡ same_provider w a b
  is-same a b low low' = same-first w a b (get_or c.firsts a 0) (get_or c.firsts b 0) (found.each asks a low) (found.each asks b low')

  -- the centres that are first are the world's providers
  pub firsts-are : filter (is_first c) (centres w) ≡ providers w
  firsts-are = filter-range_agree (is_first c) (is_first_of_provider w) 0 (centre_count w) (λ d from to. first-first w d (get_or c.firsts d 0) (found.each asks d (omega arith)))

  providers-below : AllByRecursion (λ d. d < centre_count w) (providers w)
  providers-below = each-kept (λ d. d < centre_count w) (is_first_of_provider w) 0 (centre_count w) (λ d from to is. omega arith)

  -- how many providers there are
  pub count-is : length (filter (is_first c) (centres w)) ≡ length (providers w)
  count-is = ap length firsts-are

  pub costs-are : map (λ (e : ℕ). zero) (filter (is_first c) (centres w)) ≡ map (λ (e : ℕ). zero) (providers w)
  costs-are = ap (map (λ (e : ℕ). zero)) firsts-are

  -- which of them have one of these centres
  pub bits-are : (s : DcSet) → lies_below (centre_count w) s ≡ true → map (λ e. list_any (is_same c e) (centres_of s)) (filter (is_first c) (centres w)) ≡ map (λ e. list_any (same_provider w e) (centres_of s)) (providers w)
  bits-are s below =
      ap (map (λ e. list_any (is_same c e) (centres_of s))) firsts-are
      ∙ map-where (λ e. list_any (is_same c e) (centres_of s)) (λ e. list_any (same_provider w e) (centres_of s)) (λ e. e < centre_count w)
      (λ e low. any-where (is_same c e) (same_provider w e) (λ d. d < centre_count w) (λ d low'. is-same e d low low') (centres_of s) (each-below (centre_count w) (centres_of s) below)) (providers w) providers-below

  -- and their rows
  pub rows-are : (first : ℕ) (keeping : List (ℕ × ℕ)) → All (λ k. k.1 < centre_count w) keeping → map (kept_by c keeping) (enumerate_from first (filter (is_first c) (centres w))) ≡ map (keeps_replica w keeping) (numbered_providers w first)
  rows-are first keeping low =
      ap (λ ds. map (kept_by c keeping) (enumerate_from first ds)) firsts-are
      ∙ map-where (kept_by c keeping) (keeps_replica w keeping) (λ ze. ze.1 < centre_count w) (λ (z, e) in'. row z e in') (numbered_providers w first) (each-second (λ d. d < centre_count w) first (providers w) providers-below)
    where
      row : (z e : ℕ) → e < centre_count w → kept_by c keeping (z, e) ≡ keeps_replica w keeping (z, e)
      row z e in' =
          ap (λ ks. backed (λ k. k.0) ks z)
          (filter-where (λ k. is_same c e k.1) (λ k. same_provider w e k.1) (λ k. k.1 < centre_count w) (λ k low'. is-same e k.1 in' low') keeping (recursion_from_All (λ k. k.1 < centre_count w) keeping low))

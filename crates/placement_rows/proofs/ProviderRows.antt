-- What it means that an assignment meets the rows of providers.
use Rattle.std.proofs.Common.{◌≡◌, ℕ, zero, suc, ◌+◌, ◌<◌, ◌≤◌, inl, inr, Bool, true, false, cond, ◌&&◌, ◌||◌, nat_lt, List, [], ◌∷◌, ◌++◌, length, get_or, map, refl, sym, ap, ◌∙◌, arith}
use Rattle.std.specs.List.{count_by, filter, range_with_len, list_any, enumerate_from, AllByRecursion}
use Rattle.std.proofs.lemmas.Bool.{cases_lt, lt-ltb}
use Rattle.std.proofs.lemmas.List.Sums.{sum_by-cons}
use Rattle.workload.specs.World.{Lists, centre_count, rule_of}
use Rattle.zero_one.specs.Rows.{Meets, bit_of}
use Rattle.slo_rules.specs.Rules.{same_provider, providers_of}
use Rattle.placement_rows.specs.Centres.{centres}
use Rattle.placement_rows.specs.Providers.{providers, numbered_providers, asks_providers, keeps_replica, enough_providers, provider_rows}
use Rattle.placement_rows.proofs.Each.{each-append, each-split, each-map, each-map_back, each-numbered, each-numbered_at}
use Rattle.placement_rows.proofs.ProviderCounts.{providers-count}
use Rattle.placement_rows.proofs.Values.{meets-plus, meets-plus-back, meets-backed, meets-backed-back}

-- by an assignment these variables keep replicas just in these centres
abbrev pub Keeps : List Bool → List (ℕ × ℕ) → List ℕ → Type 0
Keeps x keeping ds = (p : ℕ → Bool) → list_any (λ (k : ℕ × ℕ). bit_of x k.0 && p k.1) keeping ≡ list_any p ds

any_counts : {X : Type 0} (b p : X → Bool) (k : X) (ks : List X) (c e : Bool) → b k ≡ c → p k ≡ e → (list_any (λ k. b k && p k) ks ≡ true → 1 ≤ count_by b (filter p ks))
    → ((c && e) || list_any (λ k. b k && p k) ks) ≡ true → 1 ≤ count_by b (cond e (k ∷ filter p ks) (filter p ks))
any_counts b p k ks true true f g rest h =
    let one : ◌≡◌ {A = ℕ} (cond (b k) 1 0) 1 = ap (λ t. cond t 1 0) f in
    omega (arith, one, sum_by-cons (λ k. cond (b k) 1 0) k (filter p ks))
any_counts b p k ks false true f g rest h = let more = rest h in omega (arith, more, sum_by-cons (λ k. cond (b k) 1 0) k (filter p ks))
any_counts b p k ks true false f g rest h = rest h
any_counts b p k ks false false f g rest h = rest h

-- where an item passes two tests, one of those that pass the second is counted by the first
pub any-count : {X : Type 0} (b p : X → Bool) (ks : List X) → list_any (λ k. b k && p k) ks ≡ true → 1 ≤ count_by b (filter p ks)
any-count b p [] h = cc
any-count b p (k ∷ ks) h = any_counts b p k ks (b k) (p k) refl refl (any-count b p ks) h

counts_any : {X : Type 0} (b p : X → Bool) (k : X) (ks : List X) (c e : Bool) → b k ≡ c → p k ≡ e → (1 ≤ count_by b (filter p ks) → list_any (λ k. b k && p k) ks ≡ true)
    → 1 ≤ count_by b (cond e (k ∷ filter p ks) (filter p ks)) → ((c && e) || list_any (λ k. b k && p k) ks) ≡ true
counts_any b p k ks true true f g rest h = refl
counts_any b p k ks false true f g rest h =
    let none : ◌≡◌ {A = ℕ} (cond (b k) 1 0) 0 = ap (λ t. cond t 1 0) f in
    rest (omega (arith, h, none, sum_by-cons (λ k. cond (b k) 1 0) k (filter p ks)))
counts_any b p k ks true false f g rest h = rest h
counts_any b p k ks false false f g rest h = rest h

pub count-any : {X : Type 0} (b p : X → Bool) (ks : List X) → 1 ≤ count_by b (filter p ks) → list_any (λ k. b k && p k) ks ≡ true
count-any b p [] h = absurd (omega arith)
count-any b p (k ∷ ks) h = counts_any b p k ks (b k) (p k) refl refl (count-any b p ks) h

count-numbered : {X : Type 0} (b : ℕ → Bool) (q : X → Bool) (d : X) (a : ℕ) (xs : List X) → ((j : ℕ) → j < length xs → b (a + j) ≡ q (get_or xs j d)) → count_by (λ ax. b ax.0) (enumerate_from a xs) ≡ count_by q xs
count-numbered b q d a [] same = refl
count-numbered {X} b q d a (x ∷ xs) same =
    let here : ◌≡◌ {A = ℕ} (cond (b a) 1 0) (cond (q x) 1 0) = ap (λ t. cond t 1 0) (ap b (let e : a ≡ a + 0 = omega arith in e) ∙ same 0 (omega arith)) in
    let rest = count-numbered b q d (a + 1) xs (λ j h. ap b (let e : (a + 1) + j ≡ a + suc j = omega arith in e) ∙ same (suc j) (omega arith)) in
    omega (arith, here, rest, sum_by-cons (λ (ax : ℕ × X). cond (b ax.0) 1 0) (a, x) (enumerate_from (a + 1) xs), sum_by-cons (λ x. cond (q x) 1 0) x xs)

fewer : (c e : Bool) → (c ≡ true → e ≡ true) → (cond c 1 0) ≤ (cond e 1 0)
fewer true true h = omega arith
fewer true false h = let e = h refl in cc
fewer false true h = omega arith
fewer false false h = omega arith

count-numbered-le : {X : Type 0} (b : ℕ → Bool) (q : X → Bool) (d : X) (a : ℕ) (xs : List X) → ((j : ℕ) → j < length xs → b (a + j) ≡ true → q (get_or xs j d) ≡ true) → count_by (λ ax. b ax.0) (enumerate_from a xs) ≤ count_by q xs
count-numbered-le b q d a [] same = omega arith
count-numbered-le {X} b q d a (x ∷ xs) same =
    let here = fewer (b a) (q x) (λ is. same 0 (omega arith) (ap b (let e : a + 0 ≡ a = omega arith in e) ∙ is)) in
    let rest = count-numbered-le b q d (a + 1) xs (λ j h is. same (suc j) (omega arith) (ap b (let e : a + suc j ≡ (a + 1) + j = omega arith in e) ∙ is)) in
    omega (arith, here, rest, sum_by-cons (λ (ax : ℕ × X). cond (b ax.0) 1 0) (a, x) (enumerate_from (a + 1) xs), sum_by-cons (λ x. cond (q x) 1 0) x xs)

-- a provider whose variable is 1 has one of these centres
has_one : Lists → List Bool → List ℕ → ℕ × ℕ → Type 0
has_one w x ds ze = bit_of x ze.0 ≡ true → list_any (same_provider w ze.1) ds ≡ true

module _ (w : Lists) (set : ℕ) (x : List Bool) (first : ℕ) (keeping : List (ℕ × ℕ)) (ds : List ℕ) (keeps : Keeps x keeping ds) (low : AllByRecursion (λ d. d < centre_count w) ds) where
  row_from : (ze : ℕ × ℕ) → has_one w x ds ze → Meets x (keeps_replica w keeping ze)
  unfolding has_one
  row_from (z, e) h = meets-backed x (λ k. k.0) (filter (λ k. same_provider w e k.1) keeping) z (λ is. any-count (λ k. bit_of x k.0) (λ k. same_provider w e k.1) keeping (keeps (same_provider w e) ∙ h is))

  row_back : (ze : ℕ × ℕ) → Meets x (keeps_replica w keeping ze) → has_one w x ds ze
  unfolding has_one
  row_back (z, e) met is = sym (keeps (same_provider w e)) ∙ count-any (λ k. bit_of x k.0) (λ k. same_provider w e k.1) keeping (meets-backed-back x (λ k. k.0) (filter (λ k. same_provider w e k.1) keeping) z met is)

  -- the rows are met where the bits tell which providers keep a replica, and these are enough
  pub provider-rows-from : ((j : ℕ) → j < length (providers w) → bit_of x (first + j) ≡ list_any (same_provider w (get_or (providers w) j 0)) ds) → (rule_of w set).providers ≤ length (providers_of w ds)
      → (asks : Bool) → AllByRecursion (Meets x) (cond asks (map (keeps_replica w keeping) (numbered_providers w first) ++ enough_providers w set first ∷ []) [])
  unfolding has_one
  provider-rows-from bits many false = tt
  provider-rows-from bits many true =
      let each = each-numbered (has_one w x ds) 0 first (providers w) (λ j in' is. sym (bits j in') ∙ is) in
      let same = count-numbered (bit_of x) (λ e. list_any (same_provider w e) ds) 0 first (providers w) bits in
      each-append (Meets x) (map (keeps_replica w keeping) (numbered_providers w first)) (enough_providers w set first ∷ [])
      (each-map (Meets x) (has_one w x ds) (keeps_replica w keeping) row_from (numbered_providers w first) each)
      (meets-plus x (λ ze. ze.0) (numbered_providers w first) (rule_of w set).providers (omega (arith, many, providers-count w ds low, same)), tt)

  -- where the rows are met, the replicas lie with enough providers
  pub provider-rows-back : 1 ≤ length (providers_of w ds) → (asks : Bool) → nat_lt 1 (rule_of w set).providers ≡ asks
      → AllByRecursion (Meets x) (cond asks (map (keeps_replica w keeping) (numbered_providers w first) ++ enough_providers w set first ∷ []) []) → (rule_of w set).providers ≤ length (providers_of w ds)
  unfolding has_one
  provider-rows-back some false is met = elim (cases_lt 1 (rule_of w set).providers) [
    | inl many ↦ let e = lt-ltb 1 (rule_of w set).providers many in cc
    | inr few ↦ omega (arith, few, some)
  ]
  provider-rows-back some true is met =
      let parts = each-split (Meets x) (map (keeps_replica w keeping) (numbered_providers w first)) (enough_providers w set first ∷ []) met in
      let each = each-map_back (Meets x) (has_one w x ds) (keeps_replica w keeping) row_back (numbered_providers w first) parts.0 in
      let most = count-numbered-le (bit_of x) (λ e. list_any (same_provider w e) ds) 0 first (providers w) (λ j in' is. each-numbered_at (has_one w x ds) 0 first (providers w) each j in' is) in
      let many = meets-plus-back x (λ ze. ze.0) (numbered_providers w first) (rule_of w set).providers parts.1.0 in
      omega (arith, many, most, providers-count w ds low)

-- where one provider is asked there are no rows
pub no-rows : (w : Lists) (set : ℕ) (first : ℕ) (keeping : List (ℕ × ℕ)) → asks_providers w set ≡ false → provider_rows w set first keeping ≡ []
no-rows w set first keeping none = ap (λ b. cond b (map (keeps_replica w keeping) (numbered_providers w first) ++ enough_providers w set first ∷ []) []) none

-- the variable of each centre keeps a replica there
any-centres : (x : List Bool) (q p : ℕ → Bool) (s n : ℕ) → ((d : ℕ) → s ≤ d → d < s + n → bit_of x d ≡ q d) → list_any (λ (k : ℕ × ℕ). bit_of x k.0 && p k.1) (map (λ (d : ℕ). (d, d)) (range_with_len s n)) ≡ list_any p (filter q (range_with_len s n))
any-centres x q p s zero same = refl
any-centres x q p s (suc n) same =
    ap (λ b. (b && p s) || list_any (λ (k : ℕ × ℕ). bit_of x k.0 && p k.1) (map (λ (d : ℕ). (d, d)) (range_with_len (s + 1) n))) (same s (omega arith) (omega arith))
    ∙ ap (λ b. (q s && p s) || b) (any-centres x q p (s + 1) n (λ d from to. same d (omega arith) (omega arith)))
    ∙ joined (q s)
  where
    joined : (b : Bool) → ((b && p s) || list_any p (filter q (range_with_len (s + 1) n))) ≡ list_any p (cond b (s ∷ filter q (range_with_len (s + 1) n)) (filter q (range_with_len (s + 1) n)))
    joined true = refl
    joined false = refl

pub centres-keep : (w : Lists) (x : List Bool) (q : ℕ → Bool) → ((d : ℕ) → d < centre_count w → bit_of x d ≡ q d) → Keeps x (map (λ (d : ℕ). (d, d)) (centres w)) (filter q (centres w))
centres-keep w x q same p = any-centres x q p 0 (centre_count w) (λ d from to. same d (omega arith))

-- The hops of an allowed policy: one for each member and replica, so that a sum over hops is a sum
-- over the centres from which and to which they go.
use Rattle.std.proofs.Common.{◌≡◌, ℕ, zero, suc, ◌+◌, ◌*◌, ◌<◌, ◌≤◌, inl, inr, Bool, true, false, cond, ◌&&◌, ◌||◌, ◌==◌, List, [], ◌∷◌, length, get_or, map, refl, sym, ap, ◌∙◌, arith}
use Rattle.std.specs.Prelude.{◌≢◌}
use Rattle.std.specs.List.{sum_by, count_by, filter, range_with_len, AllPairs, AllByRecursion}
use Rattle.std.proofs.lemmas.Bool.{cases_Bool, eqb-true}
use Rattle.std.proofs.lemmas.List.Sums.{sum_by-cons, sum_by-append}
use Rattle.span_base.specs.declared.policy.Hop.{Hop}
use Rattle.workload.specs.declared.rules.Demand.{Demand}
use Rattle.slo_rules.specs.Rules.{hops_due, centres_asking, is_direct_for}
use Rattle.placement_relay.specs.Placed.{has_hop}
use Rattle.placement_rows.proofs.Growing.{sum_by-le_each, sum_by-where, sum_by-map, any-sum}
use Rattle.placement_rows.proofs.Sums.{sum_by-agree, sum_by-swap, sum_by-one}
use Rattle.placement_relay.proofs.Allowed.{ends_of}

-- a hop is a member's to a centre
abbrev pub is_to : ℕ → ℕ → Hop → Bool
is_to m d hop = hop.member.0 == m && hop.child.0 == d

count-line : (m d a : ℕ) (rs : List ℕ) (b : Bool) → (a == m) ≡ b → count_by (λ (e : ℕ × ℕ). e.0 == m && e.1 == d) (map (λ dc. (a, dc)) rs) ≡ cond b (count_by (λ c. c == d) rs) 0
count-line m d a [] true e = refl
count-line m d a [] false e = refl
count-line m d a (r ∷ rs) true e =
    let t : ℕ × ℕ → ℕ = λ e. cond (e.0 == m && e.1 == d) 1 0 in
    let here : t (a, r) ≡ cond (r == d) 1 0 = ap (λ b. cond (b && r == d) 1 0) e in
    omega (arith, here, sum_by-cons t (a, r) (map (λ dc. (a, dc)) rs), sum_by-cons (λ c. cond (c == d) 1 0) r rs, count-line m d a rs true e)
count-line m d a (r ∷ rs) false e =
    let t : ℕ × ℕ → ℕ = λ e. cond (e.0 == m && e.1 == d) 1 0 in
    let here : t (a, r) ≡ 0 = ap (λ b. cond (b && r == d) 1 0) e in
    omega (arith, here, sum_by-cons t (a, r) (map (λ dc. (a, dc)) rs), count-line m d a rs false e)

times-cond : (b : Bool) (c k : ℕ) → cond b c 0 + k * c ≡ (cond b 1 0 + k) * c
times-cond true c k = omega arith
times-cond false c k = omega arith

-- how often a pair is due
count-due : (m d : ℕ) (ms rs : List ℕ) → count_by (λ (e : ℕ × ℕ). e.0 == m && e.1 == d) (hops_due ms rs) ≡ count_by (λ a. a == m) ms * count_by (λ c. c == d) rs
count-due m d [] rs = omega arith
count-due m d (a ∷ ms) rs =
    let t : ℕ × ℕ → ℕ = λ e. cond (e.0 == m && e.1 == d) 1 0 in
    let c = count_by (λ c. c == d) rs in
    omega (
      arith,
      sum_by-append t (map (λ dc. (a, dc)) rs) (hops_due ms rs),
      count-line m d a rs (a == m) refl,
      count-due m d ms rs,
      times-cond (a == m) c (count_by (λ a. a == m) ms),
      ap (λ k. k * c) (sum_by-cons (λ a. cond (a == m) 1 0) a ms),
    )

-- a member stands once among members in different centres
nobody-there : (m : ℕ) (xs : List Demand) → ((k : ℕ) → k < length xs → (get_or xs k (record { dc = record { 0 = 0 }; gets = 0; puts = 0 })).dc.0 ≡ m → ⊥) → count_by (λ a. a == m) (centres_asking xs) ≡ 0
nobody-there m [] none = refl
nobody-there m (x ∷ xs) none =
    let rest = nobody-there m xs (λ k h. none (suc k) (omega arith)) in
    elim (cases_Bool (x.dc.0 == m)) [
      | inl is ↦ absurd (none 0 (omega arith) (eqb-true x.dc.0 m is))
      | inr is ↦
          let zero_one : ◌≡◌ {A = ℕ} (cond (x.dc.0 == m) 1 0) 0 = ap (λ b. cond b 1 0) is in
          omega (arith, zero_one, rest, sum_by-cons (λ a. cond (a == m) 1 0) x.dc.0 (centres_asking xs))
    ]

pub members-once : (m : ℕ) (xs : List Demand) → AllPairs (λ a b. a.dc.0 ≢ b.dc.0) xs → count_by (λ a. a == m) (centres_asking xs) ≤ 1
members-once m [] apart = omega arith
members-once m (x ∷ xs) apart =
    let rest = members-once m xs (λ i j d lt in'. apart (suc i) (suc j) d (omega arith) (omega arith)) in
    elim (cases_Bool (x.dc.0 == m)) [
      | inl is ↦
          let one : ◌≡◌ {A = ℕ} (cond (x.dc.0 == m) 1 0) 1 = ap (λ b. cond b 1 0) is in
          let none = nobody-there m xs (λ k h same. apart 0 (suc k) (record { dc = record { 0 = 0 }; gets = 0; puts = 0 }) (omega arith) (omega arith) (eqb-true x.dc.0 m is ∙ sym same)) in
          omega (arith, one, none, sum_by-cons (λ a. cond (a == m) 1 0) x.dc.0 (centres_asking xs))
      | inr is ↦
          let zero_one : ◌≡◌ {A = ℕ} (cond (x.dc.0 == m) 1 0) 0 = ap (λ b. cond b 1 0) is in
          omega (arith, zero_one, rest, sum_by-cons (λ a. cond (a == m) 1 0) x.dc.0 (centres_asking xs))
    ]

-- a number stands once among those of a range
count-past : (p : ℕ → Bool) (d s n : ℕ) (b : Bool) → count_by (λ c. c == d) (cond b (s ∷ filter p (range_with_len (s + 1) n)) (filter p (range_with_len (s + 1) n))) ≤ cond (s == d) 1 0 + count_by (λ c. c == d) (filter p (range_with_len (s + 1) n))
count-past p d s n true = omega (arith, sum_by-cons (λ c. cond (c == d) 1 0) s (filter p (range_with_len (s + 1) n)))
count-past p d s n false = omega arith

none-past : (p : ℕ → Bool) (d s n : ℕ) → d < s → count_by (λ c. c == d) (filter p (range_with_len s n)) ≡ 0
none-past p d s zero low = refl
none-past p d s (suc n) low = elim (cases_Bool (s == d)) [
  | inl is ↦ let same = eqb-true s d is in absurd (omega arith)
  | inr is ↦
      let zero_one : ◌≡◌ {A = ℕ} (cond (s == d) 1 0) 0 = ap (λ b. cond b 1 0) is in
      omega (arith, zero_one, count-past p d s n (p s), none-past p d (s + 1) n (omega arith))
]

pub once : (p : ℕ → Bool) (d s n : ℕ) → count_by (λ c. c == d) (filter p (range_with_len s n)) ≤ 1
once p d s zero = omega arith
once p d s (suc n) = elim (cases_Bool (s == d)) [
  | inl is ↦
      let same = eqb-true s d is in
      let one : ◌≡◌ {A = ℕ} (cond (s == d) 1 0) 1 = ap (λ b. cond b 1 0) is in
      omega (arith, one, count-past p d s n (p s), none-past p d (s + 1) n (omega arith))
  | inr is ↦
      let zero_one : ◌≡◌ {A = ℕ} (cond (s == d) 1 0) 0 = ap (λ b. cond b 1 0) is in
      omega (arith, zero_one, count-past p d s n (p s), once p d (s + 1) n)
]

both-le : (b c : Bool) → (cond (b && c) 1 0) ≤ (cond b 1 0)
both-le true true = omega arith
both-le true false = omega arith
both-le false c = omega arith

times-le : (a b : ℕ) → a ≤ 1 → b ≤ 1 → a * b ≤ 1
times-le zero b low low' = omega arith
times-le (suc zero) b low low' = omega arith
times-le (suc (suc a)) b low low' = absurd (omega arith)

-- one sum for two where one number alone gives something
pick : (a c e : Bool) (v : ℕ) → cond ((a && c) && e) v 0 ≡ cond c (cond a (cond e v 0) 0) 0
pick true true e v = refl
pick true false e v = refl
pick false true e v = refl
pick false false e v = refl

turn : (a e : Bool) (v : ℕ) → cond a (cond e v 0) 0 ≡ cond e (cond a v 0) 0
turn true true v = refl
turn true false v = refl
turn false true v = refl
turn false false v = refl

split : (a e : Bool) → ◌≡◌ {A = ℕ} (cond (a && e) 1 0) (cond e (cond a 1 0) 0)
split true true = refl
split true false = refl
split false true = refl
split false false = refl

module _ (hops : List Hop) (ms rs : List ℕ) (due : map ends_of hops ≡ hops_due ms rs) where
  pub count-to : (m d : ℕ) → count_by (is_to m d) hops ≡ count_by (λ a. a == m) ms * count_by (λ c. c == d) rs
  count-to m d =
      let t : ℕ × ℕ → ℕ = λ e. cond (e.0 == m && e.1 == d) 1 0 in
      sym (sum_by-map t ends_of hops) ∙ ap (sum_by t) due ∙ count-due m d ms rs

  module _ (alone : (m : ℕ) → count_by (λ a. a == m) ms ≤ 1) (apart : (d : ℕ) → count_by (λ c. c == d) rs ≤ 1) (n : ℕ) (low : AllByRecursion (λ (hop : Hop). (hop.child.0 < n) × (hop.parent.0 < n)) hops) where
    one-hop : (m p d : ℕ) → count_by (λ (hop : Hop). is_to m d hop && hop.parent.0 == p) hops ≤ 1
    one-hop m p d =
        omega (
          arith,
          sum_by-le_each (λ (hop : Hop). cond (is_to m d hop && hop.parent.0 == p) 1 0) (λ (hop : Hop). cond (is_to m d hop) 1 0) (λ hop. both-le (is_to m d hop) (hop.parent.0 == p)) hops,
          count-to m d,
          times-le (count_by (λ a. a == m) ms) (count_by (λ c. c == d) rs) (alone m) (apart d),
        )

    -- what a hop gives among all the centres from which and to which it may go
    hop-gives : (m : ℕ) (F : ℕ → ℕ → ℕ) (hop : Hop) → (hop.child.0 < n) × (hop.parent.0 < n)
        → sum_by (λ p. sum_by (λ d. cond (is_to m d hop && hop.parent.0 == p) (F p d) 0) (range_with_len 0 n)) (range_with_len 0 n) ≡ cond (hop.member.0 == m) (F hop.parent.0 hop.child.0) 0
    hop-gives m F hop low =
        let a = hop.member.0 == m in
        sum_by-agree (λ p. sum_by (λ d. cond (is_to m d hop && hop.parent.0 == p) (F p d) 0) (range_with_len 0 n)) (λ p. cond (hop.parent.0 == p) (cond a (F p hop.child.0) 0) 0)
        (λ p.
        sum_by-agree (λ d. cond (is_to m d hop && hop.parent.0 == p) (F p d) 0) (λ d. cond (hop.child.0 == d) (cond a (cond (hop.parent.0 == p) (F p d) 0) 0) 0) (λ d. pick a (hop.child.0 == d) (hop.parent.0 == p) (F p d)) (range_with_len 0 n)
        ∙ sum_by-one (λ d. cond a (cond (hop.parent.0 == p) (F p d) 0) 0) hop.child.0 0 n (omega arith) (omega (arith, low.0))
        ∙ turn a (hop.parent.0 == p) (F p hop.child.0)) (range_with_len 0 n)
        ∙ sum_by-one (λ p. cond a (F p hop.child.0) 0) hop.parent.0 0 n (omega arith) (omega (arith, low.1))

    -- a sum over the hops of a member
    pub hop-sums : (m : ℕ) (F : ℕ → ℕ → ℕ)
        → sum_by (λ p. sum_by (λ d. cond (has_hop hops m p d) (F p d) 0) (range_with_len 0 n)) (range_with_len 0 n) ≡ sum_by (λ (hop : Hop). cond (hop.member.0 == m) (F hop.parent.0 hop.child.0) 0) hops
    hop-sums m F =
        let one : Hop → ℕ → ℕ → ℕ = λ hop p d. cond (is_to m d hop && hop.parent.0 == p) (F p d) 0 in
        sum_by-agree (λ p. sum_by (λ d. cond (has_hop hops m p d) (F p d) 0) (range_with_len 0 n)) (λ p. sum_by (λ hop. sum_by (one hop p) (range_with_len 0 n)) hops)
        (λ p.
        sum_by-agree (λ d. cond (has_hop hops m p d) (F p d) 0) (λ d. sum_by (λ hop. one hop p d) hops) (λ d. any-sum (λ (hop : Hop). is_to m d hop && hop.parent.0 == p) (F p d) hops (one-hop m p d)) (range_with_len 0 n)
        ∙ sum_by-swap (λ hop d. one hop p d) hops (range_with_len 0 n)) (range_with_len 0 n)
        ∙ sum_by-swap (λ hop p. sum_by (one hop p) (range_with_len 0 n)) hops (range_with_len 0 n)
        ∙ sum_by-where (λ hop. sum_by (λ p. sum_by (one hop p) (range_with_len 0 n)) (range_with_len 0 n)) (λ (hop : Hop). cond (hop.member.0 == m) (F hop.parent.0 hop.child.0) 0) (λ (hop : Hop). (hop.child.0 < n) × (hop.parent.0 < n)) (hop-gives m F) hops low

    -- from how many centres a member's writes come to one
    pub count-from : (m d : ℕ) → count_by (λ p. has_hop hops m p d) (range_with_len 0 n) ≡ count_by (is_to m d) hops
    count-from m d =
        let one : Hop → ℕ → ℕ = λ hop p. cond (is_to m d hop && hop.parent.0 == p) 1 0 in
        sum_by-agree (λ p. cond (has_hop hops m p d) 1 0) (λ p. sum_by (λ hop. one hop p) hops) (λ p. any-sum (λ (hop : Hop). is_to m d hop && hop.parent.0 == p) 1 hops (one-hop m p d)) (range_with_len 0 n)
        ∙ sum_by-swap one hops (range_with_len 0 n)
        ∙ sum_by-where (λ hop. sum_by (one hop) (range_with_len 0 n)) (λ (hop : Hop). cond (is_to m d hop) 1 0) (λ (hop : Hop). (hop.child.0 < n) × (hop.parent.0 < n))
        (λ hop low.
        sum_by-agree (one hop) (λ p. cond (hop.parent.0 == p) (cond (is_to m d hop) 1 0) 0) (λ p. split (is_to m d hop) (hop.parent.0 == p)) (range_with_len 0 n)
        ∙ sum_by-one (λ p. cond (is_to m d hop) 1 0) hop.parent.0 0 n (omega arith) (omega (arith, low.1))) hops low

same-direct : (hop : Hop) (m p : ℕ) (b : Bool) → (hop.child.0 == p) ≡ b → (((hop.member.0 == m) && b) && (hop.parent.0 == hop.child.0)) ≡ (((hop.member.0 == m) && b) && (hop.parent.0 == p))
same-direct hop m p true e = ap (λ c. ((hop.member.0 == m) && true) && (hop.parent.0 == c)) (eqb-true hop.child.0 p e)
same-direct hop m p false e = nothing (hop.member.0 == m) (hop.parent.0 == hop.child.0) (hop.parent.0 == p)
  where
    nothing : (a c e : Bool) → ((a && false) && c) ≡ ((a && false) && e)
    nothing true c e = refl
    nothing false c e = refl

-- a member writes to a centre itself where a hop goes from the centre to itself
pub direct-hop : (hops : List Hop) (m p : ℕ) → is_direct_for hops m p ≡ has_hop hops m p p
direct-hop [] m p = refl
direct-hop (hop ∷ hops) m p =
    ap (λ b. b || is_direct_for hops m p) (same-direct hop m p (hop.child.0 == p) refl)
    ∙ ap (λ b. (((hop.member.0 == m) && (hop.child.0 == p)) && (hop.parent.0 == p)) || b) (direct-hop hops m p)

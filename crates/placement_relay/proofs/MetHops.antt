-- What it means that a choice meets the rows on writing of a relay set.
use Rattle.std.proofs.Common.{◌≡◌, ℕ, ◌+◌, ◌<◌, ◌≤◌, inl, inr, Bool, true, false, cond, not, ◌==◌, List, [], ◌∷◌, ◌++◌, length, get_or, map, refl, ap, subst, ◌∙◌, arith}
use Rattle.std.specs.Prelude.{nat_lt}
use Rattle.std.specs.List.{count_by, AllByRecursion, flat_map}
use Rattle.std.proofs.lemmas.Bool.{cases_eq, ne_eqb}
use Rattle.std.proofs.lemmas.List.Sums.{sum_by-cons}
use Rattle.workload.specs.World.{Lists, centre_count, rule_of, members_of}
use Rattle.workload.specs.declared.rules.Demand.{Demand}
use Rattle.zero_one.specs.Rows.{Meets, bit_of}
use Rattle.placement_rows.specs.Centres.{centres, member_numbers, numbered_members, write_near, nobody}
use Rattle.placement_rows.specs.Rows.{backed, answered}
use Rattle.placement_relay.specs.Relay.{q, comes_from_somewhere, has_them_itself, others, writes_a_replica, writes_near, hop_rows}
use Rattle.placement_rows.proofs.Each.{each-append, each-split, each-map, each-map_back, each-flat_map, each-flat_map_back, each-range, each-range_at, each-kept, each-kept_at, each-numbered, each-numbered_at}
use Rattle.placement_rows.proofs.Values.{meets-plus, meets-plus-back, meets-under, meets-under-back, meets-answered, meets-answered-back}

-- each member's writes come to each replica from somewhere; what passes them on has them from the
-- member itself, and is a replica; and each member writes to enough near centres itself
pub record Writes (w : Lists) (set : ℕ) (x : List Bool) : Type 0 where
  pub comes : (a d : ℕ) → a < length (members_of w set) → d < centre_count w → bit_of x d ≡ true → 1 ≤ count_by (λ p. bit_of x (q w set a p d)) (centres w)
  pub itself : (a p d : ℕ) → a < length (members_of w set) → p < centre_count w → d < centre_count w → bit_of x (q w set a p d) ≡ true → bit_of x (q w set a p p) ≡ true
  pub replica : (a p : ℕ) → a < length (members_of w set) → p < centre_count w → bit_of x (q w set a p p) ≡ true → bit_of x p ≡ true
  pub near : (a : ℕ) → a < length (members_of w set) → (rule_of w set).f + 1 ≤ count_by (λ p. bit_of x (q w set a p p)) (write_near w set (get_or (members_of w set) a nobody))

one-only : (x : List Bool) (v : ℕ) → bit_of x v ≡ true → 1 ≤ count_by (λ u. bit_of x u) (v ∷ [])
one-only x v is =
    let one : ◌≡◌ {A = ℕ} (cond (bit_of x v) 1 0) 1 = ap (λ b. cond b 1 0) is in
    omega (arith, one, sum_by-cons (λ u. cond (bit_of x u) 1 0) v [])

one-only_back : (x : List Bool) (v : ℕ) (b : Bool) → bit_of x v ≡ b → 1 ≤ count_by (λ u. bit_of x u) (v ∷ []) → b ≡ true
one-only_back x v true e h = refl
one-only_back x v false e h =
    let none : ◌≡◌ {A = ℕ} (cond (bit_of x v) 1 0) 0 = ap (λ b. cond b 1 0) e in
    absurd (omega (arith, none, sum_by-cons (λ u. cond (bit_of x u) 1 0) v []))

-- the row that says that one variable is 1 where another is
meets-implied : (x : List Bool) (up low : ℕ) (b : Bool) → (bit_of x low ≡ true → bit_of x up ≡ true) → Meets x (cond b (backed (λ v. v) (up ∷ []) low) (answered low (λ v. v) (up ∷ [])))
meets-implied x up low true h = meets-under x up low h
meets-implied x up low false h = meets-answered x (λ v. v) (up ∷ []) low (λ is. one-only x up (h is))

meets-implied_back : (x : List Bool) (up low : ℕ) (b : Bool) → Meets x (cond b (backed (λ v. v) (up ∷ []) low) (answered low (λ v. v) (up ∷ []))) → bit_of x low ≡ true → bit_of x up ≡ true
meets-implied_back x up low true met is = meets-under-back x up low met is
meets-implied_back x up low false met is = one-only_back x up (bit_of x up) refl (meets-answered-back x (λ v. v) (up ∷ []) low met is)

module _ (w : Lists) (set : ℕ) (x : List Bool) where
  come : ℕ → ℕ → Type 0
  come a d = bit_of x d ≡ true → 1 ≤ count_by (λ p. bit_of x (q w set a p d)) (centres w)

  passed : ℕ → ℕ → ℕ → Type 0
  passed a p d = bit_of x (q w set a p d) ≡ true → bit_of x (q w set a p p) ≡ true

  kept : ℕ → ℕ → Type 0
  kept a p = bit_of x (q w set a p p) ≡ true → bit_of x p ≡ true

  many : ℕ × Demand → Type 0
  many am = (rule_of w set).f + 1 ≤ count_by (λ p. bit_of x (q w set am.0 p p)) (write_near w set am.1)

  pub hops-from : Writes w set x → AllByRecursion (Meets x) (hop_rows w set)
  unfolding come passed kept many
  hops-from c =
      let n = centre_count w in
      let k = length (members_of w set) in
      let four = each-flat_map (Meets x) (λ a. (d : ℕ) → d < n → come a d) (λ a. map (comes_from_somewhere w set a) (centres w))
      (λ a each. each-map (Meets x) (come a) (comes_from_somewhere w set a) (λ d some. meets-answered x (λ p. q w set a p d) (centres w) d some) (centres w) (each-range (come a) 0 n (λ d low high. each d (omega arith))))
      (member_numbers w set) (each-range (λ a. (d : ℕ) → d < n → come a d) 0 k (λ a low high d below. c.comes a d (omega arith) below)) in
      let five = each-flat_map (Meets x) (λ a. (p : ℕ) → p < n → (d : ℕ) → d < n → passed a p d) (λ a. flat_map (λ p. map (has_them_itself w set a p) (others w p)) (centres w))
      (λ a each. each-flat_map (Meets x) (λ p. (d : ℕ) → d < n → passed a p d) (λ p. map (has_them_itself w set a p) (others w p))
      (λ p each'. each-map (Meets x) (passed a p) (has_them_itself w set a p) (λ d only. meets-implied x (q w set a p p) (q w set a p d) (nat_lt (q w set a p p) (q w set a p d)) only) (others w p) (each-kept (passed a p) (λ d. not (p == d)) 0 n (λ d low high is. each' d (omega arith))))
      (centres w) (each-range (λ p. (d : ℕ) → d < n → passed a p d) 0 n (λ p low high. each p (omega arith))))
      (member_numbers w set) (each-range (λ a. (p : ℕ) → p < n → (d : ℕ) → d < n → passed a p d) 0 k (λ a low high p below d below'. c.itself a p d (omega arith) below below')) in
      let six = each-flat_map (Meets x) (λ a. (p : ℕ) → p < n → kept a p) (λ a. map (writes_a_replica w set a) (centres w))
      (λ a each. each-map (Meets x) (kept a) (writes_a_replica w set a) (λ p only. meets-under x p (q w set a p p) only) (centres w) (each-range (kept a) 0 n (λ p low high. each p (omega arith))))
      (member_numbers w set) (each-range (λ a. (p : ℕ) → p < n → kept a p) 0 k (λ a low high p below. c.replica a p (omega arith) below)) in
      let seven = each-map (Meets x) many (writes_near w set) (λ am enough. meets-plus x (λ p. q w set am.0 p p) (write_near w set am.1) ((rule_of w set).f + 1) enough) (numbered_members w set)
      (each-numbered many nobody 0 (members_of w set) (λ j in'. subst (λ b. many (b, get_or (members_of w set) j nobody)) (let e : j ≡ 0 + j = omega arith in e) (c.near j in'))) in
      each-append (Meets x) _ _ (each-append (Meets x) _ _ (each-append (Meets x) _ _ four five) six) seven

  itself_at : (a p d : ℕ) → d < centre_count w → AllByRecursion (passed a p) (others w p) → passed a p d
  unfolding passed
  itself_at a p d low all = elim (cases_eq p d) [
    | inl same ↦ λ is. ap (λ e. bit_of x (q w set a p e)) same ∙ is
    | inr other ↦ each-kept_at (λ d. bit_of x (q w set a p d) ≡ true → bit_of x (q w set a p p) ≡ true) (λ d. not (p == d)) 0 (centre_count w) all d (omega arith) (omega arith) (ap not (ne_eqb p d other))
  ]

  pub hops-back : AllByRecursion (Meets x) (hop_rows w set) → Writes w set x
  unfolding come passed kept many
  hops-back all =
      let n = centre_count w in
      let k = length (members_of w set) in
      let four_rows = flat_map (λ a. map (comes_from_somewhere w set a) (centres w)) (member_numbers w set) in
      let five_rows = flat_map (λ a. flat_map (λ p. map (has_them_itself w set a p) (others w p)) (centres w)) (member_numbers w set) in
      let six_rows = flat_map (λ a. map (writes_a_replica w set a) (centres w)) (member_numbers w set) in
      let s = each-split (Meets x) ((four_rows ++ five_rows) ++ six_rows) (map (writes_near w set) (numbered_members w set)) all in
      let t = each-split (Meets x) (four_rows ++ five_rows) six_rows s.0 in
      let u = each-split (Meets x) four_rows five_rows t.0 in
      let four = each-flat_map_back (Meets x) (λ a. (d : ℕ) → d < n → come a d) (λ a. map (comes_from_somewhere w set a) (centres w))
      (λ a met d below. each-range_at (come a) 0 n (each-map_back (Meets x) (come a) (comes_from_somewhere w set a) (λ d met. meets-answered-back x (λ p. q w set a p d) (centres w) d met) (centres w) met) d (omega arith) (omega arith))
      (member_numbers w set) u.0 in
      let five = each-flat_map_back (Meets x) (λ a. (p : ℕ) → p < n → (d : ℕ) → d < n → passed a p d) (λ a. flat_map (λ p. map (has_them_itself w set a p) (others w p)) (centres w))
      (λ a met p below. each-range_at (λ p. (d : ℕ) → d < n → passed a p d) 0 n
      (each-flat_map_back (Meets x) (λ p. (d : ℕ) → d < n → passed a p d) (λ p. map (has_them_itself w set a p) (others w p))
      (λ p met d below'. itself_at a p d below' (each-map_back (Meets x) (passed a p) (has_them_itself w set a p) (λ d met. meets-implied_back x (q w set a p p) (q w set a p d) (nat_lt (q w set a p p) (q w set a p d)) met) (others w p) met))
      (centres w) met) p (omega arith) (omega arith))
      (member_numbers w set) u.1 in
      let six = each-flat_map_back (Meets x) (λ a. (p : ℕ) → p < n → kept a p) (λ a. map (writes_a_replica w set a) (centres w))
      (λ a met p below. each-range_at (kept a) 0 n (each-map_back (Meets x) (kept a) (writes_a_replica w set a) (λ p met. meets-under-back x p (q w set a p p) met) (centres w) met) p (omega arith) (omega arith))
      (member_numbers w set) t.1 in
      let seven = each-map_back (Meets x) many (writes_near w set) (λ am met. meets-plus-back x (λ p. q w set am.0 p p) (write_near w set am.1) ((rule_of w set).f + 1) met) (numbered_members w set) s.1 in
      record {
        comes = λ a d in'. each-range_at (λ a. (d : ℕ) → d < n → come a d) 0 k four a (omega arith) (omega arith) d;
        itself = λ a p d in' low. each-range_at (λ a. (p : ℕ) → p < n → (d : ℕ) → d < n → passed a p d) 0 k five a (omega arith) (omega arith) p low d;
        replica = λ a p in'. each-range_at (λ a. (p : ℕ) → p < n → kept a p) 0 k six a (omega arith) (omega arith) p;
        near = λ a in'. subst (λ b. many (b, get_or (members_of w set) a nobody)) (let e : 0 + a ≡ a = omega arith in e) (each-numbered_at many nobody 0 (members_of w set) seven a in');
      }

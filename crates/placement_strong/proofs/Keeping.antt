-- What keeps replicas: variables that rise, below those of the providers, each beside a centre.
use Rattle.std.proofs.Common.{◌≡◌, ℕ, zero, suc, ◌+◌, ◌*◌, ◌<◌, ◌≤◌, Bool, true, false, cond, List, [], ◌∷◌, ◌++◌, length, map, subst, arith}
use Rattle.std.specs.Prelude.{⊤}
use Rattle.std.specs.List.{All, AllPairs, AllByRecursion, filter, flat_map, range_with_len}
use Rattle.std.proofs.lemmas.Nat.{mul-le}
use Rattle.std.proofs.lemmas.List.{length-append, length-map}
use Rattle.std.proofs.lemmas.List.Elements.{All-from_recursion}
use Rattle.std.proofs.lemmas.List.Kept.{AllPairs-cons}
use Rattle.std.proofs.lemmas.List.FromFn.{length-range_with_len}
use Rattle.std.proofs.lemmas.List.Sums.{length-filter, count_by-le-length}
use Rattle.workload.specs.World.{Lists, centre_count, rule_of}
use Rattle.slo_rules.specs.Rules.{is_read_near, is_write_near}
use Rattle.placement_rows.specs.Centres.{read_near, write_near}
use Rattle.placement_rows.proofs.Each.{each-append, each-map, each-flat_map, each-range, each-weaker}
use Rattle.placement_strong.specs.Variables.{member_count, members, member_at, g_var, w_var, strong_costs}
use Rattle.placement_strong.specs.Rows.{keeping}
use Rattle.placement_strong.specs.Laws.{IsStrongSet}
use Rattle.placement_strong.proofs.Sizes.{variables}
use Rattle.placement_strong.proofs.StrongSets.{few_members}

-- variables that rise within these bounds
abbrev pub Rise : ℕ → ℕ → List (ℕ × ℕ) → Type 0
Rise low high [] = ⊤
Rise low high (k ∷ ks) = (low ≤ k.0) × ((k.0 < high) × Rise (k.0 + 1) high ks)

rise-from : (low above high : ℕ) (ks : List (ℕ × ℕ)) → low ≤ above → Rise above high ks → Rise low high ks
rise-from low above high [] h r = tt
rise-from low above high (k ∷ ks) h r = (omega (arith, h, r.0), (r.1.0, r.1.1))

rise-append : (low middle high : ℕ) (xs ys : List (ℕ × ℕ)) → low ≤ middle → middle ≤ high → Rise low middle xs → Rise middle high ys → Rise low high (xs ++ ys)
rise-append low middle high [] ys h k r s = rise-from low middle high ys h s
rise-append low middle high (x ∷ xs) ys h k r s = (r.0, (omega (arith, k, r.1.0), rise-append (x.0 + 1) middle high xs ys (omega (arith, r.1.0)) k r.1.1 s))

-- some centres, each behind its variable
rise-block : (o : ℕ) (p : ℕ → Bool) (s n low high : ℕ) → low ≤ o + s → o + (s + n) ≤ high → Rise low high (map (λ (d : ℕ). (o + d, d)) (filter p (range_with_len s n)))
rise-block o p s zero low high h k = tt
rise-block o p s (suc n) low high h k = elim (p s) as (λ b. Rise low high (map (λ (d : ℕ). (o + d, d)) (cond b (s ∷ filter p (range_with_len (s + 1) n)) (filter p (range_with_len (s + 1) n))))) [
  | true ↦ (h, (omega arith, rise-block o p (s + 1) n (o + s + 1) high (omega arith) (omega arith)))
  | false ↦ rise-block o p (s + 1) n low high (omega arith) (omega arith)
]

rise-blocks : (f : ℕ → List (ℕ × ℕ)) (o n : ℕ) → ((a : ℕ) → Rise (o + a * n) (o + (a + 1) * n) (f a)) → (s k : ℕ) → Rise (o + s * n) (o + (s + k) * n) (flat_map f (range_with_len s k))
rise-blocks f o n each s zero = tt
rise-blocks f o n each s (suc k) =
    let end : s + 1 + k ≡ s + suc k = omega arith in
    let whole : (s + 1) * n ≤ (s + suc k) * n = mul-le (s + 1) n (s + suc k) n (omega arith) (omega arith) in
    rise-append (o + s * n) (o + (s + 1) * n) (o + (s + suc k) * n) (f s) (flat_map f (range_with_len (s + 1) k)) (omega arith) (omega (arith, whole)) (each s)
    (subst (λ e. Rise (o + (s + 1) * n) (o + e * n) (flat_map f (range_with_len (s + 1) k))) end (rise-blocks f o n each (s + 1) k))

each-within : (low high : ℕ) (ks : List (ℕ × ℕ)) → Rise low high ks → AllByRecursion (λ k. (low ≤ k.0) × (k.0 < high)) ks
each-within low high [] r = tt
each-within low high (k ∷ ks) r =
    ((r.0, r.1.0), each-weaker (λ j. (k.0 + 1 ≤ j.0) × (j.0 < high)) (λ j. (low ≤ j.0) × (j.0 < high)) (λ j in'. (omega (arith, in'.0, r.0), in'.1)) ks (each-within (k.0 + 1) high ks r.1.1))

pairs-rise : (low high : ℕ) (ks : List (ℕ × ℕ)) → Rise low high ks → AllPairs (λ a b. a.0 < b.0) ks
pairs-rise low high [] r = λ i j d lt within. absurd (omega arith)
pairs-rise low high (k ∷ ks) r =
    AllPairs-cons (λ a b. a.0 < b.0) k ks
    (All-from_recursion (λ b. k.0 < b.0) ks (each-weaker (λ b. (k.0 + 1 ≤ b.0) × (b.0 < high)) (λ b. k.0 < b.0) (λ b in'. omega (arith, in'.0)) ks (each-within (k.0 + 1) high ks r.1.1)))
    (pairs-rise (k.0 + 1) high ks r.1.1)

short-filter : (p : ℕ → Bool) (n : ℕ) → length (filter p (range_with_len 0 n)) ≤ n
short-filter p n = omega (arith, length-filter p (range_with_len 0 n), count_by-le-length p (range_with_len 0 n), length-range_with_len 0 n)

short-blocks : (f : ℕ → List (ℕ × ℕ)) (n : ℕ) → ((a : ℕ) → length (f a) ≤ n) → (s k : ℕ) → length (flat_map f (range_with_len s k)) ≤ k * n
short-blocks f n each s zero = omega arith
short-blocks f n each s (suc k) = omega (arith, length-append (f s) (flat_map f (range_with_len (s + 1) k)), each s, short-blocks f n each (s + 1) k)

low-filter : (p : ℕ → Bool) (s k n : ℕ) → s + k ≤ n → AllByRecursion (λ d. d < n) (filter p (range_with_len s k))
low-filter p s zero n low = tt
low-filter p s (suc k) n low = elim (p s) as (λ b. AllByRecursion (λ d. d < n) (cond b (s ∷ filter p (range_with_len (s + 1) k)) (filter p (range_with_len (s + 1) k)))) [
  | true ↦ (omega arith, low-filter p (s + 1) k n (omega arith))
  | false ↦ low-filter p (s + 1) k n (omega arith)
]

module _ (w : Lists) (set : ℕ) where
  reads : ℕ → List (ℕ × ℕ)
  reads a = map (λ (d : ℕ). (g_var w a d, d)) (read_near w set (member_at w set a))

  writes : ℕ → List (ℕ × ℕ)
  writes a = map (λ (d : ℕ). (w_var w set a d, d)) (write_near w set (member_at w set a))

  rises : Rise (centre_count w) (length (strong_costs w set)) (keeping w set)
  unfolding reads writes
  rises =
      let n = centre_count w in
      let k = member_count w set in
      let r = rule_of w set in
      let block : (a : ℕ) → Rise (n + a * n) (n + (a + 1) * n) (reads a) = λ a. rise-block (n + a * n) (is_read_near w r (member_at w set a).dc.0) 0 n (n + a * n) (n + (a + 1) * n) (omega arith) (omega arith) in
      let other : (a : ℕ) → Rise (n + k * n + a * n) (n + k * n + (a + 1) * n) (writes a) = λ a. rise-block (n + k * n + a * n) (is_write_near w r (member_at w set a).dc.0) 0 n (n + k * n + a * n) (n + k * n + (a + 1) * n) (omega arith) (omega arith) in
      rise-append n (n + k * n) (length (strong_costs w set)) (flat_map reads (members w set)) (flat_map writes (members w set)) (omega arith) (omega (arith, variables w set))
      (subst (λ e. Rise e (n + k * n) (flat_map reads (members w set))) (let e : n + 0 * n ≡ n = omega arith in e)
      (subst (λ e. Rise (n + 0 * n) (n + e * n) (flat_map reads (members w set))) (let e : 0 + k ≡ k = omega arith in e) (rise-blocks reads n n block 0 k)))
      (rise-to (subst (λ e. Rise e (n + k * n + (0 + k) * n) (flat_map writes (members w set))) (let e : n + k * n + 0 * n ≡ n + k * n = omega arith in e) (rise-blocks writes (n + k * n) n other 0 k)))
    where
      higher : (low end high : ℕ) (ks : List (ℕ × ℕ)) → end ≤ high → Rise low end ks → Rise low high ks
      higher low end high [] h r = tt
      higher low end high (k ∷ ks) h r = (r.0, (omega (arith, h, r.1.0), higher (k.0 + 1) end high ks h r.1.1))

      rise-to : Rise (centre_count w + member_count w set * centre_count w) (centre_count w + member_count w set * centre_count w + (0 + member_count w set) * centre_count w) (flat_map writes (members w set))
          → Rise (centre_count w + member_count w set * centre_count w) (length (strong_costs w set)) (flat_map writes (members w set))
      rise-to = higher (centre_count w + member_count w set * centre_count w) (centre_count w + member_count w set * centre_count w + (0 + member_count w set) * centre_count w) (length (strong_costs w set)) (flat_map writes (members w set)) (omega (arith, variables w set))

  pub keeping_rises : AllPairs (λ a b. a.0 < b.0) (keeping w set)
  keeping_rises = pairs-rise (centre_count w) (length (strong_costs w set)) (keeping w set) rises

  pub keeping_below : AllByRecursion (λ k. k.0 < length (strong_costs w set)) (keeping w set)
  keeping_below =
      each-weaker (λ k. (centre_count w ≤ k.0) × (k.0 < length (strong_costs w set))) (λ k. k.0 < length (strong_costs w set)) (λ k in'. in'.1) (keeping w set) (each-within (centre_count w) (length (strong_costs w set)) (keeping w set) rises)

  pub keeping_centres : All (λ k. k.1 < centre_count w) (keeping w set)
  unfolding reads writes
  keeping_centres =
      let P : ℕ × ℕ → Type 0 = λ k. k.1 < centre_count w in
      let any : AllByRecursion (λ (a : ℕ). ⊤) (members w set) = each-range (λ a. ⊤) 0 (member_count w set) (λ a from to. tt) in
      let one = each-flat_map P (λ (a : ℕ). ⊤) reads (λ a _. each-map P (λ d. d < centre_count w) (λ (d : ℕ). (g_var w a d, d)) (λ d low. low) (read_near w set (member_at w set a)) (low-filter (is_read_near w (rule_of w set) (member_at w set a).dc.0) 0 (centre_count w) (centre_count w) (omega arith))) (members w set) any in
      let two = each-flat_map P (λ (a : ℕ). ⊤) writes (λ a _. each-map P (λ d. d < centre_count w) (λ (d : ℕ). (w_var w set a d, d)) (λ d low. low) (write_near w set (member_at w set a)) (low-filter (is_write_near w (rule_of w set) (member_at w set a).dc.0) 0 (centre_count w) (centre_count w) (omega arith))) (members w set) any in
      All-from_recursion P (keeping w set) (each-append P (flat_map reads (members w set)) (flat_map writes (members w set)) one two)

  pub keeping_few : IsStrongSet w set → length (keeping w set) ≤ 256
  unfolding reads writes
  keeping_few s =
      let n = centre_count w in
      let k = member_count w set in
      let gs : ℕ → ℕ → ℕ × ℕ = λ a d. (g_var w a d, d) in
      let ws : ℕ → ℕ → ℕ × ℕ = λ a d. (w_var w set a d, d) in
      let one = short-blocks reads n (λ a. omega (arith, length-map (read_near w set (member_at w set a)) (gs a), short-filter (is_read_near w (rule_of w set) (member_at w set a).dc.0) n)) 0 k in
      let two = short-blocks writes n (λ a. omega (arith, length-map (write_near w set (member_at w set a)) (ws a), short-filter (is_write_near w (rule_of w set) (member_at w set a).dc.0) n)) 0 k in
      omega (arith, one, two, length-append (flat_map reads (members w set)) (flat_map writes (members w set)), mul-le k n 8 16 (few_members w set s) s.complete.few_centres)

-- What a strong policy costs, and what a choice costs, both as sums over the centres.
use Rattle.std.proofs.Common.{◌≡◌, ℕ, zero, suc, ◌+◌, ◌*◌, ◌<◌, ◌≤◌, Bool, true, false, cond, List, [], ◌∷◌, ◌++◌, length, drop, map, replicate, refl, sym, ap, ◌∙◌, arith}
use Rattle.std.specs.List.{sum_by, range_with_len, flat_map}
use Rattle.std.proofs.lemmas.List.{append-nil, length-append}
use Rattle.std.proofs.lemmas.List.FromFn.{length-map-range_with_len}
use Rattle.std.proofs.lemmas.List.Sums.{sum_by-cons}
use Rattle.span_base.specs.declared.dc_set.DcSet.{DcSet}
use Rattle.span_base.specs.DcSet.{has, centres_of}
use Rattle.span_base.specs.declared.policy.Policy.TheVariants.{Strong}
use Rattle.span_base.specs.declared.policy.Quorum.{Quorum}
use Rattle.workload.specs.World.{Lists, centre_count, rule_of, members_of}
use Rattle.workload.proofs.Worlds.{length-rows}
use Rattle.slo_rules.specs.Cost.{policy_cost, stored_cost, gets_cost, quorum_puts_cost, quorum_cost}
use Rattle.zero_one.specs.Rows.{bit_of}
use Rattle.zero_one.specs.Program.{value_of}
use Rattle.placement_rows.specs.Centres.{centres, nobody}
use Rattle.placement_rows.specs.Providers.{asks_providers, provider_costs, providers}
use Rattle.placement_rows.proofs.Sums.{sum_by-add, sum_by-filter, sum_by-range_agree}
use Rattle.placement_rows.proofs.Values.{value-append, value-nothing, value-block}
use Rattle.placement_strong.specs.Variables.{member_count, members, member_at, pairs, g_var, w_var, storing_costs, reading_costs, writing_costs, meeting_costs, strong_costs}
use Rattle.placement_strong.specs.Programs.{set_costs}
use Rattle.placement_strong.specs.Placed.{quorum_at, no_quorum}
use Rattle.placement_strong.proofs.Allowed.{IsStrong}
use Rattle.placement_strong.proofs.Counts.{sum-zip}
use Rattle.placement_strong.proofs.SetTests.{centres_of-below, below_all}

-- a cost where it is chosen
abbrev pub paid : (ℕ → Bool) → (ℕ → ℕ) → ℕ → ℕ
paid chosen cost d = cond (chosen d) (cost d) 0

-- what some sets cost: the replicas, each member's read set and its write set
abbrev pub kept : Lists → ℕ → (ℕ → Bool) → ℕ
kept w set r = sum_by (paid r (stored_cost w (rule_of w set))) (centres w)

abbrev pub read : Lists → ℕ → (ℕ → ℕ → Bool) → ℕ → ℕ
read w set g a = sum_by (paid (g a) (gets_cost w (rule_of w set) (member_at w set a))) (centres w)

abbrev pub written : Lists → ℕ → (ℕ → ℕ → Bool) → ℕ → ℕ
written w set t a = sum_by (paid (t a) (quorum_puts_cost w (rule_of w set) (member_at w set a))) (centres w)

abbrev pub sets_cost : Lists → ℕ → (ℕ → Bool) → (ℕ → ℕ → Bool) → (ℕ → ℕ → Bool) → ℕ
sets_cost w set r g t = kept w set r + (sum_by (read w set g) (members w set) + sum_by (written w set t) (members w set))

value-range : (c : ℕ → ℕ) (x : List Bool) (o n : ℕ) → value_of (map c (range_with_len 0 n)) (drop o x) ≡ sum_by (paid (λ d. bit_of x (o + d)) c) (range_with_len 0 n)
value-range c x o n =
    let from : o + 0 ≡ o = omega arith in
    let all : map c (range_with_len 0 n) ++ [] ≡ map c (range_with_len 0 n) = append-nil (map c (range_with_len 0 n)) in
    omega (arith, value-block c [] x o 0 n, ap (λ j. value_of (map c (range_with_len 0 n) ++ []) (drop j x)) from, ap (λ cs. value_of cs (drop o x)) all)

-- the value of blocks of one length, one for each number of a range
value-pieces : (c : ℕ → ℕ → ℕ) (o n : ℕ) (x : List Bool) (s k : ℕ)
    → value_of (flat_map (λ a. map (c a) (range_with_len 0 n)) (range_with_len s k)) (drop (o + s * n) x) ≡ sum_by (λ a. sum_by (paid (λ d. bit_of x (o + a * n + d)) (c a)) (range_with_len 0 n)) (range_with_len s k)
value-pieces c o n x s zero = refl
value-pieces c o n x s (suc k) =
    let rest = flat_map (λ a. map (c a) (range_with_len 0 n)) (range_with_len (s + 1) k) in
    let from : o + s * n + 0 ≡ o + s * n = omega arith in
    let to : o + s * n + (0 + n) ≡ o + (s + 1) * n = omega arith in
    omega (
      arith,
      value-block (c s) rest x (o + s * n) 0 n,
      ap (λ j. value_of (map (c s) (range_with_len 0 n) ++ rest) (drop j x)) from,
      ap (λ j. value_of rest (drop j x)) to,
      value-pieces c o n x (s + 1) k,
      sum_by-cons (λ a. sum_by (paid (λ d. bit_of x (o + a * n + d)) (c a)) (range_with_len 0 n)) s (range_with_len (s + 1) k),
    )

value-zeros : (m : ℕ) (y : List Bool) → value_of (replicate m 0) y ≡ 0
value-zeros zero y = refl
value-zeros (suc m) [] = refl
value-zeros (suc m) (true ∷ y) = omega (arith, value-zeros m y)
value-zeros (suc m) (false ∷ y) = value-zeros m y

module _ (w : Lists) (set : ℕ) (x : List Bool) where
  -- a choice's value
  pub value-parts : value_of (strong_costs w set) x ≡ sets_cost w set (bit_of x) (λ a d. bit_of x (g_var w a d)) (λ a d. bit_of x (w_var w set a d))
  value-parts =
      let n = centre_count w in
      let k = member_count w set in
      let r = rule_of w set in
      let stored = storing_costs w set in
      let gets = reading_costs w set in
      let puts = writing_costs w set in
      let long : length stored ≡ n + 0 * n = omega (arith, length-map-range_with_len (stored_cost w r) 0 n) in
      let longer : length (stored ++ gets) ≡ n + k * n + 0 * n = omega (arith, long, length-append stored gets, length-rows (λ a. gets_cost w r (member_at w set a)) n 0 k) in
      let same = sum_by-range_agree (paid (λ d. bit_of x (0 + d)) (stored_cost w r)) (paid (bit_of x) (stored_cost w r)) 0 n (λ d low high. ap (λ e. cond (bit_of x e) (stored_cost w r d) 0) (let e : 0 + d ≡ d = omega arith in e)) in
      omega (
        arith,
        value-append ((stored ++ gets) ++ puts) (meeting_costs w set) x,
        value-zeros ((k * k + length (pairs k)) * n) (drop (length ((stored ++ gets) ++ puts)) x),
        value-append (stored ++ gets) puts x,
        ap (λ j. value_of puts (drop j x)) longer,
        value-pieces (λ a. quorum_puts_cost w r (member_at w set a)) (n + k * n) n x 0 k,
        value-append stored gets x,
        ap (λ j. value_of gets (drop j x)) long,
        value-pieces (λ a. gets_cost w r (member_at w set a)) n n x 0 k,
        value-range (stored_cost w r) x 0 n,
        same,
      )

  -- the providers' variables add nothing
  pub value-set : value_of (set_costs w set) x ≡ value_of (strong_costs w set) x
  value-set =
      let costs = strong_costs w set in
      omega (arith, value-append costs (provider_costs w set) x, unpaid (asks_providers w set) (drop (length costs) x))
    where
      unpaid : (asks : Bool) (y : List Bool) → value_of (cond asks (map (λ e. 0) (providers w)) []) y ≡ 0
      unpaid true y = value-nothing (providers w) y
      unpaid false y = refl

-- a sum over the centres of a set
sum-set : (s : DcSet) (n : ℕ) → n ≤ 16 → ((d : ℕ) → has s d ≡ true → d < n) → (c : ℕ → ℕ) → sum_by c (centres_of s) ≡ sum_by (paid (has s) c) (range_with_len 0 n)
sum-set s n few low c = ap (sum_by c) (centres_of-below s n few low) ∙ sum_by-filter c (has s) (range_with_len 0 n)

-- a policy's cost
pub cost-parts : (w : Lists) (set : ℕ) (f : ℕ) (replicas : DcSet) (quorums : List Quorum) → centre_count w ≤ 16 → IsStrong w set f replicas quorums
    → policy_cost w set (Strong f replicas quorums) ≡ sets_cost w set (has replicas) (λ a. has (quorum_at quorums a).read) (λ a. has (quorum_at quorums a).write)
unfolding policy_cost
cost-parts w set f replicas quorums few strong =
    let n = centre_count w in
    let k = member_count w set in
    let r = rule_of w set in
    let g : ℕ → ℕ → Bool = λ a. has (quorum_at quorums a).read in
    let t : ℕ → ℕ → Bool = λ a. has (quorum_at quorums a).write in
    let each : (a : ℕ) → a < k → read w set g a + written w set t a ≡ quorum_cost w r (member_at w set a) (quorum_at quorums a) =
    λ a in'.
    let q = quorum_at quorums a in
    let s = strong.served a in' in
    omega (arith, sum-set q.read n few s.read_low (gets_cost w r (member_at w set a)), sum-set q.write n few s.write_low (quorum_puts_cost w r (member_at w set a))) in
    let requests = sum-zip (quorum_cost w r) (λ a. read w set g a + written w set t a) nobody no_quorum 0 (members_of w set) quorums (sym strong.many)
    (λ a in'. ap (λ b. read w set g b + written w set t b) (let e : 0 + a ≡ a = omega arith in e) ∙ each a in') in
    omega (arith, sum-set replicas n few (below_all n replicas strong.lies) (stored_cost w r), requests, sum_by-add (read w set g) (written w set t) (members w set))

-- The rows of a strong set keep what is asked of a program's rows.
use Rattle.std.proofs.Common.{◌≡◌, ℕ, ◌+◌, ◌*◌, ◌<◌, ◌≤◌, Bool, List, [], ◌∷◌, length, map, pos, refl, unsigned_abs, arith}
use Rattle.std.specs.Prelude.{◌&&◌}
use Rattle.std.specs.List.{filter, flat_map, sum_by, AllByRecursion, range_with_len}
use Rattle.std.proofs.lemmas.Nat.{mul-le}
use Rattle.std.proofs.lemmas.List.Elements.{All-from_recursion}
use Rattle.std.proofs.lemmas.List.Sums.{sum_by-cons, length-filter, count_by-le-length}
use Rattle.std.proofs.lemmas.List.FromFn.{length-range_with_len}
use Rattle.workload.specs.World.{Lists, centre_count, rule_of}
use Rattle.slo_rules.specs.Rules.{is_read_near, is_write_near}
use Rattle.zero_one.specs.declared.rows.Entry.{Entry}
use Rattle.placement_rows.specs.Centres.{centres}
use Rattle.placement_rows.specs.Rows.{plus}
use Rattle.placement_rows.proofs.Each.{each-append, each-map, each-flat_map, each-range, each-numbered}
use Rattle.placement_rows.proofs.Fits.{IsFit, plus_row, two_row}
use Rattle.placement_strong.specs.Variables.{member_count, members, member_at, pairs, g_var, w_var, u_var, v_var, strong_costs}
use Rattle.placement_strong.specs.Rows.{meets, meets_within, writes, writes_meet, writes_meet_within, reads_replica, writes_replica, numbered_pairs, strong_rows}
use Rattle.placement_strong.specs.Laws.{IsStrongSet}
use Rattle.placement_strong.proofs.Pairs.{IsPair, each-pair}
use Rattle.placement_strong.proofs.Sizes.{variables}
use Rattle.placement_strong.proofs.StrongSets.{set_within}

weight_of_plus : (o : ℕ) (ds : List ℕ) → sum_by (λ (entry : Entry). unsigned_abs entry.coef) (map (λ d. plus (o + d)) ds) ≡ length ds
weight_of_plus o [] = refl
weight_of_plus o (d ∷ ds) = omega (arith, sum_by-cons (λ (entry : Entry). unsigned_abs entry.coef) (plus (o + d)) (map (λ d. plus (o + d)) ds), weight_of_plus o ds)

-- a row that asks for enough of some centres
quorum_row_fits : (count o n f : ℕ) (p : ℕ → Bool) → o + n ≤ count → n ≤ 16 → f ≤ 3 → IsFit count (record { entries = map (λ d. plus (o + d)) (filter p (range_with_len 0 n)); bound = pos (2 * f + 1) })
quorum_row_fits count o n f p low few small =
    let fit = plus_row count o n 0 p low few (omega arith) in
    let near = filter p (range_with_len 0 n) in
    record {
      known = fit.known;
      rising = fit.rising;
      light = omega (arith, weight_of_plus o near, length-filter p (range_with_len 0 n), count_by-le-length p (range_with_len 0 n), length-range_with_len 0 n);
    }

module _ (w : Lists) (set : ℕ) (s : IsStrongSet w set) (count : ℕ) (enough : length (strong_costs w set) ≤ count) where
  block : (a : ℕ) → a < member_count w set → (a + 1) * centre_count w ≤ member_count w set * centre_count w
  block a low = mul-le (a + 1) (centre_count w) (member_count w set) (centre_count w) (omega arith) (omega arith)

  u-room : (a b : ℕ) → a < member_count w set → b < member_count w set → u_var w set a b 0 + centre_count w ≤ count
  u-room a b in' in'' =
      let n = centre_count w in
      let k = member_count w set in
      let before : (a + 1) * k ≤ k * k = mul-le (a + 1) k k k (omega arith) (omega arith) in
      omega (arith, variables w set, enough, mul-le (a * k + b + 1) n (k * k) n (omega (arith, before)) (omega arith))

  v-room : (pair : ℕ) → pair < length (pairs (member_count w set)) → v_var w set pair 0 + centre_count w ≤ count
  v-room pair in' =
      let n = centre_count w in
      let k = member_count w set in
      omega (arith, variables w set, enough, mul-le (pair + 1) n (length (pairs k)) n (omega arith) (omega arith))

  f_small : (rule_of w set).f ≤ 3
  f_small = (set_within w set s).rule.f

  meets_fits : (a b : ℕ) → a < member_count w set → b < member_count w set → IsFit count (meets w set a b)
  meets_fits a b in' in'' =
      let n = centre_count w in
      let k = member_count w set in
      let r = rule_of w set in
      quorum_row_fits count (n + 2 * k * n + (a * k + b) * n) n r.f (λ d. is_read_near w r (member_at w set a).dc.0 d && is_write_near w r (member_at w set b).dc.0 d) (omega (arith, u-room a b in' in'')) s.complete.few_centres f_small

  writes_fits : (a : ℕ) → a < member_count w set → IsFit count (writes w set a)
  writes_fits a in' =
      let n = centre_count w in
      let k = member_count w set in
      let r = rule_of w set in
      quorum_row_fits count (n + k * n + a * n) n r.f (is_write_near w r (member_at w set a).dc.0) (omega (arith, block a in', variables w set, enough)) s.complete.few_centres f_small

  writes_meet_fits : (pair a b : ℕ) → pair < length (pairs (member_count w set)) → IsFit count (writes_meet w set (pair, (a, b)))
  writes_meet_fits pair a b in' =
      let n = centre_count w in
      let k = member_count w set in
      let r = rule_of w set in
      quorum_row_fits count (n + 2 * k * n + k * k * n + pair * n) n r.f (λ d. is_write_near w r (member_at w set a).dc.0 d && is_write_near w r (member_at w set b).dc.0 d) (omega (arith, v-room pair in')) s.complete.few_centres f_small

  meets_within_fit : (a b d : ℕ) → a < member_count w set → b < member_count w set → d < centre_count w → AllByRecursion (IsFit count) (meets_within w set a b d)
  meets_within_fit a b d in' in'' low =
      let last : u_var w set a b d < count = omega (arith, u-room a b in' in'', low) in (
        two_row count (g_var w a d) (u_var w set a b d) (omega (arith, block a in', low)) last,
        (two_row count (w_var w set b d) (u_var w set a b d) (omega (arith, block b in'', low)) last, tt),
      )

  writes_meet_within_fit : (pair a b d : ℕ) → pair < length (pairs (member_count w set)) → a < member_count w set → b < member_count w set → d < centre_count w → AllByRecursion (IsFit count) (writes_meet_within w set (pair, (a, b)) d)
  writes_meet_within_fit pair a b d in' first second low =
      let last : v_var w set pair d < count = omega (arith, v-room pair in', low) in (
        two_row count (w_var w set a d) (v_var w set pair d) (omega (arith, block a first, low)) last,
        (two_row count (w_var w set b d) (v_var w set pair d) (omega (arith, block b second, low)) last, tt),
      )

  -- a numbered pair
  IsCounted : ℕ × (ℕ × ℕ) → Type 0
  IsCounted p = (p.0 < length (pairs (member_count w set))) × IsPair (member_count w set) p.1

  each-counted : AllByRecursion IsCounted (numbered_pairs w set)
  unfolding IsCounted
  each-counted =
      let k = member_count w set in
      each-numbered IsCounted (0, 0) 0 (pairs k) (λ i in'. (omega arith, All-from_recursion (IsPair k) (pairs k) (each-pair k) i (0, 0) in'))

  pub strong-rows-fit : AllByRecursion (IsFit count) (strong_rows w set)
  unfolding IsCounted
  strong-rows-fit =
      let n = centre_count w in
      let k = member_count w set in
      let fit = IsFit count in
      let low : AllByRecursion (λ a. a < k) (members w set) = each-range (λ a. a < k) 0 k (λ a from to. omega arith) in
      let near : AllByRecursion (λ d. d < n) (centres w) = each-range (λ d. d < n) 0 n (λ d from to. omega arith) in
      let one = each-flat_map fit (λ a. a < k) (λ a. map (meets w set a) (members w set)) (λ a in'. each-map fit (λ b. b < k) (meets w set a) (λ b in''. meets_fits a b in' in'') (members w set) low) (members w set) low in
      let two = each-flat_map fit (λ a. a < k) (λ a. flat_map (λ b. flat_map (meets_within w set a b) (centres w)) (members w set))
      (λ a in'. each-flat_map fit (λ b. b < k) (λ b. flat_map (meets_within w set a b) (centres w)) (λ b in''. each-flat_map fit (λ d. d < n) (meets_within w set a b) (λ d in'''. meets_within_fit a b d in' in'' in''') (centres w) near) (members w set) low)
      (members w set) low in
      let three = each-map fit (λ a. a < k) (writes w set) (λ a in'. writes_fits a in') (members w set) low in
      let four = each-map fit IsCounted (writes_meet w set) (λ p in'. writes_meet_fits p.0 p.1.0 p.1.1 in'.0) (numbered_pairs w set) each-counted in
      let five = each-flat_map fit IsCounted (λ p. flat_map (writes_meet_within w set p) (centres w))
      (λ p in'. each-flat_map fit (λ d. d < n) (writes_meet_within w set p) (λ d in''. writes_meet_within_fit p.0 p.1.0 p.1.1 d in'.0 (omega (arith, in'.1.rises, in'.1.low)) in'.1.low in'') (centres w) near)
      (numbered_pairs w set) each-counted in
      let six = each-flat_map fit (λ a. a < k) (λ a. map (reads_replica w a) (centres w))
      (λ a in'. each-map fit (λ d. d < n) (reads_replica w a) (λ d in''. two_row count d (g_var w a d) (omega (arith, in'')) (omega (arith, block a in', variables w set, enough, in''))) (centres w) near) (members w set) low in
      let seven = each-flat_map fit (λ a. a < k) (λ a. map (writes_replica w set a) (centres w))
      (λ a in'. each-map fit (λ d. d < n) (writes_replica w set a) (λ d in''. two_row count d (w_var w set a d) (omega (arith, in'')) (omega (arith, block a in', variables w set, enough, in''))) (centres w) near) (members w set) low in
      each-append fit _ _ (each-append fit _ _ (each-append fit _ _ (each-append fit _ _ (each-append fit _ _ (each-append fit _ _ one two) three) four) five) six) seven

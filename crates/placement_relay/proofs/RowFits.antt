-- The rows of a program speak of its own variables, in rising order, and are light.
use Rattle.std.proofs.Common.{◌≡◌, ℕ, ◌+◌, ◌*◌, ◌<◌, ◌≤◌, inl, inr, Bool, true, false, cond, not, ◌==◌, [], ◌∷◌, length, map, sym, ap, subst, arith}
use Rattle.std.specs.Prelude.{nat_lt, ⊤}
use Rattle.std.specs.List.{filter, flat_map, AllByRecursion}
use Rattle.std.proofs.lemmas.Nat.{mul-le}
use Rattle.std.proofs.lemmas.Bool.{cases_lt, lt-ltb, ltb-true, false_from_ne_true, eq-eqb}
use Rattle.std.proofs.lemmas.List.Elements.{recursion_from_All}
use Rattle.workload.specs.World.{Lists, IsDemandWithin, centre_count, rule_of, members_of}
use Rattle.workload.specs.declared.rules.Demand.{Demand}
use Rattle.workload.specs.declared.rules.Mode.{Mode}
use Rattle.workload.specs.declared.rules.Mode.TheVariants as mode
use Rattle.slo_rules.specs.Rules.{is_read_near, is_write_near}
use Rattle.placement_rows.specs.Centres.{centres, member_numbers, numbered_members, read_near, write_near, nobody}
use Rattle.placement_rows.specs.Rows.{backed, answered}
use Rattle.placement_relay.specs.Reading.{h, reads_somewhere, reads_a_replica, has_replicas, reading_rows}
use Rattle.placement_relay.specs.Direct.{direct_rows}
use Rattle.placement_relay.specs.Relay.{q, comes_from_somewhere, implied, has_them_itself, others, writes_a_replica, writes_near, hop_rows, relay_rows}
use Rattle.placement_relay.specs.Programs.{rows_by, mode_costs}
use Rattle.placement_relay.specs.Laws.{IsEventualSet}
use Rattle.placement_rows.proofs.Fits.{IsFit, rising_row, plus_row, two_row, two_row_back, answered_row}
use Rattle.placement_rows.proofs.Each.{each-append, each-map, each-flat_map, each-range, each-kept, each-numbered, each-weaker}
use Rattle.placement_relay.proofs.Members.{set_within, hop-low, direct-count, relay-count}

-- a row of two different variables, in whichever order they stand
implied_fits : (count up low : ℕ) → (up ≡ low → ⊥) → up < count → low < count → IsFit count (implied up low)
implied_fits count up low apart in' in'' = elim (cases_lt up low) [
  | inl rise ↦ subst (λ b. IsFit count (cond b (backed (λ v. v) (up ∷ []) low) (answered low (λ v. v) (up ∷ [])))) (sym (lt-ltb up low rise)) (two_row count up low rise in'')
  | inr fall ↦
      let other : low < up = elim (cases_lt low up) [ inl lt ↦ lt | inr ge ↦ absurd (apart (omega arith)) ] in
      subst (λ b. IsFit count (cond b (backed (λ v. v) (up ∷ []) low) (answered low (λ v. v) (up ∷ [])))) (sym (false_from_ne_true (nat_lt up low) (λ e. let h = ltb-true up low e in omega arith))) (two_row_back count low up other in')
]

module _ (w : Lists) (set : ℕ) (s : IsEventualSet w set) (count : ℕ) where
  each_number : AllByRecursion (λ a. a < length (members_of w set)) (member_numbers w set)
  each_number = each-range (λ a. a < length (members_of w set)) 0 (length (members_of w set)) (λ a from to. omega arith)

  each_centre : AllByRecursion (λ d. d < centre_count w) (centres w)
  each_centre = each-range (λ d. d < centre_count w) 0 (centre_count w) (λ d from to. omega arith)

  numbered : AllByRecursion (λ (am : ℕ × Demand). am.0 < length (members_of w set)) (numbered_members w set)
  numbered = each-numbered (λ (am : ℕ × Demand). am.0 < length (members_of w set)) nobody 0 (members_of w set) (λ k in'. omega arith)

  any_member : AllByRecursion (λ (m : Demand). ⊤) (members_of w set)
  any_member = each-weaker (IsDemandWithin (centre_count w)) (λ m. ⊤) (λ m _. tt) (members_of w set) (recursion_from_All (IsDemandWithin (centre_count w)) (members_of w set) (set_within w set s).members)

  few_faults : (rule_of w set).f + 1 ≤ 4
  few_faults = omega (arith, (set_within w set s).rule.f)

  module _ (enough : centre_count w + length (members_of w set) * centre_count w ≤ count) where
    near_fits : (p : ℕ → Bool) → IsFit count (has_replicas w set (filter p (centres w)))
    near_fits p = rising_row count (centre_count w) ((rule_of w set).f + 1) (λ d. d) p (λ d e lt. lt) (λ d low. omega (arith, enough)) s.complete.few_centres few_faults

    block : (a : ℕ) → a < length (members_of w set) → (a + 1) * centre_count w ≤ length (members_of w set) * centre_count w
    block a low = mul-le (a + 1) (centre_count w) (length (members_of w set)) (centre_count w) (omega arith) (omega arith)

    reads_fit : (a : ℕ) (m : Demand) → a < length (members_of w set) → IsFit count (reads_somewhere w set (a, m))
    reads_fit a m low =
        let n = centre_count w in
        plus_row count (n + a * n) n 1 (is_read_near w (rule_of w set) m.dc.0) (omega (arith, block a low, enough)) s.complete.few_centres (omega arith)

    replica_fits : (a d : ℕ) → a < length (members_of w set) → d < centre_count w → IsFit count (reads_a_replica w a d)
    replica_fits a d in' low = two_row count d (h w a d) (omega arith) (omega (arith, block a in', enough))

    reading_fit : AllByRecursion (IsFit count) (reading_rows w set)
    reading_fit =
        let one = each-map (IsFit count) (λ (am : ℕ × Demand). am.0 < length (members_of w set)) (reads_somewhere w set) (λ am low. reads_fit am.0 am.1 low) (numbered_members w set) numbered in
        let two = each-flat_map (IsFit count) (λ a. a < length (members_of w set)) (λ a. map (reads_a_replica w a) (centres w)) (λ a low. each-map (IsFit count) (λ d. d < centre_count w) (reads_a_replica w a) (λ d below. replica_fits a d low below) (centres w) each_centre) (member_numbers w set) each_number in
        let three = each-map (IsFit count) (λ m. ⊤) (λ m. has_replicas w set (read_near w set m)) (λ m _. near_fits (is_read_near w (rule_of w set) m.dc.0)) (members_of w set) any_member in
        each-append (IsFit count) _ _ (each-append (IsFit count) _ _ one two) three

    direct_fit : AllByRecursion (IsFit count) (direct_rows w set)
    direct_fit =
        each-append (IsFit count) (reading_rows w set) _ reading_fit
        (each-map (IsFit count) (λ m. ⊤) (λ m. has_replicas w set (write_near w set m)) (λ m _. near_fits (is_write_near w (rule_of w set) m.dc.0)) (members_of w set) any_member)

  module _ (enough : centre_count w + length (members_of w set) * centre_count w + length (members_of w set) * centre_count w * centre_count w ≤ count) where
    hop_in : (a p d : ℕ) → a < length (members_of w set) → p < centre_count w → d < centre_count w → q w set a p d < count
    hop_in a p d in' low low' = omega (arith, enough, hop-low w set a p d in' low low')

    line : (p e : ℕ) → p < e → (p + 1) * centre_count w ≤ e * centre_count w
    line p e lt = mul-le (p + 1) (centre_count w) e (centre_count w) (omega arith) (omega arith)

    comes_fits : (a d : ℕ) → a < length (members_of w set) → d < centre_count w → IsFit count (comes_from_somewhere w set a d)
    comes_fits a d in' low =
        let n = centre_count w in
        let members : 1 * n ≤ length (members_of w set) * n = mul-le 1 n (length (members_of w set)) n (omega arith) (omega arith) in
        answered_row count d n (λ p. q w set a p d) (λ p e lt. omega (arith, line p e lt, low)) (λ p below. (omega (arith, members), hop_in a p d in' below low)) (omega (arith, enough)) s.complete.few_centres

    itself_fits : (a p d : ℕ) → a < length (members_of w set) → p < centre_count w → d < centre_count w → not (p == d) ≡ true → IsFit count (has_them_itself w set a p d)
    itself_fits a p d in' low low' apart =
        implied_fits count (q w set a p p) (q w set a p d)
        (λ same. let e : p ≡ d = omega (arith, same) in let f : not (p == d) ≡ false = ap not (eq-eqb p d e) in cc)
        (hop_in a p p in' low low) (hop_in a p d in' low low')

    writes_fit : (a p : ℕ) → a < length (members_of w set) → p < centre_count w → IsFit count (writes_a_replica w set a p)
    writes_fit a p in' low =
        let n = centre_count w in
        let members : 1 * n ≤ length (members_of w set) * n = mul-le 1 n (length (members_of w set)) n (omega arith) (omega arith) in
        two_row count p (q w set a p p) (omega (arith, members)) (hop_in a p p in' low low)

    enough_fit : (a : ℕ) (m : Demand) → a < length (members_of w set) → IsFit count (writes_near w set (a, m))
    enough_fit a m in' =
        rising_row count (centre_count w) ((rule_of w set).f + 1) (λ p. q w set a p p) (is_write_near w (rule_of w set) m.dc.0) (λ p e lt. omega (arith, line p e lt)) (λ p low. hop_in a p p in' low low) s.complete.few_centres few_faults

    hops_fit : AllByRecursion (IsFit count) (hop_rows w set)
    hops_fit =
        let n = centre_count w in
        let four = each-flat_map (IsFit count) (λ a. a < length (members_of w set)) (λ a. map (comes_from_somewhere w set a) (centres w)) (λ a in'. each-map (IsFit count) (λ d. d < n) (comes_from_somewhere w set a) (λ d low. comes_fits a d in' low) (centres w) each_centre) (member_numbers w set) each_number in
        let five = each-flat_map (IsFit count) (λ a. a < length (members_of w set)) (λ a. flat_map (λ p. map (has_them_itself w set a p) (others w p)) (centres w))
        (λ a in'. each-flat_map (IsFit count) (λ p. p < n) (λ p. map (has_them_itself w set a p) (others w p))
        (λ p low. each-map (IsFit count) (λ d. (d < n) × (not (p == d) ≡ true)) (has_them_itself w set a p) (λ d is. itself_fits a p d in' low is.0 is.1) (others w p) (each-kept (λ d. (d < n) × (not (p == d) ≡ true)) (λ d. not (p == d)) 0 n (λ d from to is. (omega arith, is)))) (centres w) each_centre)
        (member_numbers w set) each_number in
        let six = each-flat_map (IsFit count) (λ a. a < length (members_of w set)) (λ a. map (writes_a_replica w set a) (centres w)) (λ a in'. each-map (IsFit count) (λ p. p < n) (writes_a_replica w set a) (λ p low. writes_fit a p in' low) (centres w) each_centre) (member_numbers w set) each_number in
        let seven = each-map (IsFit count) (λ (am : ℕ × Demand). am.0 < length (members_of w set)) (writes_near w set) (λ am low. enough_fit am.0 am.1 low) (numbered_members w set) numbered in
        each-append (IsFit count) _ _ (each-append (IsFit count) _ _ (each-append (IsFit count) _ _ four five) six) seven

    relay_fit : AllByRecursion (IsFit count) (relay_rows w set)
    relay_fit = each-append (IsFit count) (reading_rows w set) (hop_rows w set) (reading_fit (omega (arith, enough))) hops_fit

  -- the mode's rows are in order
  pub mode-fit : length (mode_costs w set) ≤ count → (m : Mode) → (rule_of w set).mode ≡ m → AllByRecursion (IsFit count) (rows_by m w set)
  mode-fit enough mode.Direct is = direct_fit (omega (arith, enough, direct-count w set is))
  mode-fit enough mode.Relay is = relay_fit (omega (arith, enough, relay-count w set is))
  mode-fit enough mode.Strong is = tt

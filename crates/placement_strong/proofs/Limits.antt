-- The program of a strong set keeps the limits of programs.
use Rattle.std.proofs.Common.{◌≡◌, ℕ, ◌+◌, ◌*◌, ◌≤◌, inl, inr, Bool, true, false, cond, List, [], ◌∷◌, ◌++◌, length, map, refl, sym, ap, subst, ◌∙◌, arith}
use Rattle.std.specs.List.{flat_map, AllByRecursion}
use Rattle.std.proofs.lemmas.Nat.{mul-le}
use Rattle.std.proofs.lemmas.List.{length-map, length-append}
use Rattle.std.proofs.lemmas.List.Elements.{All-from_recursion}
use Rattle.std.proofs.lemmas.List.Sums.{sum_by-le, length-filter, count_by-le-length}
use Rattle.std.proofs.lemmas.List.FromFn.{length-range_with_len, length-enumerate_from}
use Rattle.workload.specs.World.{Lists, centre_count}
use Rattle.workload.proofs.Worlds.{length-rows}
use Rattle.zero_one.specs.declared.rows.Row.{Row}
use Rattle.zero_one.specs.declared.programs.ProgramFault.{ProgramFault}
use Rattle.zero_one.specs.declared.programs.ProgramFault.TheVariants.{NoSuchVar, Unsorted, Limit}
use Rattle.zero_one.specs.Rows.{KnowsItsVars, row_weight, weight_of}
use Rattle.zero_one.specs.Faults.{HasFault}
use Rattle.placement_rows.specs.Centres.{centres}
use Rattle.placement_rows.specs.Providers.{is_first_of_provider, providers, numbered_providers, asks_providers, provider_costs, keeps_replica, enough_providers, provider_rows}
use Rattle.placement_rows.proofs.Each.{each-append, each-weaker}
use Rattle.placement_rows.proofs.Fits.{IsFit, provider-rows-fit, at_place}
use Rattle.placement_strong.specs.Variables.{member_count, members, pairs, strong_costs}
use Rattle.placement_strong.specs.Rows.{meets, meets_within, writes, writes_meet, writes_meet_within, reads_replica, writes_replica, numbered_pairs, strong_rows, keeping}
use Rattle.placement_strong.specs.Programs.{set_costs, set_rows}
use Rattle.placement_strong.specs.Laws.{IsStrongSet}
use Rattle.placement_strong.proofs.Pieces.{length-blocks_of}
use Rattle.placement_strong.proofs.Keeping.{keeping_rises, keeping_below, keeping_few}
use Rattle.placement_strong.proofs.Pairs.{few-pairs}
use Rattle.placement_strong.proofs.RowsFit.{strong-rows-fit}
use Rattle.placement_strong.proofs.Sizes.{variables}
use Rattle.placement_strong.proofs.StrongSets.{set_within, few_members}

few_providers : (w : Lists) → length (providers w) ≤ centre_count w
few_providers w = omega (arith, length-filter (is_first_of_provider w) (centres w), count_by-le-length (is_first_of_provider w) (centres w), length-range_with_len 0 (centre_count w))

long_costs : (w : Lists) (asks : Bool) → length {A = ℕ} (cond asks (map (λ (e : ℕ). 0) (providers w)) []) ≡ cond asks (length (providers w)) 0
long_costs w true = let nothing : ℕ → ℕ = λ e. 0 in length-map (providers w) nothing
long_costs w false = refl

long_rows : (w : Lists) (set first : ℕ) (keeping : List (ℕ × ℕ)) (asks : Bool) → length (cond asks (map (keeps_replica w keeping) (numbered_providers w first) ++ enough_providers w set first ∷ []) []) ≤ length (providers w) + 1
long_rows w set first keeping true = omega (arith, length-append (map (keeps_replica w keeping) (numbered_providers w first)) (enough_providers w set first ∷ []), length-map (numbered_providers w first) (keeps_replica w keeping), length-enumerate_from first (providers w))
long_rows w set first keeping false = omega arith

-- how many variables a set's program has
pub set_variables : (w : Lists) (set : ℕ) → length (set_costs w set) ≡ length (strong_costs w set) + cond (asks_providers w set) (length (providers w)) 0
set_variables w set = length-append (strong_costs w set) (provider_costs w set) ∙ ap (λ k. length (strong_costs w set) + k) (long_costs w (asks_providers w set))

module _ (w : Lists) (set : ℕ) (s : IsStrongSet w set) where
  providers_fit : (asks : Bool) → AllByRecursion (IsFit (length (strong_costs w set) + cond asks (length (providers w)) 0)) (cond asks (map (keeps_replica w (keeping w set)) (numbered_providers w (length (strong_costs w set))) ++ enough_providers w set (length (strong_costs w set)) ∷ []) [])
  providers_fit false = tt
  providers_fit true =
      provider-rows-fit w set (length (strong_costs w set) + length (providers w)) (length (strong_costs w set)) (keeping w set) (keeping_rises w set) (keeping_below w set) (keeping_few w set s)
      (omega arith) (omega (arith, few_providers w, s.complete.few_centres)) (set_within w set s).rule.providers true

  all_fit : AllByRecursion (IsFit (length (set_costs w set))) (set_rows w set)
  all_fit =
      let mine = length (strong_costs w set) + cond (asks_providers w set) (length (providers w)) 0 in
      subst (λ k. AllByRecursion (IsFit k) (set_rows w set)) (sym (set_variables w set))
      (each-append (IsFit mine) (strong_rows w set) (provider_rows w set (length (strong_costs w set)) (keeping w set)) (strong-rows-fit w set s mine (omega arith)) (providers_fit (asks_providers w set)))

  strong_row_count : length (strong_rows w set) ≤ 3300
  strong_row_count =
      let n = centre_count w in
      let k = member_count w set in
      let ms = members w set in
      let ps = numbered_pairs w set in
      let one = flat_map (λ a. map (meets w set a) ms) ms in
      let two = flat_map (λ a. flat_map (λ b. flat_map (meets_within w set a b) (centres w)) ms) ms in
      let three = map (writes w set) ms in
      let four = map (writes_meet w set) ps in
      let five = flat_map (λ p. flat_map (writes_meet_within w set p) (centres w)) ps in
      let six = flat_map (λ a. map (reads_replica w a) (centres w)) ms in
      let seven = flat_map (λ a. map (writes_replica w set a) (centres w)) ms in
      let pair_rows : (a b : ℕ) → length (flat_map (meets_within w set a b) (centres w)) ≡ n * 2 =
      λ a b. length-blocks_of (meets_within w set a b) 2 (λ d. refl) (centres w) ∙ ap (λ j. j * 2) (length-range_with_len 0 n) in
      let member_rows : (a : ℕ) → length (flat_map (λ b. flat_map (meets_within w set a b) (centres w)) ms) ≡ k * (n * 2) =
      λ a. length-blocks_of (λ b. flat_map (meets_within w set a b) (centres w)) (n * 2) (pair_rows a) ms ∙ ap (λ j. j * (n * 2)) (length-range_with_len 0 k) in
      let two_rows : length two ≡ k * (k * (n * 2)) =
      length-blocks_of (λ a. flat_map (λ b. flat_map (meets_within w set a b) (centres w)) ms) (k * (n * 2)) member_rows ms ∙ ap (λ j. j * (k * (n * 2))) (length-range_with_len 0 k) in
      let five_rows : length five ≡ length (pairs k) * (n * 2) =
      length-blocks_of (λ p. flat_map (writes_meet_within w set p) (centres w)) (n * 2) (λ p. length-blocks_of (writes_meet_within w set p) 2 (λ d. refl) (centres w) ∙ ap (λ j. j * 2) (length-range_with_len 0 n)) ps
      ∙ ap (λ j. j * (n * 2)) (length-enumerate_from 0 (pairs k)) in
      let few = few_members w set s in
      let short = s.complete.few_centres in
      let twice : n * 2 ≤ 32 = omega (arith, short) in
      omega (
        arith,
        few,
        few-pairs k few,
        length-append (((((one ++ two) ++ three) ++ four) ++ five) ++ six) seven,
        length-append ((((one ++ two) ++ three) ++ four) ++ five) six,
        length-append (((one ++ two) ++ three) ++ four) five,
        length-append ((one ++ two) ++ three) four,
        length-append (one ++ two) three,
        length-append one two,
        length-rows (meets w set) k 0 k,
        mul-le k k 8 8 few few,
        two_rows,
        mul-le k (k * (n * 2)) 8 256 few (mul-le k (n * 2) 8 32 few twice),
        length-map ms (writes w set),
        length-range_with_len 0 k,
        length-map ps (writes_meet w set),
        length-enumerate_from 0 (pairs k),
        five_rows,
        mul-le (length (pairs k)) (n * 2) 28 32 (few-pairs k few) twice,
        length-rows (reads_replica w) n 0 k,
        length-rows (writes_replica w set) n 0 k,
        mul-le k n 8 16 few short,
      )

  all_rows : length (set_rows w set) ≤ 3317
  all_rows =
      omega (
        arith,
        length-append (strong_rows w set) (provider_rows w set (length (strong_costs w set)) (keeping w set)),
        strong_row_count,
        long_rows w set (length (strong_costs w set)) (keeping w set) (asks_providers w set),
        few_providers w,
        s.complete.few_centres,
      )

  all_weight : weight_of (set_rows w set) ≤ 3317 * 288
  all_weight =
      let each = All-from_recursion (λ row. row_weight row ≤ 288) (set_rows w set) (each-weaker (IsFit (length (set_costs w set))) (λ row. row_weight row ≤ 288) (λ row fit. fit.light) (set_rows w set) all_fit) in
      omega (arith, all_rows, sum_by-le row_weight 288 (set_rows w set) each)

  few_or_none : (asks : Bool) → cond asks (length (providers w)) 0 ≤ 16
  few_or_none true = omega (arith, few_providers w, s.complete.few_centres)
  few_or_none false = omega arith

  all_variables : length (set_costs w set) ≤ 1760
  all_variables =
      let n = centre_count w in
      let k = member_count w set in
      let few = few_members w set s in
      let short = s.complete.few_centres in
      let squares : k * k ≤ 64 = mul-le k k 8 8 few few in
      omega (arith, set_variables w set, variables w set, mul-le k n 8 16 few short, mul-le (k * k + length (pairs k)) n 92 16 (omega (arith, squares, few-pairs k few)) short, short, few_or_none (asks_providers w set))

-- so the making of the program finds no fault
pub no_fault : (w : Lists) (set : ℕ) → IsStrongSet w set → (costs : List ℕ) (rows : List Row) → costs ≡ set_costs w set → rows ≡ set_rows w set → (fault : ProgramFault) → HasFault costs rows fault → ⊥
no_fault w set s costs rows same same' (NoSuchVar at) has =
    let fits = subst (AllByRecursion (IsFit (length (set_costs w set)))) (sym same') (all_fit w set s) in
    has.broken.2 (subst (λ cs. KnowsItsVars (length cs) has.broken.0) (sym same) (at_place (IsFit (length (set_costs w set))) rows at has.broken.0 fits has.broken.1).known)
no_fault w set s costs rows same same' (Unsorted at) has =
    let fits = subst (AllByRecursion (IsFit (length (set_costs w set)))) (sym same') (all_fit w set s) in
    has.1.broken.2 (at_place (IsFit (length (set_costs w set))) rows at has.1.broken.0 fits has.1.broken.1).rising
no_fault w set s costs rows same same' (Limit what number) has =
    let few : length costs ≤ 1760 = omega (arith, ap length same, all_variables w set s) in
    let short : length rows ≤ 3317 = omega (arith, ap length same', all_rows w set s) in
    let light : weight_of rows ≤ 3317 * 288 = omega (arith, ap weight_of same', all_weight w set s) in
    elim has.2 [
      | inl many ↦ omega (arith, few, many.1, many.2)
      | inr rest ↦ elim rest [
        | inl long ↦ omega (arith, short, long.1, long.3)
        | inr heavy ↦ omega (arith, light, heavy.1, heavy.4)
      ]
    ]

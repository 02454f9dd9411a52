-- The program of a direct or relay set keeps the limits of programs.
use Rattle.std.proofs.Common.{◌≡◌, ℕ, ◌+◌, ◌*◌, ◌≤◌, inl, inr, Bool, true, false, cond, List, [], ◌∷◌, ◌++◌, length, map, refl, sym, ap, subst, ◌∙◌, arith}
use Rattle.std.specs.List.{AllByRecursion}
use Rattle.std.proofs.lemmas.Nat.{mul-le}
use Rattle.std.proofs.lemmas.List.{length-map, length-append}
use Rattle.std.proofs.lemmas.List.Elements.{All-from_recursion}
use Rattle.std.proofs.lemmas.List.Sums.{sum_by-le}
use Rattle.workload.specs.World.{Lists, centre_count, rule_of, members_of}
use Rattle.workload.specs.declared.rules.Mode.{Mode}
use Rattle.workload.specs.declared.rules.Mode.TheVariants as mode
use Rattle.zero_one.specs.declared.rows.Row.{Row}
use Rattle.zero_one.specs.declared.programs.ProgramFault.{ProgramFault}
use Rattle.zero_one.specs.declared.programs.ProgramFault.TheVariants.{NoSuchVar, Unsorted, Limit}
use Rattle.zero_one.specs.Rows.{KnowsItsVars, row_weight, weight_of}
use Rattle.zero_one.specs.Faults.{HasFault}
use Rattle.placement_rows.specs.Providers.{providers, numbered_providers, asks_providers, keeps_replica, enough_providers, provider_costs, provider_rows}
use Rattle.placement_relay.specs.Programs.{mode_costs, mode_rows, set_costs, set_rows, keeping}
use Rattle.placement_relay.specs.Laws.{IsEventualSet}
use Rattle.placement_rows.proofs.Fits.{IsFit, provider-rows-fit, at_place}
use Rattle.placement_rows.proofs.Each.{each-append, each-weaker}
use Rattle.placement_relay.proofs.Keeping.{keeping_rises, keeping_below, keeping_few}
use Rattle.placement_relay.proofs.Members.{set_within, direct-count, relay-count}
use Rattle.placement_relay.proofs.RowCounts.{few_providers, direct-rows, relay-rows}
use Rattle.placement_relay.proofs.RowFits.{mode-fit}

long_costs : (w : Lists) (asks : Bool) → length {A = ℕ} (cond asks (map (λ (e : ℕ). 0) (providers w)) []) ≡ cond asks (length (providers w)) 0
long_costs w true = let nothing : ℕ → ℕ = λ e. 0 in length-map (providers w) nothing
long_costs w false = refl

module _ (w : Lists) (set : ℕ) (s : IsEventualSet w set) where
  -- how many variables a set's program has
  pub set_variables : length (set_costs w set) ≡ length (mode_costs w set) + cond (asks_providers w set) (length (providers w)) 0
  set_variables = length-append (mode_costs w set) (provider_costs w set) ∙ ap (λ k. length (mode_costs w set) + k) (long_costs w (asks_providers w set))

  -- the mode's variables are those on reading at least, and few
  own_variables : (m : Mode) → (rule_of w set).mode ≡ m → (centre_count w + length (members_of w set) * centre_count w ≤ length (mode_costs w set)) × (length (mode_costs w set) ≤ 2192)
  own_variables mode.Direct is =
      let n = centre_count w in
      let k = length (members_of w set) in
      let blocks : k * n ≤ 8 * 16 = mul-le k n 8 16 (set_within w set s).few_members s.complete.few_centres in
      (omega (arith, direct-count w set is), omega (arith, direct-count w set is, blocks, s.complete.few_centres))
  own_variables mode.Relay is =
      let n = centre_count w in
      let k = length (members_of w set) in
      let blocks : k * n ≤ 8 * 16 = mul-le k n 8 16 (set_within w set s).few_members s.complete.few_centres in
      let squares : k * n * n ≤ 8 * 16 * 16 = mul-le (k * n) n (8 * 16) 16 blocks s.complete.few_centres in
      (omega (arith, relay-count w set is), omega (arith, relay-count w set is, blocks, squares, s.complete.few_centres))
  own_variables mode.Strong is = absurd (s.mode is)

  providers_fit : (asks : Bool) → AllByRecursion (IsFit (length (mode_costs w set) + cond asks (length (providers w)) 0)) (cond asks (map (keeps_replica w (keeping w)) (numbered_providers w (length (mode_costs w set))) ++ enough_providers w set (length (mode_costs w set)) ∷ []) [])
  providers_fit false = tt
  providers_fit true =
      provider-rows-fit w set (length (mode_costs w set) + length (providers w)) (length (mode_costs w set)) (keeping w) (keeping_rises w)
      (keeping_below w (length (mode_costs w set)) (omega (arith, (own_variables (rule_of w set).mode refl).0))) (keeping_few w s.complete.few_centres)
      (omega arith) (omega (arith, few_providers w, s.complete.few_centres)) (set_within w set s).rule.providers true

  all_fit : AllByRecursion (IsFit (length (set_costs w set))) (set_rows w set)
  all_fit =
      let mine = length (mode_costs w set) + cond (asks_providers w set) (length (providers w)) 0 in
      subst (λ k. AllByRecursion (IsFit k) (mode_rows w set ++ provider_rows w set (length (mode_costs w set)) (keeping w))) (sym set_variables)
      (each-append (IsFit mine) (mode_rows w set) (provider_rows w set (length (mode_costs w set)) (keeping w)) (mode-fit w set s mine (omega arith) (rule_of w set).mode refl) (providers_fit (asks_providers w set)))

  all_rows : (m : Mode) → (rule_of w set).mode ≡ m → length (set_rows w set) ≤ 3317
  all_rows mode.Direct is =
      let n = centre_count w in
      let blocks : length (members_of w set) * (3 + n) ≤ 8 * 19 = mul-le (length (members_of w set)) (3 + n) 8 19 (set_within w set s).few_members (omega (arith, s.complete.few_centres)) in
      omega (arith, direct-rows w set is, blocks, s.complete.few_centres)
  all_rows mode.Relay is =
      let n = centre_count w in
      let square : n * n ≤ 16 * 16 = mul-le n n 16 16 s.complete.few_centres s.complete.few_centres in
      let blocks : length (members_of w set) * (3 + 3 * n + n * n) ≤ 8 * 307 = mul-le (length (members_of w set)) (3 + 3 * n + n * n) 8 307 (set_within w set s).few_members (omega (arith, square, s.complete.few_centres)) in
      omega (arith, relay-rows w set is, blocks, s.complete.few_centres)
  all_rows mode.Strong is = absurd (s.mode is)

  all_weight : weight_of (set_rows w set) ≤ 3317 * 288
  all_weight =
      let each = All-from_recursion (λ row. row_weight row ≤ 288) (set_rows w set) (each-weaker (IsFit (length (set_costs w set))) (λ row. row_weight row ≤ 288) (λ row fit. fit.light) (set_rows w set) all_fit) in
      omega (arith, all_rows (rule_of w set).mode refl, sum_by-le row_weight 288 (set_rows w set) each)

  some_or_none : (asks : Bool) → cond asks (length (providers w)) 0 ≤ centre_count w
  some_or_none true = few_providers w
  some_or_none false = omega arith

  pub set_variables_at_most : length (set_costs w set) ≤ length (mode_costs w set) + centre_count w
  set_variables_at_most = omega (arith, set_variables, some_or_none (asks_providers w set))

  all_variables : length (set_costs w set) ≤ 2208
  all_variables = omega (arith, set_variables_at_most, (own_variables (rule_of w set).mode refl).1, s.complete.few_centres)

  pub reading_variables : centre_count w + length (members_of w set) * centre_count w ≤ length (set_costs w set)
  reading_variables = omega (arith, set_variables, (own_variables (rule_of w set).mode refl).0)

  -- so the making of the program finds no fault
  pub no_fault : (costs : List ℕ) (rows : List Row) → costs ≡ set_costs w set → rows ≡ set_rows w set → (fault : ProgramFault) → HasFault costs rows fault → ⊥
  no_fault costs rows same same' (NoSuchVar at) has =
      let fits = subst (AllByRecursion (IsFit (length (set_costs w set)))) (sym same') all_fit in
      has.broken.2 (subst (λ cs. KnowsItsVars (length cs) has.broken.0) (sym same) (at_place (IsFit (length (set_costs w set))) rows at has.broken.0 fits has.broken.1).known)
  no_fault costs rows same same' (Unsorted at) has =
      let fits = subst (AllByRecursion (IsFit (length (set_costs w set)))) (sym same') all_fit in
      has.1.broken.2 (at_place (IsFit (length (set_costs w set))) rows at has.1.broken.0 fits has.1.broken.1).rising
  no_fault costs rows same same' (Limit what number) has =
      let few : length costs ≤ 2208 = omega (arith, ap length same, all_variables) in
      let short : length rows ≤ 3317 = omega (arith, ap length same', all_rows (rule_of w set).mode refl) in
      let light : weight_of rows ≤ 3317 * 288 = omega (arith, ap weight_of same', all_weight) in
      elim has.2 [
        | inl many ↦ omega (arith, few, many.1, many.2)
        | inr rest ↦ elim rest [
          | inl long ↦ omega (arith, short, long.1, long.3)
          | inr heavy ↦ omega (arith, light, heavy.1, heavy.4)
        ]
      ]

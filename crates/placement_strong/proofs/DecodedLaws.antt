-- Every choice that meets the program is an allowed policy that costs at most its value.
use Rattle.std.proofs.Common.{◌≡◌, ℕ, ◌+◌, ◌*◌, ◌<◌, ◌≤◌, inl, inr, Bool, true, false, cond, ◌&&◌, List, [], ◌∷◌, ◌++◌, length, get_or, refl, sym, ap, subst, ◌∙◌, arith}
use Rattle.std.specs.List.{AllByRecursion, list_any}
use Rattle.std.proofs.lemmas.Bool.{and_parts, and_from, or_cases, or_right, cases_order}
use Rattle.std.proofs.lemmas.List.{length-map}
use Rattle.std.proofs.lemmas.List.Elements.{recursion_from_All}
use Rattle.std.proofs.lemmas.List.FromFn.{length-range_with_len, get_or-map-range_with_len}
use Rattle.span_base.specs.declared.dc_set.DcSet.{DcSet}
use Rattle.span_base.specs.DcSet.{has, centres_of, meet}
use Rattle.span_base.proofs.Sets.{has-meet, meet_comm, All-centres_of}
use Rattle.span_base.specs.declared.policy.Policy.TheVariants.{Strong}
use Rattle.span_base.specs.declared.policy.Quorum.{Quorum}
use Rattle.workload.specs.World.{Lists, centre_count, centre_of, rule_of}
use Rattle.workload.specs.declared.rules.Mode.TheVariants as mode
use Rattle.slo_rules.specs.Rules.{is_read_near, is_write_near, same_list, providers_of, union_of}
use Rattle.slo_rules.specs.Cost.{policy_cost, stored_cost, gets_cost, quorum_puts_cost}
use Rattle.zero_one.specs.Rows.{Meets, bit_of}
use Rattle.zero_one.specs.Program.{IsFeasible, value_of}
use Rattle.placement_rows.specs.Providers.{asks_providers, provider_rows}
use Rattle.placement_rows.proofs.Each.{each-split}
use Rattle.placement_rows.proofs.ProviderRows.{provider-rows-back}
use Rattle.placement_strong.specs.Variables.{member_count, members, member_at, g_var, w_var, u_var, v_var, strong_costs}
use Rattle.placement_strong.specs.Rows.{strong_rows, keeping}
use Rattle.placement_strong.specs.Programs.{set_program}
use Rattle.placement_strong.specs.Placed.{quorum_at, no_quorum, chosen_quorum, chosen_quorums, decoded}
use Rattle.placement_strong.specs.Laws.{IsDecoded}
use Rattle.placement_strong.proofs.Allowed.{IsServed, IsStrong, to_allowed}
use Rattle.placement_rows.proofs.Collected.{has-set_of, set_of-below}
use Rattle.placement_strong.proofs.CostParts.{paid, read, written, value-parts, value-set, cost-parts}
use Rattle.placement_strong.proofs.Counts.{count-range-le, count-set, set-most, sum-range-le}
use Rattle.placement_strong.proofs.Keepers.{Stands, quorums-keep}
use Rattle.placement_strong.proofs.MetRows.{Chooses, WritesMeet, rows-back}
use Rattle.placement_strong.proofs.Places.{pair-numbered}
use Rattle.placement_strong.proofs.SetTests.{below_from}
use Rattle.placement_strong.proofs.Unions.{in-union, union-in}

cons_name : (b : Bool) (name : List ℕ) (names : List (List ℕ)) → (b ≡ true → 1 ≤ length names) → 1 ≤ length (cond b names (name ∷ names))
cons_name true name names h = h refl
cons_name false name names h = omega arith

any_some : (name : List ℕ) (names : List (List ℕ)) → list_any (same_list name) names ≡ true → 1 ≤ length names
any_some name [] h = cc
any_some name (x ∷ names) h = omega arith

some_provider : (w : Lists) (ds : List ℕ) → 1 ≤ length ds → 1 ≤ length (providers_of w ds)
some_provider w [] h = absurd (omega arith)
some_provider w (d ∷ ds) h = cons_name (list_any (same_list (centre_of w d).provider) (providers_of w ds)) (centre_of w d).provider (providers_of w ds) (any_some (centre_of w d).provider (providers_of w ds))

paid-le : (b c : Bool) (cost : ℕ) → (b ≡ true → c ≡ true) → cond b cost 0 ≤ cond c cost 0
paid-le true true cost h = omega arith
paid-le true false cost h = let e = h refl in cc
paid-le false c cost h = omega arith

module _ (w : Lists) (set : ℕ) (x : List Bool) (few : centre_count w ≤ 16) (c : Chooses w set x) where
  quorums : List Quorum
  quorums = chosen_quorums w set x

  many : length quorums ≡ member_count w set
  unfolding quorums
  many = length-map (members w set) (chosen_quorum w set x) ∙ length-range_with_len 0 (member_count w set)

  quorum_is : (a : ℕ) → a < member_count w set → quorum_at quorums a ≡ chosen_quorum w set x a
  unfolding quorums
  quorum_is a low = get_or-map-range_with_len (chosen_quorum w set x) 0 (member_count w set) a a no_quorum low (omega arith)

  reads : (a d : ℕ) → a < member_count w set → d < centre_count w → has (quorum_at quorums a).read d ≡ (is_read_near w (rule_of w set) (member_at w set a).dc.0 d && bit_of x (g_var w a d))
  reads a d in' low = ap (λ q. has q.read d) (quorum_is a in') ∙ has-set_of (λ d. is_read_near w (rule_of w set) (member_at w set a).dc.0 d && bit_of x (g_var w a d)) (centre_count w) few d low

  writes : (a d : ℕ) → a < member_count w set → d < centre_count w → has (quorum_at quorums a).write d ≡ (is_write_near w (rule_of w set) (member_at w set a).dc.0 d && bit_of x (w_var w set a d))
  writes a d in' low = ap (λ q. has q.write d) (quorum_is a in') ∙ has-set_of (λ d. is_write_near w (rule_of w set) (member_at w set a).dc.0 d && bit_of x (w_var w set a d)) (centre_count w) few d low

  read_low : (a : ℕ) → a < member_count w set → (d : ℕ) → has (quorum_at quorums a).read d ≡ true → d < centre_count w
  read_low a in' d is = set_of-below (λ d. is_read_near w (rule_of w set) (member_at w set a).dc.0 d && bit_of x (g_var w a d)) (centre_count w) d (ap (λ q. has q.read d) (sym (quorum_is a in')) ∙ is)

  write_low : (a : ℕ) → a < member_count w set → (d : ℕ) → has (quorum_at quorums a).write d ≡ true → d < centre_count w
  write_low a in' d is = set_of-below (λ d. is_write_near w (rule_of w set) (member_at w set a).dc.0 d && bit_of x (w_var w set a d)) (centre_count w) d (ap (λ q. has q.write d) (sym (quorum_is a in')) ∙ is)

  read_parts : (a d : ℕ) → a < member_count w set → has (quorum_at quorums a).read d ≡ true → (is_read_near w (rule_of w set) (member_at w set a).dc.0 d ≡ true) × (bit_of x (g_var w a d) ≡ true)
  read_parts a d in' is = and_parts (is_read_near w (rule_of w set) (member_at w set a).dc.0 d) (bit_of x (g_var w a d)) (sym (reads a d in' (read_low a in' d is)) ∙ is)

  write_parts : (a d : ℕ) → a < member_count w set → has (quorum_at quorums a).write d ≡ true → (is_write_near w (rule_of w set) (member_at w set a).dc.0 d ≡ true) × (bit_of x (w_var w set a d) ≡ true)
  write_parts a d in' is = and_parts (is_write_near w (rule_of w set) (member_at w set a).dc.0 d) (bit_of x (w_var w set a d)) (sym (writes a d in' (write_low a in' d is)) ∙ is)

  in_both : (s t : DcSet) (d : ℕ) → has s d ≡ true → has t d ≡ true → has (meet s t) d ≡ true
  in_both s t d one other = has-meet s t d ∙ and_from (has s d) (has t d) one other

  -- a read set meets a write set
  meets : (a b : ℕ) → a < member_count w set → b < member_count w set → 2 * (rule_of w set).f + 1 ≤ length (centres_of (meet (quorum_at quorums a).read (quorum_at quorums b).write))
  meets a b in' in'' =
      let r = rule_of w set in
      let s = c.meeting a b in' in'' in
      let near = is_read_near w r (member_at w set a).dc.0 in
      let near' = is_write_near w r (member_at w set b).dc.0 in
      omega (
        arith,
        s.many,
        set-most (λ d. bit_of x (u_var w set a b d)) (λ d. near d && near' d) (meet (quorum_at quorums a).read (quorum_at quorums b).write) (centre_count w) few
            (λ d low close is.
            let parts = and_parts (near d) (near' d) close in
            in_both (quorum_at quorums a).read (quorum_at quorums b).write d
            (reads a d in' low ∙ and_from (near d) (bit_of x (g_var w a d)) parts.0 (s.reads d low is))
            (writes b d in'' low ∙ and_from (near' d) (bit_of x (w_var w set b d)) parts.1 (s.writes d low is))),
      )

  -- a write set meets itself, and a later one
  meets_itself : (a : ℕ) → a < member_count w set → 2 * (rule_of w set).f + 1 ≤ length (centres_of (meet (quorum_at quorums a).write (quorum_at quorums a).write))
  meets_itself a in' =
      let near = is_write_near w (rule_of w set) (member_at w set a).dc.0 in
      omega (
        arith,
        (c.keeping a in').many,
        set-most (λ d. bit_of x (w_var w set a d)) near (meet (quorum_at quorums a).write (quorum_at quorums a).write) (centre_count w) few
            (λ d low close is. let here = writes a d in' low ∙ and_from (near d) (bit_of x (w_var w set a d)) close is in in_both (quorum_at quorums a).write (quorum_at quorums a).write d here here),
      )

  meets_later : (a b : ℕ) → a < b → b < member_count w set → 2 * (rule_of w set).f + 1 ≤ length (centres_of (meet (quorum_at quorums a).write (quorum_at quorums b).write))
  meets_later a b rises in'' =
      let r = rule_of w set in
      let in' : a < member_count w set = omega (arith, rises, in'') in
      let pair = pair-numbered (member_count w set) (WritesMeet w set x) c.pairs a b rises in'' in
      let s = pair.holds in
      let near = is_write_near w r (member_at w set a).dc.0 in
      let near' = is_write_near w r (member_at w set b).dc.0 in
      omega (
        arith,
        s.many,
        set-most (λ d. bit_of x (v_var w set pair.number d)) (λ d. near d && near' d) (meet (quorum_at quorums a).write (quorum_at quorums b).write) (centre_count w) few
            (λ d low close is.
            let parts = and_parts (near d) (near' d) close in
            in_both (quorum_at quorums a).write (quorum_at quorums b).write d
            (writes a d in' low ∙ and_from (near d) (bit_of x (w_var w set a d)) parts.0 (s.first d low is))
            (writes b d in'' low ∙ and_from (near' d) (bit_of x (w_var w set b d)) parts.1 (s.second d low is))),
      )

  writes_meet : (a b : ℕ) → a < member_count w set → b < member_count w set → 2 * (rule_of w set).f + 1 ≤ length (centres_of (meet (quorum_at quorums a).write (quorum_at quorums b).write))
  writes_meet a b in' in'' = elim (cases_order a b) [
    | inl same ↦ subst (λ e. 2 * (rule_of w set).f + 1 ≤ length (centres_of (meet (quorum_at quorums a).write (quorum_at quorums e).write))) same (meets_itself a in')
    | inr other ↦ elim other [
      | inl before ↦ meets_later a b before in''
      | inr after ↦ subst (λ s. 2 * (rule_of w set).f + 1 ≤ length (centres_of s)) (meet_comm (quorum_at quorums b).write (quorum_at quorums a).write) (meets_later b a after in')
    ]
  ]

  served : (a : ℕ) → a < member_count w set → IsServed w set quorums a
  served a in' = record {
    named = ap (λ q. q.dc.0) (quorum_is a in');
    read_low = read_low a in';
    write_low = write_low a in';
    read_near = λ d is. (read_parts a d in' is).0;
    write_near = λ d is. (write_parts a d in' is).0;
    meets = λ b. meets a b in';
    writes_meet = λ b. writes_meet a b in';
  }

  stands : (a : ℕ) → a < member_count w set → Stands w set x quorums a
  stands a in' = record {
    reads = λ d low. sym (reads a d in' low);
    writes = λ d low. sym (writes a d in' low);
    read_low = read_low a in';
    write_low = write_low a in';
  }

  union_low : (d : ℕ) → has (union_of quorums) d ≡ true → d < centre_count w
  union_low d is =
      let at = union-in quorums d is in
      let in' : at.at < member_count w set = omega (arith, at.low, many) in
      elim (or_cases (has (quorum_at quorums at.at).read d) (has (quorum_at quorums at.at).write d) at.among) [
        | inl reads ↦ read_low at.at in' d reads
        | inr writes ↦ write_low at.at in' d writes
      ]

  union_chosen : (d : ℕ) → has (union_of quorums) d ≡ true → bit_of x d ≡ true
  union_chosen d is =
      let at = union-in quorums d is in
      let in' : at.at < member_count w set = omega (arith, at.low, many) in
      elim (or_cases (has (quorum_at quorums at.at).read d) (has (quorum_at quorums at.at).write d) at.among) [
        | inl reads ↦ (c.keeping at.at in').reads d (read_low at.at in' d reads) (read_parts at.at d in' reads).1
        | inr writes ↦ (c.keeping at.at in').writes d (write_low at.at in' d writes) (write_parts at.at d in' writes).1
      ]

  some_replica : 1 ≤ member_count w set → 1 ≤ length (centres_of (union_of quorums))
  some_replica some =
      let write = (quorum_at quorums 0).write in
      omega (
        arith,
        meets_itself 0 some,
        count-set (meet write write),
        count-set (union_of quorums),
        count-range-le (has (meet write write)) (has (union_of quorums)) 0 16 16
            (λ d from to is. (omega arith, in-union quorums 0 d (omega (arith, many, some)) (or_right (has (quorum_at quorums 0).read d) (has write d) (and_parts (has write d) (has write d) (sym (has-meet write write d) ∙ is)).0))),
      )

  low_union : AllByRecursion (λ d. d < centre_count w) (centres_of (union_of quorums))
  low_union = recursion_from_All (λ d. d < centre_count w) (centres_of (union_of quorums)) (λ i d within. union_low (get_or (centres_of (union_of quorums)) i d) (All-centres_of (union_of quorums) i d within))

  apart : 1 ≤ member_count w set → AllByRecursion (Meets x) (provider_rows w set (length (strong_costs w set)) (keeping w set)) → (rule_of w set).providers ≤ length (providers_of w (centres_of (union_of quorums)))
  apart some met =
      provider-rows-back w set x (length (strong_costs w set)) (keeping w set) (centres_of (union_of quorums)) (quorums-keep w set x quorums many stands) low_union
      (some_provider w (centres_of (union_of quorums)) (some_replica some)) (asks_providers w set) refl met

  strong : (rule_of w set).providers ≤ length (providers_of w (centres_of (union_of quorums))) → IsStrong w set (rule_of w set).f (union_of quorums) quorums
  strong spread = record {
    failures = refl;
    many = many;
    served = served;
    union = refl;
    lies = below_from (centre_count w) (union_of quorums) union_low;
    apart = spread;
  }

  costs : IsStrong w set (rule_of w set).f (union_of quorums) quorums → policy_cost w set (Strong (rule_of w set).f (union_of quorums) quorums) ≤ value_of (strong_costs w set) x
  costs s =
      let n = centre_count w in
      let k = member_count w set in
      let r = rule_of w set in
      let one = sum-range-le (paid (has (union_of quorums)) (stored_cost w r)) (paid (bit_of x) (stored_cost w r)) 0 n (λ d from to. paid-le (has (union_of quorums) d) (bit_of x d) (stored_cost w r d) (union_chosen d)) in
      let two = sum-range-le (read w set (λ a. has (quorum_at quorums a).read)) (read w set (λ a d. bit_of x (g_var w a d))) 0 k
      (λ a from to. sum-range-le (paid (has (quorum_at quorums a).read) (gets_cost w r (member_at w set a))) (paid (λ d. bit_of x (g_var w a d)) (gets_cost w r (member_at w set a))) 0 n
      (λ d from' to'. paid-le (has (quorum_at quorums a).read d) (bit_of x (g_var w a d)) (gets_cost w r (member_at w set a) d) (λ is. (read_parts a d (omega arith) is).1))) in
      let three = sum-range-le (written w set (λ a. has (quorum_at quorums a).write)) (written w set (λ a d. bit_of x (w_var w set a d))) 0 k
      (λ a from to. sum-range-le (paid (has (quorum_at quorums a).write) (quorum_puts_cost w r (member_at w set a))) (paid (λ d. bit_of x (w_var w set a d)) (quorum_puts_cost w r (member_at w set a))) 0 n
      (λ d from' to'. paid-le (has (quorum_at quorums a).write d) (bit_of x (w_var w set a d)) (quorum_puts_cost w r (member_at w set a) d) (λ is. (write_parts a d (omega arith) is).1))) in
      omega (arith, cost-parts w set r.f (union_of quorums) quorums few s, value-parts w set x, one, two, three)

pub feasible-decoded : (w : Lists) (set : ℕ) → centre_count w ≤ 16 → (rule_of w set).mode ≡ mode.Strong → 1 ≤ member_count w set → (x : List Bool) → IsFeasible (set_program w set) x → IsDecoded w set x
unfolding set_program decoded quorums
feasible-decoded w set few is some x feasible =
    let providers = provider_rows w set (length (strong_costs w set)) (keeping w set) in
    let met = each-split (Meets x) (strong_rows w set) providers (recursion_from_All (Meets x) (strong_rows w set ++ providers) feasible.met) in
    let c = rows-back w set x met.0 in
    let s = strong w set x few c (apart w set x few c some met.1) in
    record {
      allowed = to_allowed w set (rule_of w set).f (union_of (chosen_quorums w set x)) (chosen_quorums w set x) is s;
      cost = omega (arith, costs w set x few c s, value-set w set x);
    }

-- Every allowed policy is a choice that meets the program, at the policy's cost.
use Rattle.std.proofs.Common.{◌≡◌, ℕ, ◌+◌, ◌<◌, ◌≤◌, Bool, true, false, cond, ◌&&◌, List, [], ◌++◌, length, get_or, map, refl, sym, ap, subst, ◌∙◌, arith}
use Rattle.std.specs.List.{AllByRecursion, list_any}
use Rattle.std.proofs.lemmas.Bool.{and_parts, and_from, or_left, or_right}
use Rattle.std.proofs.lemmas.List.{length-append, length-map, get_or-append-add, get_or-map}
use Rattle.std.proofs.lemmas.List.Elements.{All-from_recursion, recursion_from_All}
use Rattle.span_base.specs.declared.dc_set.DcSet.{DcSet}
use Rattle.span_base.specs.DcSet.{has, centres_of, meet}
use Rattle.span_base.proofs.Sets.{has-meet, All-centres_of}
use Rattle.span_base.specs.declared.policy.Policy.{Policy}
use Rattle.span_base.specs.declared.policy.Policy.TheVariants.{Direct, Relay, Strong}
use Rattle.span_base.specs.declared.policy.Quorum.{Quorum}
use Rattle.workload.specs.World.{Lists, centre_count, rule_of}
use Rattle.workload.specs.declared.rules.Mode.TheVariants as mode
use Rattle.slo_rules.specs.Rules.{IsAllowed, is_read_near, is_write_near, same_provider, union_of, code_of}
use Rattle.slo_rules.specs.Cost.{policy_cost, stored_cost, gets_cost, quorum_puts_cost}
use Rattle.zero_one.specs.Rows.{Meets, bit_of}
use Rattle.zero_one.specs.Program.{IsFeasible, value_of}
use Rattle.placement_rows.specs.Providers.{asks_providers, providers, provider_costs, provider_rows, provider_bits}
use Rattle.placement_rows.proofs.Each.{each-append, each-numbered}
use Rattle.placement_rows.proofs.ProviderRows.{Keeps, no-rows, provider-rows-from}
use Rattle.placement_rows.proofs.Sums.{sum_by-range_agree}
use Rattle.placement_strong.specs.Variables.{member_count, member_at, pairs, g_var, w_var, u_var, v_var, strong_costs}
use Rattle.placement_strong.specs.Rows.{strong_rows, keeping}
use Rattle.placement_strong.specs.Programs.{set_costs, set_program}
use Rattle.placement_strong.specs.Placed.{quorum_at, strong_bits, placed}
use Rattle.placement_strong.specs.Laws.{IsPlaced}
use Rattle.placement_strong.proofs.Allowed.{IsServed, IsStrong, from_allowed, same_mode}
use Rattle.placement_strong.proofs.CostParts.{paid, read, written, value-parts, value-set, cost-parts}
use Rattle.placement_strong.proofs.Counts.{set-least}
use Rattle.placement_strong.proofs.Keepers.{Stands, quorums-keep}
use Rattle.placement_strong.proofs.MetRows.{SetsMeet, WritesMeet, HasSets, Chooses, rows-from}
use Rattle.placement_strong.proofs.Pairs.{IsPair, each-pair}
use Rattle.placement_strong.proofs.PlacedBits.{long, bit-replica, bit-read, bit-write, bit-meeting, bit-write_meeting}
use Rattle.placement_strong.proofs.SetTests.{below_all, same_centres}
use Rattle.placement_strong.proofs.Unions.{in-union}

-- the bits of providers are as many as their costs
long-providers : (w : Lists) (ds : List ℕ) (asks : Bool) → ◌≡◌ {A = ℕ} (length {A = Bool} (cond asks (map (λ e. list_any (same_provider w e) ds) (providers w)) [])) (length {A = ℕ} (cond asks (map (λ (e : ℕ). 0) (providers w)) []))
long-providers w ds true = let nothing : ℕ → ℕ = λ e. 0 in length-map (providers w) (λ e. list_any (same_provider w e) ds) ∙ sym (length-map (providers w) nothing)
long-providers w ds false = refl

guarded : (near chosen : Bool) → (chosen ≡ true → near ≡ true) → (near && chosen) ≡ chosen
guarded true chosen h = refl
guarded false true h = h refl
guarded false false h = refl

module _ (w : Lists) (set : ℕ) (f : ℕ) (replicas : DcSet) (quorums : List Quorum) (few : centre_count w ≤ 16) (strong : IsStrong w set f replicas quorums) where
  end : List Bool
  end = provider_bits w set (centres_of replicas)

  choice : List Bool
  choice = strong_bits w replicas quorums ++ end

  served : (a : ℕ) → a < member_count w set → IsServed w set quorums a
  served a in' = strong.served a in'

  replica : (d : ℕ) → d < centre_count w → bit_of choice d ≡ has replicas d
  unfolding choice
  replica = bit-replica w set replicas quorums strong.many end

  in_read : (a d : ℕ) → a < member_count w set → d < centre_count w → bit_of choice (g_var w a d) ≡ has (quorum_at quorums a).read d
  unfolding choice
  in_read = bit-read w set replicas quorums strong.many end

  in_write : (a d : ℕ) → a < member_count w set → d < centre_count w → bit_of choice (w_var w set a d) ≡ has (quorum_at quorums a).write d
  unfolding choice
  in_write = bit-write w set replicas quorums strong.many end

  in_both : (s t : DcSet) (d : ℕ) → has (meet s t) d ≡ true → (has s d ≡ true) × (has t d ≡ true)
  in_both s t d is = and_parts (has s d) (has t d) (sym (has-meet s t d) ∙ is)

  in_replicas : (a d : ℕ) → a < member_count w set → d < centre_count w → has (union_of quorums) d ≡ true → bit_of choice d ≡ true
  in_replicas a d in' low is = replica d low ∙ same_centres (union_of quorums) replicas (sym strong.union) d is

  meeting : (a b : ℕ) → a < member_count w set → b < member_count w set → SetsMeet w set choice a b
  unfolding choice
  meeting a b in' in'' =
      let n = centre_count w in
      let r = rule_of w set in
      let read = (quorum_at quorums a).read in
      let write = (quorum_at quorums b).write in
      let near : ℕ → Bool = λ d. is_read_near w r (member_at w set a).dc.0 d && is_write_near w r (member_at w set b).dc.0 d in
      let low : (d : ℕ) → has (meet read write) d ≡ true → d < n = λ d is. (served a in').read_low d (in_both read write d is).0 in
      let bit : (d : ℕ) → d < n → bit_of choice (u_var w set a b d) ≡ has (meet read write) d = λ d. bit-meeting w set replicas quorums strong.many end a b d in' in'' in
      record {
        many = omega (
          arith,
          (served a in').meets b in'',
          set-least (λ d. bit_of choice (u_var w set a b d)) near (meet read write) n low
              (λ d is. let parts = in_both read write d is in and_from (is_read_near w r (member_at w set a).dc.0 d) (is_write_near w r (member_at w set b).dc.0 d) ((served a in').read_near d parts.0) ((served b in'').write_near d parts.1))
              (λ d is. bit d (low d is) ∙ is),
        );
        reads = λ d inside is. in_read a d in' inside ∙ (in_both read write d (sym (bit d inside) ∙ is)).0;
        writes = λ d inside is. in_write b d in'' inside ∙ (in_both read write d (sym (bit d inside) ∙ is)).1;
      }

  pair_meets : (i : ℕ) → i < length (pairs (member_count w set)) → WritesMeet w set choice (i, get_or (pairs (member_count w set)) i (0, 0))
  unfolding choice
  pair_meets i in' =
      let n = centre_count w in
      let r = rule_of w set in
      let k = member_count w set in
      let p = get_or (pairs k) i (0, 0) in
      let at = All-from_recursion (IsPair k) (pairs k) (each-pair k) i (0, 0) in' in
      let first_in : p.0 < k = omega (arith, at.rises, at.low) in
      let one = (quorum_at quorums p.0).write in
      let other = (quorum_at quorums p.1).write in
      let near : ℕ → Bool = λ d. is_write_near w r (member_at w set p.0).dc.0 d && is_write_near w r (member_at w set p.1).dc.0 d in
      let low : (d : ℕ) → has (meet one other) d ≡ true → d < n = λ d is. (served p.0 first_in).write_low d (in_both one other d is).0 in
      let bit : (d : ℕ) → d < n → bit_of choice (v_var w set i d) ≡ has (meet one other) d = λ d. bit-write_meeting w set replicas quorums strong.many end i d in' in
      record {
        many = omega (
          arith,
          (served p.0 first_in).writes_meet p.1 at.low,
          set-least (λ d. bit_of choice (v_var w set i d)) near (meet one other) n low
              (λ d is. let parts = in_both one other d is in and_from (is_write_near w r (member_at w set p.0).dc.0 d) (is_write_near w r (member_at w set p.1).dc.0 d) ((served p.0 first_in).write_near d parts.0) ((served p.1 at.low).write_near d parts.1))
              (λ d is. bit d (low d is) ∙ is),
        );
        first = λ d inside is. in_write p.0 d first_in inside ∙ (in_both one other d (sym (bit d inside) ∙ is)).0;
        second = λ d inside is. in_write p.1 d at.low inside ∙ (in_both one other d (sym (bit d inside) ∙ is)).1;
      }

  has_sets : (a : ℕ) → a < member_count w set → HasSets w set choice a
  has_sets a in' =
      let n = centre_count w in
      let r = rule_of w set in
      let q = quorum_at quorums a in
      let low : (d : ℕ) → has (meet q.write q.write) d ≡ true → d < n = λ d is. (served a in').write_low d (in_both q.write q.write d is).0 in
      let in_quorums : a < length quorums = omega (arith, strong.many) in
      record {
        many = omega (
          arith,
          (served a in').writes_meet a in',
          set-least (λ d. bit_of choice (w_var w set a d)) (is_write_near w r (member_at w set a).dc.0) (meet q.write q.write) n low
              (λ d is. (served a in').write_near d (in_both q.write q.write d is).0)
              (λ d is. in_write a d in' (low d is) ∙ (in_both q.write q.write d is).0),
        );
        reads = λ d inside is. in_replicas a d in' inside (in-union quorums a d in_quorums (or_left (has q.read d) (has q.write d) (sym (in_read a d in' inside) ∙ is)));
        writes = λ d inside is. in_replicas a d in' inside (in-union quorums a d in_quorums (or_right (has q.read d) (has q.write d) (sym (in_write a d in' inside) ∙ is)));
      }

  chooses : Chooses w set choice
  chooses = record {
    meeting = meeting;
    pairs = each-numbered (WritesMeet w set choice) (0, 0) 0 (pairs (member_count w set))
        (λ i in'. subst (λ j. WritesMeet w set choice (j, get_or (pairs (member_count w set)) i (0, 0))) (let e : i ≡ 0 + i = omega arith in e) (pair_meets i in'));
    keeping = has_sets;
  }

  stands : (a : ℕ) → a < member_count w set → Stands w set choice quorums a
  stands a in' =
      let r = rule_of w set in
      let s = served a in' in
      let q = quorum_at quorums a in
      record {
        reads = λ d low.
            let near = is_read_near w r (member_at w set a).dc.0 d in
            ap (λ b. near && b) (in_read a d in' low) ∙ guarded near (has q.read d) (s.read_near d);
        writes = λ d low.
            let near = is_write_near w r (member_at w set a).dc.0 d in
            ap (λ b. near && b) (in_write a d in' low) ∙ guarded near (has q.write d) (s.write_near d);
        read_low = s.read_low;
        write_low = s.write_low;
      }

  keeps : Keeps choice (keeping w set) (centres_of replicas)
  keeps p = quorums-keep w set choice quorums strong.many stands p ∙ ap (list_any p) (sym strong.union)

  low_replicas : AllByRecursion (λ d. d < centre_count w) (centres_of replicas)
  low_replicas = recursion_from_All (λ d. d < centre_count w) (centres_of replicas) (λ i d within. below_all (centre_count w) replicas strong.lies (get_or (centres_of replicas) i d) (All-centres_of replicas i d within))

  -- the bit of a provider
  bit-provider : (asks : Bool) → (j : ℕ) → j < length (providers w)
      → bit_of (strong_bits w replicas quorums ++ cond asks (map (λ e. list_any (same_provider w e) (centres_of replicas)) (providers w)) []) (length (strong_costs w set) + j) ≡ cond asks (list_any (same_provider w (get_or (providers w) j 0)) (centres_of replicas)) false
  bit-provider asks j in' =
      let test : ℕ → Bool = λ e. list_any (same_provider w e) (centres_of replicas) in
      let rest : List Bool = cond asks (map test (providers w)) [] in
      ap (λ k. get_or (strong_bits w replicas quorums ++ rest) (k + j) false) (sym (long w set replicas quorums strong.many []))
      ∙ get_or-append-add (strong_bits w replicas quorums) rest j false
      ∙ at asks
    where
      at : (asks : Bool) → get_or (cond asks (map (λ e. list_any (same_provider w e) (centres_of replicas)) (providers w)) []) j false ≡ cond asks (list_any (same_provider w (get_or (providers w) j 0)) (centres_of replicas)) false
      at true = get_or-map (λ e. list_any (same_provider w e) (centres_of replicas)) (providers w) j 0 false in'
      at false = refl

  provider-rows : (asks : Bool) → asks_providers w set ≡ asks → AllByRecursion (Meets choice) (provider_rows w set (length (strong_costs w set)) (keeping w set))
  unfolding end choice
  provider-rows false none = subst (λ rows. AllByRecursion (Meets choice) rows) (sym (no-rows w set (length (strong_costs w set)) (keeping w set) none)) tt
  provider-rows true some =
      provider-rows-from w set choice (length (strong_costs w set)) (keeping w set) (centres_of replicas) keeps low_replicas
      (λ j in'. bit-provider (asks_providers w set) j in' ∙ ap (λ b. cond b (list_any (same_provider w (get_or (providers w) j 0)) (centres_of replicas)) false) some) strong.apart (asks_providers w set)

  pub feasible : IsFeasible (set_program w set) (placed w set (Strong f replicas quorums))
  unfolding set_program placed end choice
  feasible = record {
    bits = length-append (strong_bits w replicas quorums) end
        ∙ ap (λ k. k + length end) (long w set replicas quorums strong.many [])
        ∙ ap (λ k. length (strong_costs w set) + k) (long-providers w (centres_of replicas) (asks_providers w set))
        ∙ sym (length-append (strong_costs w set) (provider_costs w set));
    met = All-from_recursion (Meets choice) (strong_rows w set ++ provider_rows w set (length (strong_costs w set)) (keeping w set))
        (each-append (Meets choice) (strong_rows w set) (provider_rows w set (length (strong_costs w set)) (keeping w set)) (rows-from w set choice chooses) (provider-rows (asks_providers w set) refl));
  }

  pub value : value_of (set_costs w set) (placed w set (Strong f replicas quorums)) ≡ policy_cost w set (Strong f replicas quorums)
  unfolding placed end choice
  value =
      let n = centre_count w in
      let k = member_count w set in
      let r = rule_of w set in
      let one = sum_by-range_agree (paid (bit_of choice) (stored_cost w r)) (paid (has replicas) (stored_cost w r)) 0 n (λ d from to. ap (λ b. cond b (stored_cost w r d) 0) (replica d (omega arith))) in
      let two = sum_by-range_agree (read w set (λ a d. bit_of choice (g_var w a d))) (read w set (λ a. has (quorum_at quorums a).read)) 0 k
      (λ a from to. sum_by-range_agree (paid (λ d. bit_of choice (g_var w a d)) (gets_cost w r (member_at w set a))) (paid (has (quorum_at quorums a).read) (gets_cost w r (member_at w set a))) 0 n
      (λ d from' to'. ap (λ b. cond b (gets_cost w r (member_at w set a) d) 0) (in_read a d (omega arith) (omega arith)))) in
      let three = sum_by-range_agree (written w set (λ a d. bit_of choice (w_var w set a d))) (written w set (λ a. has (quorum_at quorums a).write)) 0 k
      (λ a from to. sum_by-range_agree (paid (λ d. bit_of choice (w_var w set a d)) (quorum_puts_cost w r (member_at w set a))) (paid (has (quorum_at quorums a).write) (quorum_puts_cost w r (member_at w set a))) 0 n
      (λ d from' to'. ap (λ b. cond b (quorum_puts_cost w r (member_at w set a) d) 0) (in_write a d (omega arith) (omega arith)))) in
      omega (arith, value-set w set choice, value-parts w set choice, cost-parts w set f replicas quorums few strong, one, two, three)

pub allowed-placed : (w : Lists) (set : ℕ) → centre_count w ≤ 16 → (rule_of w set).mode ≡ mode.Strong → (q : Policy) → IsAllowed w set q → IsPlaced w set q
allowed-placed w set few is (Strong f replicas quorums) allowed =
    let strong = from_allowed w set f replicas quorums allowed in
    record { feasible = feasible w set f replicas quorums few strong; value = value w set f replicas quorums few strong }
allowed-placed w set few is (Direct f replicas primary) allowed =
    let e : ◌≡◌ {A = ℕ} 1 3 = same_mode w set (Direct f replicas primary) allowed ∙ ap code_of is in cc
allowed-placed w set few is (Relay f replicas primary parent) allowed =
    let e : ◌≡◌ {A = ℕ} 2 3 = same_mode w set (Relay f replicas primary parent) allowed ∙ ap code_of is in cc

-- What strong policies load is what the variables of their sets load.
use Rattle.std.proofs.Common.{◌≡◌, ℕ, ◌+◌, ◌*◌, ◌<◌, ◌≤◌, Bool, true, cond, ◌&&◌, List, ◌++◌, length, get_or, map, sym, ap, subst, ◌∙◌, arith}
use Rattle.std.specs.List.{sum_by, zip}
use Rattle.std.proofs.lemmas.Bool.{and_parts}
use Rattle.std.proofs.lemmas.List.{length-map}
use Rattle.std.proofs.lemmas.List.FromFn.{length-range_with_len, get_or-map-range_with_len}
use Rattle.std.proofs.lemmas.List.Sums.{sum_by-append}
use Rattle.span_base.specs.declared.dc_set.DcSet.{DcSet}
use Rattle.span_base.specs.DcSet.{has, centres_of}
use Rattle.span_base.specs.declared.policy.Policy.TheVariants.{Strong}
use Rattle.span_base.specs.declared.policy.Quorum.{Quorum}
use Rattle.workload.specs.World.{Lists, centre_count, rule_of, members_of}
use Rattle.workload.specs.declared.rules.Demand.{Demand}
use Rattle.slo_rules.specs.Rules.{is_read_near, is_write_near}
use Rattle.zero_one.specs.Rows.{bit_of}
use Rattle.placement_rows.specs.Centres.{numbered_members, nobody}
use Rattle.placement_rows.specs.Providers.{provider_bits}
use Rattle.placement_rows.proofs.Collected.{has-set_of}
use Rattle.placement_rows.proofs.Growing.{sum_by-map, cond-le}
use Rattle.placement_rows.proofs.Sums.{numbered-zip, numbered-zip-le, sum_by-add}
use Rattle.placement_strong.specs.Variables.{member_count, members, member_at, g_var, w_var}
use Rattle.placement_strong.specs.Placed.{placed, strong_bits, quorum_at, no_quorum, chosen_quorum, chosen_quorums}
use Rattle.placement_strong.proofs.PlacedBits.{bit-read, bit-write}
use Rattle.joint_placement.specs.Loads.{units, quorum_load}
use Rattle.joint_placement.specs.Capacity.{strong_loads}
use Rattle.joint_placement.proofs.Borne.{borne}

-- what the variables of a member load that are 1
abbrev chosen_load : Lists → ℕ → ℕ → List Bool → ℕ → ℕ → Demand → ℕ
chosen_load w unit d x set a m = cond (bit_of x (g_var w a d)) (units unit m.gets) 0 + cond (bit_of x (w_var w set a d)) (2 * units unit m.puts) 0

strong-parts : (w : Lists) (unit d set : ℕ) (x : List Bool) → borne (strong_loads w unit d set) x ≡ sum_by (λ am. chosen_load w unit d x set am.0 am.1) (numbered_members w set)
strong-parts w unit d set x =
    let load : ℕ × ℕ → ℕ = λ load. cond (bit_of x load.0) load.1 0 in
    let read : ℕ × Demand → ℕ × ℕ = λ am. (g_var w am.0 d, units unit am.1.gets) in
    let write : ℕ × Demand → ℕ × ℕ = λ am. (w_var w set am.0 d, 2 * units unit am.1.puts) in
    let all = numbered_members w set in
    sum_by-append load (map read all) (map write all)
    ∙ ap (λ n. n + sum_by load (map write all)) (sum_by-map load read all)
    ∙ ap (λ n. sum_by (λ am. load (read am)) all + n) (sum_by-map load write all)
    ∙ sym (sum_by-add (λ am. load (read am)) (λ am. load (write am)) all)

-- what a strong policy loads
pub strong-load : (w : Lists) (unit d set : ℕ) (f : ℕ) (replicas : DcSet) (quorums : List Quorum) → d < centre_count w → length quorums ≡ member_count w set
    → borne (strong_loads w unit d set) (placed w set (Strong f replicas quorums)) ≡ sum_by (λ pair. quorum_load unit d pair.0 pair.1) (zip (members_of w set) quorums)
unfolding placed
strong-load w unit d set f replicas quorums low many =
    let end = provider_bits w set (centres_of replicas) in
    let x = strong_bits w replicas quorums ++ end in
    let members = members_of w set in
    strong-parts w unit d set x
    ∙ numbered-zip (chosen_load w unit d x set) (quorum_load unit d) nobody no_quorum 0 members quorums (sym many)
    (λ k in'.
    let m = get_or members k nobody in
    ap (λ a. chosen_load w unit d x set a m) (let e : 0 + k ≡ k = omega arith in e)
    ∙ ap (λ b. cond b (units unit m.gets) 0 + cond (bit_of x (w_var w set k d)) (2 * units unit m.puts) 0) (bit-read w set replicas quorums many end k d in' low)
    ∙ ap (λ b. cond (has (quorum_at quorums k).read d) (units unit m.gets) 0 + cond b (2 * units unit m.puts) 0) (bit-write w set replicas quorums many end k d in' low))

module _ (w : Lists) (set : ℕ) (x : List Bool) (few : centre_count w ≤ 16) where
  many : length (chosen_quorums w set x) ≡ member_count w set
  many = length-map (members w set) (chosen_quorum w set x) ∙ length-range_with_len 0 (member_count w set)

  quorum_is : (a : ℕ) → a < member_count w set → quorum_at (chosen_quorums w set x) a ≡ chosen_quorum w set x a
  quorum_is a in' = get_or-map-range_with_len (chosen_quorum w set x) 0 (member_count w set) a a no_quorum in' (omega arith)

  -- a centre of a quorum of the choice's policy has its variable 1
  read_chosen : (a d : ℕ) → a < member_count w set → d < centre_count w → has (quorum_at (chosen_quorums w set x) a).read d ≡ true → bit_of x (g_var w a d) ≡ true
  read_chosen a d in' low is =
      let near : ℕ → Bool = λ e. is_read_near w (rule_of w set) (member_at w set a).dc.0 e && bit_of x (g_var w a e) in
      (and_parts (is_read_near w (rule_of w set) (member_at w set a).dc.0 d) (bit_of x (g_var w a d)) (sym (has-set_of near (centre_count w) few d low) ∙ sym (ap (λ (q : Quorum). has q.read d) (quorum_is a in')) ∙ is)).1

  write_chosen : (a d : ℕ) → a < member_count w set → d < centre_count w → has (quorum_at (chosen_quorums w set x) a).write d ≡ true → bit_of x (w_var w set a d) ≡ true
  write_chosen a d in' low is =
      let near : ℕ → Bool = λ e. is_write_near w (rule_of w set) (member_at w set a).dc.0 e && bit_of x (w_var w set a e) in
      (and_parts (is_write_near w (rule_of w set) (member_at w set a).dc.0 d) (bit_of x (w_var w set a d)) (sym (has-set_of near (centre_count w) few d low) ∙ sym (ap (λ (q : Quorum). has q.write d) (quorum_is a in')) ∙ is)).1

  -- what the policy of a choice loads is at most what the choice does
  pub chosen-load : (unit d : ℕ) → d < centre_count w → sum_by (λ pair. quorum_load unit d pair.0 pair.1) (zip (members_of w set) (chosen_quorums w set x)) ≤ borne (strong_loads w unit d set) x
  chosen-load unit d low =
      let members = members_of w set in
      let quorums = chosen_quorums w set x in
      let below = numbered-zip-le (chosen_load w unit d x set) (quorum_load unit d) nobody no_quorum 0 members quorums (sym many)
      (λ k in'.
      let m = get_or members k nobody in
      let at : 0 + k ≡ k = omega arith in
      let reads = cond-le (has (quorum_at quorums k).read d) (bit_of x (g_var w k d)) (units unit m.gets) (read_chosen k d in' low) in
      let writes = cond-le (has (quorum_at quorums k).write d) (bit_of x (w_var w set k d)) (2 * units unit m.puts) (write_chosen k d in' low) in
      let both : quorum_load unit d m (quorum_at quorums k) ≤ chosen_load w unit d x set k m = omega (arith, reads, writes) in
      subst (λ a. quorum_load unit d m (quorum_at quorums k) ≤ chosen_load w unit d x set a m) (sym at) both) in
      omega (arith, strong-parts w unit d set x, below)

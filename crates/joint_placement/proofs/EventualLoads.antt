-- What direct and relay policies load is what the variables of their sets load.
use Rattle.std.proofs.Common.{◌≡◌, ℕ, ◌+◌, ◌<◌, ◌≤◌, Bool, true, false, cond, ◌==◌, List, ◌++◌, length, get_or, map, refl, sym, ap, subst, ◌∙◌, arith, append_assoc}
use Rattle.std.specs.List.{sum_by}
use Rattle.std.proofs.lemmas.List.Sums.{sum_by-cons}
use Rattle.span_base.specs.declared.dc_set.DcSet.{DcSet}
use Rattle.span_base.specs.DcSet.{has, centres_of}
use Rattle.span_base.specs.declared.policy.Policy.TheVariants.{Direct, Relay}
use Rattle.span_base.specs.declared.policy.Near.{Near}
use Rattle.span_base.specs.declared.policy.Hop.{Hop}
use Rattle.workload.specs.World.{Lists, centre_count, members_of}
use Rattle.workload.specs.declared.rules.Demand.{Demand}
use Rattle.zero_one.specs.Rows.{bit_of}
use Rattle.placement_rows.specs.Centres.{numbered_members, nobody}
use Rattle.placement_rows.specs.Providers.{provider_bits}
use Rattle.placement_rows.proofs.Growing.{sum_by-map, cond-le}
use Rattle.placement_rows.proofs.Sums.{numbered-zip, numbered-zip-le, sum_by-none}
use Rattle.placement_relay.specs.Reading.{h}
use Rattle.placement_relay.specs.Placed.{placed, reading_bits, hop_bits, chosen_replicas, chosen_primaries}
use Rattle.placement_relay.proofs.MetRows.{Reads}
use Rattle.placement_relay.proofs.Serving.{IsServing}
use Rattle.placement_relay.proofs.ReadingBits.{nowhere, bit-replica, bit-primary}
use Rattle.placement_relay.proofs.PlacedReading.{same_long}
use Rattle.placement_relay.proofs.DecodedReading.{has-chosen, primary-read}
use Rattle.joint_placement.specs.Loads.{units, get_load, eventual_load}
use Rattle.joint_placement.specs.Capacity.{eventual_loads}
use Rattle.joint_placement.proofs.Borne.{borne}

-- what all puts load where one test holds for them all
puts-together : (b : Bool) (f : Demand → ℕ) (members : List Demand) → sum_by (λ m. cond b (f m) 0) members ≡ cond b (sum_by f members) 0
puts-together true f members = refl
puts-together false f members = sum_by-none members

-- what the variables that are 1 load: a replica the puts, and each member's reading its gets
abbrev chosen_load : Lists → ℕ → ℕ → List Bool → ℕ → ℕ → Demand → ℕ
chosen_load w unit d x set a m = cond (bit_of x (h w a d)) (units unit m.gets) 0

eventual-parts : (w : Lists) (unit d set : ℕ) (x : List Bool)
    → borne (eventual_loads w unit d set) x ≡ cond (bit_of x d) (sum_by (λ m. units unit m.puts) (members_of w set)) 0 + sum_by (λ am. chosen_load w unit d x set am.0 am.1) (numbered_members w set)
eventual-parts w unit d set x =
    let reads = map (λ (am : ℕ × Demand). (h w am.0 d, units unit am.1.gets)) (numbered_members w set) in
    sum_by-cons (λ (load : ℕ × ℕ). cond (bit_of x load.0) load.1 0) (d, sum_by (λ m. units unit m.puts) (members_of w set)) reads
    ∙ ap (λ n. cond (bit_of x d) (sum_by (λ m. units unit m.puts) (members_of w set)) 0 + n)
    (sum_by-map (λ (load : ℕ × ℕ). cond (bit_of x load.0) load.1 0) (λ (am : ℕ × Demand). (h w am.0 d, units unit am.1.gets)) (numbered_members w set))

-- where the bits are those of replicas and primaries, the loads are theirs
same-load : (w : Lists) (unit d set : ℕ) (replicas : DcSet) (primary : List Near) (x : List Bool) → length (members_of w set) ≡ length primary → bit_of x d ≡ has replicas d
    → ((a : ℕ) → a < length (members_of w set) → bit_of x (h w a d) ≡ ((get_or primary a nowhere).at.0 == d))
    → borne (eventual_loads w unit d set) x ≡ eventual_load unit d (members_of w set) replicas primary
same-load w unit d set replicas primary x same kept near =
    let members = members_of w set in
    let gets = numbered-zip (chosen_load w unit d x set) (get_load unit d) nobody nowhere 0 members primary same
    (λ k in'. ap (λ a. cond (bit_of x (h w a d)) (units unit (get_or members k nobody).gets) 0) (let e : 0 + k ≡ k = omega arith in e) ∙ ap (λ b. cond b (units unit (get_or members k nobody).gets) 0) (near k in')) in
    let puts = ap (λ b. cond b (sum_by (λ m. units unit m.puts) members) 0) kept ∙ sym (puts-together (has replicas d) (λ m. units unit m.puts) members) in
    omega (arith, eventual-parts w unit d set x, gets, puts)

-- what a direct policy loads
pub direct-load : (w : Lists) (unit d set : ℕ) (f : ℕ) (replicas : DcSet) (primary : List Near) → d < centre_count w → IsServing w set replicas primary
    → borne (eventual_loads w unit d set) (placed w set (Direct f replicas primary)) ≡ eventual_load unit d (members_of w set) replicas primary
unfolding placed
direct-load w unit d set f replicas primary low serving =
    let end = provider_bits w set (centres_of replicas) in
    let same = same_long w set replicas primary serving in
    same-load w unit d set replicas primary (reading_bits w replicas primary ++ end) same (bit-replica w replicas primary end d low) (λ a in'. bit-primary w replicas primary end a d (omega (arith, same)) low)

-- what a relay policy loads
pub relay-load : (w : Lists) (unit d set : ℕ) (f : ℕ) (replicas : DcSet) (primary : List Near) (hops : List Hop) → d < centre_count w → IsServing w set replicas primary
    → borne (eventual_loads w unit d set) (placed w set (Relay f replicas primary hops)) ≡ eventual_load unit d (members_of w set) replicas primary
unfolding placed
relay-load w unit d set f replicas primary hops low serving =
    let end = hop_bits w set hops ++ provider_bits w set (centres_of replicas) in
    let same = same_long w set replicas primary serving in
    let whole = append_assoc (reading_bits w replicas primary) (hop_bits w set hops) (provider_bits w set (centres_of replicas)) in
    ap (borne (eventual_loads w unit d set)) whole
    ∙ same-load w unit d set replicas primary (reading_bits w replicas primary ++ end) same (bit-replica w replicas primary end d low) (λ a in'. bit-primary w replicas primary end a d (omega (arith, same)) low)

-- what the policy of a choice loads is at most what the choice does
pub chosen-load : (w : Lists) (unit d set : ℕ) (x : List Bool) → centre_count w ≤ 16 → d < centre_count w → Reads w set x → length (members_of w set) ≡ length (chosen_primaries w set x)
    → eventual_load unit d (members_of w set) (chosen_replicas w x) (chosen_primaries w set x) ≤ borne (eventual_loads w unit d set) x
chosen-load w unit d set x few low reads same =
    let members = members_of w set in
    let primary = chosen_primaries w set x in
    let gets = numbered-zip-le (chosen_load w unit d x set) (get_load unit d) nobody nowhere 0 members primary same
    (λ k in'.
    let at : 0 + k ≡ k = omega arith in
    let count = units unit (get_or members k nobody).gets in
    let less = cond-le ((get_or primary k nowhere).at.0 == d) (bit_of x (h w k d)) count (primary-read w set x few reads k d in') in
    subst (λ a. cond ((get_or primary k nowhere).at.0 == d) count 0 ≤ cond (bit_of x (h w a d)) count 0) (sym at) less) in
    let puts = puts-together (has (chosen_replicas w x) d) (λ m. units unit m.puts) members ∙ ap (λ b. cond b (sum_by (λ m. units unit m.puts) members) 0) (has-chosen w set x few d low) in
    omega (arith, eventual-parts w unit d set x, gets, puts)

-- What it means that a choice meets the rows on reading, and those of a direct set.
use Rattle.std.proofs.Common.{◌≡◌, ℕ, ◌+◌, ◌<◌, ◌≤◌, Bool, true, List, ◌++◌, length, get_or, map, subst, arith}
use Rattle.std.specs.List.{count_by, AllByRecursion, flat_map}
use Rattle.workload.specs.World.{Lists, centre_count, rule_of, members_of}
use Rattle.workload.specs.declared.rules.Demand.{Demand}
use Rattle.zero_one.specs.declared.rows.Row.{Row}
use Rattle.zero_one.specs.Rows.{Meets, bit_of}
use Rattle.placement_rows.specs.Centres.{centres, member_numbers, numbered_members, read_near, write_near, nobody}
use Rattle.placement_relay.specs.Reading.{h, reads_somewhere, reads_a_replica, has_replicas, reading_rows}
use Rattle.placement_relay.specs.Direct.{direct_rows}
use Rattle.placement_rows.proofs.Each.{each-append, each-split, each-map, each-map_back, each-flat_map, each-flat_map_back, each-range, each-range_at, each-numbered, each-numbered_at}
use Rattle.placement_rows.proofs.Values.{meets-plus, meets-plus-back, meets-under, meets-under-back}

-- more than `f` of these centres keep a replica by the choice, for each member
abbrev pub Enough : Lists → ℕ → List Bool → (Demand → List ℕ) → Type 0
Enough w set x near = AllByRecursion (λ m. (rule_of w set).f + 1 ≤ count_by (bit_of x) (near m)) (members_of w set)

-- each member reads somewhere near, at replicas, and enough replicas are near to it
pub record Reads (w : Lists) (set : ℕ) (x : List Bool) : Type 0 where
  pub somewhere : (a : ℕ) → a < length (members_of w set) → 1 ≤ count_by (λ d. bit_of x (h w a d)) (read_near w set (get_or (members_of w set) a nobody))
  pub replica : (a d : ℕ) → a < length (members_of w set) → d < centre_count w → bit_of x (h w a d) ≡ true → bit_of x d ≡ true
  pub reading : Enough w set x (read_near w set)

module _ (w : Lists) (set : ℕ) (x : List Bool) where
  near_rows : (Demand → List ℕ) → List Row
  near_rows near = map (λ m. has_replicas w set (near m)) (members_of w set)

  enough-from : (near : Demand → List ℕ) → Enough w set x near → AllByRecursion (Meets x) (near_rows near)
  unfolding near_rows
  enough-from near all =
      let least = (rule_of w set).f + 1 in
      each-map (Meets x) (λ m. least ≤ count_by (bit_of x) (near m)) (λ m. has_replicas w set (near m)) (λ m many. meets-plus x (λ d. d) (near m) least many) (members_of w set) all

  enough-back : (near : Demand → List ℕ) → AllByRecursion (Meets x) (near_rows near) → Enough w set x near
  unfolding near_rows
  enough-back near all =
      let least = (rule_of w set).f + 1 in
      each-map_back (Meets x) (λ m. least ≤ count_by (bit_of x) (near m)) (λ m. has_replicas w set (near m)) (λ m met. meets-plus-back x (λ d. d) (near m) least met) (members_of w set) all

  reads : ℕ × Demand → Type 0
  reads am = 1 ≤ count_by (λ d. bit_of x (h w am.0 d)) (read_near w set am.1)

  keeps : ℕ → ℕ → Type 0
  keeps a d = bit_of x (h w a d) ≡ true → bit_of x d ≡ true

  pub reading-from : Reads w set x → AllByRecursion (Meets x) (reading_rows w set)
  unfolding near_rows reads keeps
  reading-from c =
      let members = members_of w set in
      let n = centre_count w in
      let one = each-map (Meets x) reads (reads_somewhere w set) (λ am many. meets-plus x (λ d. h w am.0 d) (read_near w set am.1) 1 many) (numbered_members w set)
      (each-numbered reads nobody 0 members (λ k in'. subst (λ b. reads (b, get_or members k nobody)) (let e : k ≡ 0 + k = omega arith in e) (c.somewhere k in'))) in
      let two = each-flat_map (Meets x) (λ a. (d : ℕ) → d < n → keeps a d) (λ a. map (reads_a_replica w a) (centres w))
      (λ a kept. each-map (Meets x) (keeps a) (reads_a_replica w a) (λ d only. meets-under x d (h w a d) only) (centres w) (each-range (keeps a) 0 n (λ d low high. kept d (omega arith))))
      (member_numbers w set)
      (each-range (λ a. (d : ℕ) → d < n → keeps a d) 0 (length members) (λ a low high d below. c.replica a d (omega arith) below)) in
      each-append (Meets x) _ _ (each-append (Meets x) _ _ one two) (enough-from (read_near w set) c.reading)

  pub reading-back : AllByRecursion (Meets x) (reading_rows w set) → Reads w set x
  unfolding near_rows reads keeps
  reading-back all =
      let members = members_of w set in
      let n = centre_count w in
      let one_rows = map (reads_somewhere w set) (numbered_members w set) in
      let two_rows = flat_map (λ a. map (reads_a_replica w a) (centres w)) (member_numbers w set) in
      let b = each-split (Meets x) (one_rows ++ two_rows) (near_rows (read_near w set)) all in
      let c = each-split (Meets x) one_rows two_rows b.0 in
      let one = each-map_back (Meets x) reads (reads_somewhere w set) (λ am met. meets-plus-back x (λ d. h w am.0 d) (read_near w set am.1) 1 met) (numbered_members w set) c.0 in
      let two = each-flat_map_back (Meets x) (λ a. (d : ℕ) → d < n → keeps a d) (λ a. map (reads_a_replica w a) (centres w))
      (λ a met d high. each-range_at (keeps a) 0 n (each-map_back (Meets x) (keeps a) (reads_a_replica w a) (λ d met. meets-under-back x d (h w a d) met) (centres w) met) d (omega arith) (omega arith))
      (member_numbers w set) c.1 in
      record {
        somewhere = λ k in'. subst (λ b. reads (b, get_or members k nobody)) (let e : 0 + k ≡ k = omega arith in e) (each-numbered_at reads nobody 0 members one k in');
        replica = λ a d in'. each-range_at (λ a. (d : ℕ) → d < n → keeps a d) 0 (length members) two a (omega arith) (omega arith) d;
        reading = enough-back (read_near w set) b.1;
      }

  pub direct-from : Reads w set x → Enough w set x (write_near w set) → AllByRecursion (Meets x) (direct_rows w set)
  unfolding near_rows
  direct-from reads many = each-append (Meets x) (reading_rows w set) (near_rows (write_near w set)) (reading-from reads) (enough-from (write_near w set) many)

  pub direct-back : AllByRecursion (Meets x) (direct_rows w set) → Reads w set x × Enough w set x (write_near w set)
  unfolding near_rows
  direct-back all =
      let parts = each-split (Meets x) (reading_rows w set) (near_rows (write_near w set)) all in
      (reading-back parts.0, enough-back (write_near w set) parts.1)

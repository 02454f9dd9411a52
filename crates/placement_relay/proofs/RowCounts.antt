-- How many rows a program has.
use Rattle.std.proofs.Common.{◌≡◌, ℕ, ◌+◌, ◌*◌, ◌==◌, ◌≤◌, not, Bool, true, false, cond, [], ◌∷◌, ◌++◌, length, map, ap, arith}
use Rattle.std.specs.List.{flat_map}
use Rattle.std.proofs.lemmas.List.{length-map, length-append}
use Rattle.std.proofs.lemmas.List.Sums.{length-filter, count_by-le-length}
use Rattle.std.proofs.lemmas.List.FromFn.{length-range_with_len, length-enumerate_from}
use Rattle.workload.specs.World.{Lists, centre_count, rule_of, members_of}
use Rattle.workload.specs.declared.rules.Mode.TheVariants as mode
use Rattle.placement_rows.specs.Centres.{centres, member_numbers, numbered_members, read_near, write_near}
use Rattle.placement_rows.specs.Providers.{is_first_of_provider, providers, numbered_providers, asks_providers, keeps_replica, enough_providers, provider_rows}
use Rattle.placement_relay.specs.Reading.{reads_somewhere, reads_a_replica, has_replicas, reading_rows}
use Rattle.placement_relay.specs.Direct.{direct_rows}
use Rattle.placement_relay.specs.Relay.{comes_from_somewhere, has_them_itself, others, writes_a_replica, writes_near, relay_rows}
use Rattle.placement_relay.specs.Programs.{rows_by, mode_rows, mode_costs, set_rows, keeping}
use Rattle.placement_rows.proofs.Sums.{length-blocks}
use Rattle.placement_rows.proofs.Pieces.{length-pieces-le}

pub few_providers : (w : Lists) → length (providers w) ≤ centre_count w
few_providers w = omega (arith, length-filter (is_first_of_provider w) (centres w), count_by-le-length (is_first_of_provider w) (centres w), length-range_with_len 0 (centre_count w))

provider-rows : (w : Lists) (set first : ℕ) (asks : Bool) → length (cond asks (map (keeps_replica w (keeping w)) (numbered_providers w first) ++ enough_providers w set first ∷ []) []) ≤ centre_count w + 1
provider-rows w set first true = omega (arith, few_providers w, length-append (map (keeps_replica w (keeping w)) (numbered_providers w first)) (enough_providers w set first ∷ []), length-map (numbered_providers w first) (keeps_replica w (keeping w)), length-enumerate_from first (providers w))
provider-rows w set first false = omega arith

module _ (w : Lists) (set : ℕ) where
  reading-count : length (reading_rows w set) ≡ 2 * length (members_of w set) + length (members_of w set) * centre_count w
  reading-count =
      let members = members_of w set in
      let n = centre_count w in
      let one = map (reads_somewhere w set) (numbered_members w set) in
      let two = flat_map (λ a. map (reads_a_replica w a) (centres w)) (member_numbers w set) in
      let three = map (λ m. has_replicas w set (read_near w set m)) members in
      omega (
        arith,
        length-append (one ++ two) three,
        length-append one two,
        length-map (numbered_members w set) (reads_somewhere w set),
        length-enumerate_from 0 members,
        length-blocks (reads_a_replica w) n (member_numbers w set),
        ap (λ k. k * n) (length-range_with_len 0 (length members)),
        length-map members (λ m. has_replicas w set (read_near w set m)),
      )

  direct-count : length (direct_rows w set) ≡ length (members_of w set) * (3 + centre_count w)
  direct-count =
      let members = members_of w set in
      omega (arith, reading-count, length-append (reading_rows w set) (map (λ m. has_replicas w set (write_near w set m)) members), length-map members (λ m. has_replicas w set (write_near w set m)))

  others-count : (p : ℕ) → length (others w p) ≤ centre_count w
  others-count p = omega (arith, length-filter (λ d. not (p == d)) (centres w), count_by-le-length (λ d. not (p == d)) (centres w), length-range_with_len 0 (centre_count w))

  has-count : length (flat_map (λ a. flat_map (λ p. map (has_them_itself w set a p) (others w p)) (centres w)) (member_numbers w set)) ≤ length (members_of w set) * (centre_count w * centre_count w)
  has-count =
      let n = centre_count w in
      let k = length (members_of w set) in
      let from : (a p : ℕ) → length (map (has_them_itself w set a p) (others w p)) ≤ n = λ a p. omega (arith, length-map (others w p) (has_them_itself w set a p), others-count p) in
      let each : (a : ℕ) → length (flat_map (λ p. map (has_them_itself w set a p) (others w p)) (centres w)) ≤ n * n = λ a. omega (arith, length-pieces-le (λ p. map (has_them_itself w set a p) (others w p)) n (from a) (centres w), ap (λ k. k * n) (length-range_with_len 0 n)) in
      omega (arith, length-pieces-le (λ a. flat_map (λ p. map (has_them_itself w set a p) (others w p)) (centres w)) (n * n) each (member_numbers w set), ap (λ j. j * (n * n)) (length-range_with_len 0 k))

  relay-count : length (relay_rows w set) ≤ length (members_of w set) * (3 + 3 * centre_count w + centre_count w * centre_count w)
  relay-count =
      let members = members_of w set in
      let n = centre_count w in
      let four = flat_map (λ a. map (comes_from_somewhere w set a) (centres w)) (member_numbers w set) in
      let five = flat_map (λ a. flat_map (λ p. map (has_them_itself w set a p) (others w p)) (centres w)) (member_numbers w set) in
      let six = flat_map (λ a. map (writes_a_replica w set a) (centres w)) (member_numbers w set) in
      let seven = map (writes_near w set) (numbered_members w set) in
      omega (
        arith,
        reading-count,
        has-count,
        length-append (reading_rows w set) (((four ++ five) ++ six) ++ seven),
        length-append ((four ++ five) ++ six) seven,
        length-append (four ++ five) six,
        length-append four five,
        length-blocks (comes_from_somewhere w set) n (member_numbers w set),
        length-blocks (writes_a_replica w set) n (member_numbers w set),
        ap (λ k. k * n) (length-range_with_len 0 (length members)),
        length-map (numbered_members w set) (writes_near w set),
        length-enumerate_from 0 members,
      )

  -- how many rows a program has at most
  pub direct-rows : (rule_of w set).mode ≡ mode.Direct → length (set_rows w set) ≤ length (members_of w set) * (3 + centre_count w) + centre_count w + 1
  direct-rows is =
      omega (
        arith,
        length-append (mode_rows w set) (provider_rows w set (length (mode_costs w set)) (keeping w)),
        ap (λ m. length (rows_by m w set)) is,
        direct-count,
        provider-rows w set (length (mode_costs w set)) (asks_providers w set),
      )

  pub relay-rows : (rule_of w set).mode ≡ mode.Relay → length (set_rows w set) ≤ length (members_of w set) * (3 + 3 * centre_count w + centre_count w * centre_count w) + centre_count w + 1
  relay-rows is =
      omega (
        arith,
        length-append (mode_rows w set) (provider_rows w set (length (mode_costs w set)) (keeping w)),
        ap (λ m. length (rows_by m w set)) is,
        relay-count,
        provider-rows w set (length (mode_costs w set)) (asks_providers w set),
      )

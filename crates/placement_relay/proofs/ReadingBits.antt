-- Where a policy keeps replicas and reads, as the first bits of a choice.
use Rattle.std.proofs.Common.{◌≡◌, ℕ, ◌+◌, ◌*◌, ◌<◌, ◌≤◌, Bool, false, ◌==◌, List, ◌++◌, length, get_or, map, sym, ap, ◌∙◌, arith}
use Rattle.std.specs.List.{flat_map}
use Rattle.std.proofs.lemmas.Nat.{mul-le}
use Rattle.std.proofs.lemmas.List.{length-append, get_or_append_left, get_or-append-add}
use Rattle.std.proofs.lemmas.List.FromFn.{length-map-range_with_len, get_or-map-range_with_len}
use Rattle.span_base.specs.declared.dc_set.DcSet.{DcSet}
use Rattle.span_base.specs.DcSet.{has}
use Rattle.span_base.specs.declared.policy.Near.{Near}
use Rattle.workload.specs.World.{Lists, centre_count}
use Rattle.zero_one.specs.Rows.{bit_of}
use Rattle.placement_rows.specs.Centres.{centres}
use Rattle.placement_relay.specs.Reading.{h}
use Rattle.placement_relay.specs.Placed.{reading_bits}
use Rattle.placement_rows.proofs.Sums.{length-blocks, get_or-blocks}

-- no primary
abbrev pub nowhere : Near
nowhere = record { member = record { 0 = 0 }; at = record { 0 = 0 } }

module _ (w : Lists) (replicas : DcSet) (primary : List Near) (tail : List Bool) where
  pub long-reading : length (reading_bits w replicas primary) ≡ centre_count w + length primary * centre_count w
  long-reading =
      omega (
        arith,
        length-append (map (has replicas) (centres w)) (flat_map (λ near. map (λ d. near.at.0 == d) (centres w)) primary),
        length-map-range_with_len (has replicas) 0 (centre_count w),
        length-blocks (λ (near : Near) d. near.at.0 == d) (centre_count w) primary,
      )

  pub bit-replica : (d : ℕ) → d < centre_count w → bit_of (reading_bits w replicas primary ++ tail) d ≡ has replicas d
  bit-replica d low =
      get_or_append_left (reading_bits w replicas primary) tail false d (omega (arith, long-reading))
      ∙ get_or_append_left (map (has replicas) (centres w)) (flat_map (λ near. map (λ d. near.at.0 == d) (centres w)) primary) false d (omega (arith, length-map-range_with_len (has replicas) 0 (centre_count w)))
      ∙ get_or-map-range_with_len (has replicas) 0 (centre_count w) d d false low (omega arith)

  pub bit-primary : (a d : ℕ) → a < length primary → d < centre_count w → bit_of (reading_bits w replicas primary ++ tail) (h w a d) ≡ ((get_or primary a nowhere).at.0 == d)
  bit-primary a d in' low =
      let n = centre_count w in
      let block : (a + 1) * n ≤ length primary * n = mul-le (a + 1) n (length primary) n (omega arith) (omega arith) in
      let first = map (has replicas) (centres w) in
      let second = flat_map (λ near. map (λ d. near.at.0 == d) (centres w)) primary in
      let at : h w a d ≡ n + (a * n + d) = omega arith in
      get_or_append_left (reading_bits w replicas primary) tail false (h w a d) (omega (arith, long-reading, block))
      ∙ ap (λ i. get_or (first ++ second) i false) at
      ∙ ap (λ k. get_or (first ++ second) (k + (a * n + d)) false) (sym (length-map-range_with_len (has replicas) 0 n))
      ∙ get_or-append-add first second (a * n + d) false
      ∙ get_or-blocks (λ near d. near.at.0 == d) n primary a d nowhere false in' low

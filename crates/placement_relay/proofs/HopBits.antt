-- How the writes of members come to the replicas, as bits of a choice behind those on reading.
use Rattle.std.proofs.Common.{◌≡◌, ℕ, ◌+◌, ◌*◌, ◌<◌, ◌≤◌, Bool, false, List, ◌++◌, length, get_or, ap, ◌∙◌, arith}
use Rattle.std.proofs.Math.Nat.{mul_assoc}
use Rattle.std.proofs.lemmas.Nat.{mul-le}
use Rattle.std.proofs.lemmas.List.{append_assoc, get_or_append_left, get_or-append-add}
use Rattle.span_base.specs.declared.dc_set.DcSet.{DcSet}
use Rattle.span_base.specs.declared.policy.Near.{Near}
use Rattle.span_base.specs.declared.policy.Hop.{Hop}
use Rattle.workload.specs.World.{Lists, centre_count, members_of}
use Rattle.workload.specs.declared.rules.Demand.{Demand}
use Rattle.zero_one.specs.Rows.{bit_of}
use Rattle.placement_rows.specs.Centres.{nobody}
use Rattle.placement_relay.specs.Relay.{q}
use Rattle.placement_relay.specs.Placed.{reading_bits, has_hop, member_hop_bits, hop_bits}
use Rattle.placement_rows.proofs.Pieces.{length-pieces, length-square, get_or-squares}
use Rattle.placement_relay.proofs.ReadingBits.{long-reading}

module _ (w : Lists) (set : ℕ) (replicas : DcSet) (primary : List Near) (hops : List Hop) (tail : List Bool) where
  pub long-hops : length (hop_bits w set hops) ≡ length (members_of w set) * (centre_count w * centre_count w)
  long-hops = length-pieces (λ (m : Demand). member_hop_bits w hops m.dc.0) (centre_count w * centre_count w) (λ m. length-square (has_hop hops m.dc.0) (centre_count w)) (members_of w set)

  pub bit-hop : length primary ≡ length (members_of w set) → (a p d : ℕ) → a < length (members_of w set) → p < centre_count w → d < centre_count w
      → bit_of ((reading_bits w replicas primary ++ hop_bits w set hops) ++ tail) (q w set a p d) ≡ has_hop hops (get_or (members_of w set) a nobody).dc.0 p d
  bit-hop same a p d in' low low' =
      let n = centre_count w in
      let k = length (members_of w set) in
      let reading = reading_bits w replicas primary in
      let writing = hop_bits w set hops in
      let at : q w set a p d ≡ length reading + (a * n * n + p * n + d) = omega (arith, long-reading w replicas primary tail, ap (λ j. j * n) same) in
      let line : (p + 1) * n ≤ n * n = mul-le (p + 1) n n n (omega arith) (omega arith) in
      let square : (a + 1) * (n * n) ≤ k * (n * n) = mul-le (a + 1) (n * n) k (n * n) (omega arith) (omega arith) in
      ap (λ y. bit_of y (q w set a p d)) (append_assoc reading writing tail)
      ∙ ap (bit_of (reading ++ (writing ++ tail))) at
      ∙ get_or-append-add reading (writing ++ tail) (a * n * n + p * n + d) false
      ∙ get_or_append_left writing tail false (a * n * n + p * n + d) (omega (arith, long-hops, line, square, low', mul_assoc a n n))
      ∙ get_or-squares (λ (m : Demand). has_hop hops m.dc.0) n (members_of w set) a p d nobody false in' low low'

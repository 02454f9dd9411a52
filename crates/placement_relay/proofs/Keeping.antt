-- The variables that keep replicas: each centre's own.
use Rattle.std.proofs.Common.{◌≡◌, ℕ, ◌<◌, ◌≤◌, length, ap, arith}
use Rattle.std.specs.Prelude.{All}
use Rattle.std.specs.List.{AllPairs, AllByRecursion}
use Rattle.std.proofs.lemmas.List.{get_or-map, length-map}
use Rattle.std.proofs.lemmas.List.Elements.{All-from_recursion}
use Rattle.std.proofs.lemmas.List.FromFn.{length-range_with_len, get_or-range_with_len}
use Rattle.workload.specs.World.{Lists, centre_count}
use Rattle.placement_rows.specs.Centres.{centres}
use Rattle.placement_relay.specs.Programs.{keeping}
use Rattle.placement_rows.proofs.Each.{each-map, each-range}

-- the variables that keep replicas rise, and are the first ones
pub keeping_rises : (w : Lists) → AllPairs (λ a b. a.0 < b.0) (keeping w)
keeping_rises w i j d lt within =
    let n = centre_count w in
    let pair : ℕ → ℕ × ℕ = λ d. (d, d) in
    let long : length (keeping w) ≡ length (centres w) = length-map (centres w) pair in
    let size = length-range_with_len 0 n in
    omega (
      arith,
      lt,
      ap (λ (k : ℕ × ℕ). k.0) (get_or-map pair (centres w) i 0 d (omega arith)),
      ap (λ (k : ℕ × ℕ). k.0) (get_or-map pair (centres w) j 0 d (omega arith)),
      get_or-range_with_len 0 n i 0 (omega arith),
      get_or-range_with_len 0 n j 0 (omega arith),
    )

pub keeping_below : (w : Lists) (first : ℕ) → centre_count w ≤ first → AllByRecursion (λ k. k.0 < first) (keeping w)
keeping_below w first low =
    each-map (λ (k : ℕ × ℕ). k.0 < first) (λ d. d < centre_count w) (λ d. (d, d)) (λ d below. omega arith) (centres w) (each-range (λ d. d < centre_count w) 0 (centre_count w) (λ d from to. omega arith))

pub keeping_centres : (w : Lists) → All (λ k. k.1 < centre_count w) (keeping w)
keeping_centres w =
    All-from_recursion (λ (k : ℕ × ℕ). k.1 < centre_count w) (keeping w)
    (each-map (λ (k : ℕ × ℕ). k.1 < centre_count w) (λ d. d < centre_count w) (λ d. (d, d)) (λ d below. below) (centres w) (each-range (λ d. d < centre_count w) 0 (centre_count w) (λ d from to. omega arith)))

pub keeping_few : (w : Lists) → centre_count w ≤ 16 → length (keeping w) ≤ 256
keeping_few w few =
    let pair : ℕ → ℕ × ℕ = λ d. (d, d) in
    let long : length (keeping w) ≡ length (centres w) = length-map (centres w) pair in
    omega (arith, few, long, length-range_with_len 0 (centre_count w))

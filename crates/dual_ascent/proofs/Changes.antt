-- The steps by which the value of a short leaf is worked out.
use Rattle.std.proofs.Common.{◌≡◌, ℕ, ◌+◌, ◌*◌, ◌<◌, ◌≤◌, ◌^◌, ℤ, pos, ◌+ℤ◌, ◌-ℤ◌, ◌*ℤ◌, unsigned_abs, Bool, Option, List, length, get_or, take, ap, arith, to_z, of_z}
use Rattle.std.specs.Int.{w128}
use Rattle.std.proofs.Math.Nat.{mul-le-mul}
use Rattle.std.proofs.lemmas.Int.{ints}
use Rattle.std.proofs.lemmas.List.Sums.{sum_by_more, sum_by-take-le}
use Rattle.zero_one.specs.declared.rows.Entry.{Entry}
use Rattle.zero_one.specs.Rows.{fixed_bit}
use Rattle.zero_one.proofs.IntSums.{int_sum_by_more}
use Rattle.bound_cert.specs.Leaves.{least_of}
use Rattle.bound_cert.specs.Sizes.{coefs_size}
use Rattle.bound_cert.proofs.Scratch.{no_entry}
use Rattle.dual_ascent.specs.Change.{entry_change, row_change}

-- three numbers that are small, added up as the code does
pub three_added : (a b d x y z : ℤ) → a ≡ x → b ≡ y → d ≡ z → unsigned_abs a ≤ 10 ^ 28 → unsigned_abs b < 2 ^ 112 → unsigned_abs d ≤ 10 ^ 31 → to_z w128 (of_z w128 (to_z w128 (of_z w128 (to_z w128 (of_z w128 a) +ℤ to_z w128 (of_z w128 b))) +ℤ to_z w128 (of_z w128 d))) ≡ (x +ℤ y) +ℤ z
three_added a b d x y z ea eb ed sa sb sd =
    let sum : to_z w128 (of_z w128 (to_z w128 (of_z w128 (to_z w128 (of_z w128 a) +ℤ to_z w128 (of_z w128 b))) +ℤ to_z w128 (of_z w128 d))) ≡ (a +ℤ b) +ℤ d = omega (arith, ints) in
    rw (← ea, ← eb, ← ed) sum

-- one more entry
pub record EntryStep (entries : List Entry) (costs : List ℕ) (fixed : List (Option Bool)) (s mult i : ℕ) (r : ℤ) : Type 0 where
  pub more : row_change (take (i + 1) entries) costs fixed s mult ≡ row_change (take i entries) costs fixed s mult +ℤ r
  pub size : mult * coefs_size (take (i + 1) entries) ≡ mult * coefs_size (take i entries) + mult * unsigned_abs (get_or entries i no_entry).coef
  pub bounded : mult * coefs_size (take (i + 1) entries) ≤ 10 ^ 31
  pub small : unsigned_abs r ≤ mult * unsigned_abs (get_or entries i no_entry).coef

pub entry_step : (entries : List Entry) (costs : List ℕ) (fixed : List (Option Bool)) (s mult i cost : ℕ) (r : ℤ) → i < length entries → mult ≤ 10 ^ 24 → coefs_size entries ≤ 10 ^ 7 → cost ≡ s * get_or costs (get_or entries i no_entry).var 0 → r ≡ least_of (fixed_bit fixed (get_or entries i no_entry).var) (pos cost -ℤ (pos mult *ℤ (get_or entries i no_entry).coef)) -ℤ least_of (fixed_bit fixed (get_or entries i no_entry).var) (pos cost) → unsigned_abs r ≤ mult * unsigned_abs (get_or entries i no_entry).coef → EntryStep entries costs fixed s mult i r
entry_step entries costs fixed s mult i cost r inside range light ce re small =
    let more = int_sum_by_more (entry_change costs fixed s mult) entries i no_entry inside in
    let is : r ≡ entry_change costs fixed s mult (get_or entries i no_entry) = rw ce at re in
    let sizes = sum_by_more (λ (e : Entry). unsigned_abs e.coef) entries i no_entry inside in
    let scaled = ap (λ n. mult * n) sizes in
    let front : coefs_size (take (i + 1) entries) ≤ 10 ^ 7 = omega (arith, sum_by-take-le (λ (e : Entry). unsigned_abs e.coef) entries (i + 1), light) in
    let bounded : mult * coefs_size (take (i + 1) entries) ≤ 10 ^ 24 * 10 ^ 7 = mul-le-mul range front in
    record { more = rw is more; size = omega (arith, scaled); bounded = omega (arith, bounded); small = small }

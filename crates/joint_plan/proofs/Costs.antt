-- Sums of a joint plan's costs.
use Rattle.std.proofs.Common.{◌≡◌, ℕ, zero, suc, ◌+◌, ◌-◌, ◌*◌, ◌^◌, ◌<◌, ◌≤◌, ap, arith}
use Rattle.std.proofs.Math.Pow.{pow_mono}
use Rattle.std.proofs.lemmas.Nat.{mul-le}
use Rattle.machine_text.specs.declared.machines.Machine.{Machine}
use Rattle.machine_text.specs.Machines.{IsMachineWithin}
use Rattle.std.specs.List.{sum_by, range_with_len}
use Rattle.joint_placement.proofs.Stacks.{sum-next}

-- a sum over fewer numbers is at most one over more
up_by : (f : ℕ → ℕ) (n more : ℕ) → sum_by f (range_with_len 0 n) ≤ sum_by f (range_with_len 0 (n + more))
up_by f n zero = omega (arith, ap (λ k. sum_by f (range_with_len 0 k)) (let e : n + 0 ≡ n = omega arith in e))
up_by f n (suc more) =
    let one : n + suc more ≡ (n + more) + 1 = omega arith in
    omega (arith, up_by f n more, sum-next f (n + more), ap (λ k. sum_by f (range_with_len 0 k)) one)

pub sum-up : (f : ℕ → ℕ) (n all : ℕ) → n ≤ all → sum_by f (range_with_len 0 n) ≤ sum_by f (range_with_len 0 all)
sum-up f n all low =
    let is : n + (all - n) ≡ all = omega (arith, low) in
    omega (arith, up_by f n (all - n), ap (λ k. sum_by f (range_with_len 0 k)) is)

-- so many machines as the digits let cost at most this
pub few-cost : (machine : Machine) (number : ℕ) → IsMachineWithin machine → number < 2 ^ machine.digits → number * machine.price ≤ 1023 * 10 ^ 9
few-cost machine number within few =
    let most : 2 ^ machine.digits ≤ 2 ^ 10 = pow_mono within.digits in
    omega (arith, mul-le number machine.price 1023 (10 ^ 9) (omega (arith, most, few)) within.price)

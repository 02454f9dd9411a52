-- A tree has at most 2^(n+1) - 1 lines, where n variables are free.
use Rattle.std.proofs.Common.{◌≡◌, ℕ, zero, suc, ◌+◌, ◌-◌, ◌^◌, ◌<◌, ◌≤◌, Bool, true, false, Option, List, length, arith, length-append}
use Rattle.zero_one.specs.Contents.{Contents}
use Rattle.bound_cert.specs.declared.leaves.Goal.{Goal}
use Rattle.bound_cert.specs.declared.leaves.Line.{Line}
use Rattle.bound_cert.specs.Trees.{Tree, leaf, branch, lines_of, IsTreeBelow, IsOpenPrefix, fix, all_free}
use Rattle.cert_checker.proofs.Trails.{nones, nones-replicate, nones-fix}

power_more : (n : ℕ) → 2 ^ (suc n) ≡ 2 ^ n + 2 ^ n
power_more n = omega arith

power_some : (n : ℕ) → 1 ≤ 2 ^ n
power_some zero = omega arith
power_some (suc n) = omega (arith, power_more n, power_some n)

size : (fixed : List (Option Bool)) (tree : Tree) → IsTreeBelow fixed tree → length (lines_of tree) + 1 ≤ 2 ^ (suc (nones fixed))
size fixed (leaf end) below = omega (arith, power_more (nones fixed), power_some (nones fixed))
size fixed (branch var zeros ones) below =
    let low = size (fix fixed var false) zeros below.1 in
    let high = size (fix fixed var true) ones below.2 in
    let low_free = nones-fix fixed var false below.0 in
    let high_free = nones-fix fixed var true below.0 in
    let low' : length (lines_of zeros) + 1 ≤ 2 ^ (nones fixed) = rw low_free at low in
    let high' : length (lines_of ones) + 1 ≤ 2 ^ (nones fixed) = rw high_free at high in
    omega (arith, low', high', power_more (nones fixed), length-append (lines_of zeros) (lines_of ones))

-- an open prefix is shorter than each tree that has all the lines it can
pub prefix_small : (program : Contents) (lines : List Line) (goal : Goal) → IsOpenPrefix program lines goal → length lines < 2 ^ (length program.costs + 1) - 1
prefix_small program lines goal is =
    let n = length program.costs in
    let whole = size (all_free program) is.tree is.well_formed in
    let free : nones (all_free program) ≡ length program.costs = nones-replicate (length program.costs) in
    let whole' : length (lines_of is.tree) + 1 ≤ 2 ^ (suc (length program.costs)) = rw free at whole in
    let same : suc (length program.costs) ≡ length program.costs + 1 = omega arith in
    let whole'' : length (lines_of is.tree) + 1 ≤ 2 ^ (length program.costs + 1) = rw same at whole' in
    omega (arith, whole'', is.longer)

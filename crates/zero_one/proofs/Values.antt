use Rattle.std.proofs.Common.{◌≡◌, ℕ, zero, suc, ◌+◌, ◌<◌, Bool, true, false, cond, List, [], ◌∷◌, length, get_or, take, arith, add-one, add-zero}
use Rattle.zero_one.specs.Rows.{bit_of}
use Rattle.zero_one.specs.Program.{value_of}

value_of_suc : (costs : List ℕ) (x : List Bool) (i : ℕ) → i < length costs → length x ≡ length costs → value_of (take (suc i) costs) (take (suc i) x) ≡ value_of (take i costs) (take i x) + cond (bit_of x i) (get_or costs i 0) 0
value_of_suc [] x i h e = absurd (omega arith)
value_of_suc (cost ∷ costs) [] i h e = absurd (omega arith)
value_of_suc (cost ∷ costs) (true ∷ x) zero h e = omega arith
value_of_suc (cost ∷ costs) (false ∷ x) zero h e = omega arith
value_of_suc (cost ∷ costs) (true ∷ x) (suc i) h e = omega (arith, value_of_suc costs x i (omega arith) (omega arith))
value_of_suc (cost ∷ costs) (false ∷ x) (suc i) h e = value_of_suc costs x i (omega arith) (omega arith)

-- the value of one more variable that is 1
pub value_of_one : (costs : List ℕ) (x : List Bool) (i : ℕ) → i < length costs → length x ≡ length costs → bit_of x i ≡ true → value_of (take (i + 1) costs) (take (i + 1) x) ≡ value_of (take i costs) (take i x) + get_or costs i 0
value_of_one costs x i h e bit = rw add-one (rw bit at (value_of_suc costs x i h e))

-- the value of one more variable that is 0
pub value_of_zero : (costs : List ℕ) (x : List Bool) (i : ℕ) → i < length costs → length x ≡ length costs → bit_of x i ≡ false → value_of (take (i + 1) costs) (take (i + 1) x) ≡ value_of (take i costs) (take i x)
value_of_zero costs x i h e bit = rw add-one (rw add-zero at (rw bit at (value_of_suc costs x i h e)))

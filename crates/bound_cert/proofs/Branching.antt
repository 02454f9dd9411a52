-- In a tree every assignment ends at one leaf.
use Rattle.std.proofs.Common.{◌≡◌, ◌≢◌, ℕ, zero, suc, ◌*◌, ◌<◌, ◌≤◌, inl, inr, ℤ, pos, ◌-ℤ◌, ◌≤ℤ◌, Bool, true, false, Option, Some, None, List, [], ◌∷◌, ◌++◌, length, replicate, refl, ◌∙◌, arith, get_or-set_other, get_or-set_same}
use Rattle.std.specs.List.{All}
use Rattle.std.proofs.Math.Nat.{mul-le-mul_left}
use Rattle.std.proofs.lemmas.Int.{ints}
use Rattle.std.proofs.lemmas.Bool.{cases_eq, cases_lt}
use Rattle.std.proofs.lemmas.List.{length-set, length-replicate}
use Rattle.std.proofs.lemmas.List.Elements.{All-head, All-tail, All-nil, All-cons}
use Rattle.zero_one.specs.Contents.{Contents}
use Rattle.zero_one.specs.Rows.{bit_of, fixed_bit, Agrees}
use Rattle.zero_one.specs.Program.{value_of, IsFeasible, IsWithinLimits}
use Rattle.bound_cert.specs.declared.leaves.Leaf.{Leaf}
use Rattle.bound_cert.specs.declared.leaves.Line.{Line}
use Rattle.bound_cert.specs.declared.leaves.Goal.{Goal}
use Rattle.bound_cert.specs.declared.leaves.Goal.TheVariants.{Cost, Nothing}
use Rattle.bound_cert.specs.Leaves.{leaf_bound}
use Rattle.bound_cert.specs.Closing.{Closes}
use Rattle.bound_cert.specs.Trees.{Tree, leaf, branch, IsFree, fix, all_free, IsTreeBelow, nodes_of, IsClosed, IsProof}
use Rattle.bound_cert.proofs.Scaled.{scale_pos}
use Rattle.bound_cert.proofs.Duality.{leaf_bound_le}

All-left : {X : Type 0} (P : X → Type 0) (xs ys : List X) → All P (xs ++ ys) → All P xs
All-left P [] ys all = All-nil P
All-left P (x ∷ xs) ys all = All-cons P x xs (All-head P x (xs ++ ys) all) (All-left P xs ys (All-tail P x (xs ++ ys) all))

All-right : {X : Type 0} (P : X → Type 0) (xs ys : List X) → All P (xs ++ ys) → All P ys
All-right P [] ys all = all
All-right P (x ∷ xs) ys all = All-right P xs ys (All-tail P x (xs ++ ys) all)

free_inside : (fixed : List (Option Bool)) (var : ℕ) → IsFree fixed var → var < length fixed
free_inside [] var free = absurd (cc)
free_inside (b ∷ fixed) zero free = omega arith
free_inside (b ∷ fixed) (suc var) free = omega (arith, free_inside fixed var free)

-- an assignment agrees with one more variable fixed to the bit that it has there
agrees_more : (fixed : List (Option Bool)) (x : List Bool) (var : ℕ) (bit : Bool) → IsFree fixed var → bit_of x var ≡ bit → Agrees fixed x → Agrees (fix fixed var bit) x
agrees_more fixed x var bit free here agrees =
    record {
      bits = rw length-set agrees.bits;
      same = λ v b e.
          elim (cases_eq v var) [
            | inl is ↦
                let inside : var < length fixed = free_inside fixed var free in
                let e' : Some bit ≡ Some b = rw (is, get_or-set_same) at e in
                rw is (here ∙ (cc))
            | inr not ↦
                let apart : v ≢ var = not in
                agrees.same v b (rw get_or-set_other at e)
          ];
    }

-- a leaf that fits and closes under fixed variables that the assignment agrees with
record EndsAt (program : Contents) (goal : Goal) (x : List Bool) : Type 0 where
  fixed : List (Option Bool)
  end : Leaf
  agrees : Agrees fixed x
  closes : Closes (leaf_bound program fixed end) end.s goal

ends_at : (program : Contents) (goal : Goal) (x : List Bool) (fixed : List (Option Bool)) (tree : Tree) → IsTreeBelow fixed tree → All (IsClosed program goal) (nodes_of fixed tree) → Agrees fixed x → EndsAt program goal x
ends_at program goal x fixed (leaf end) below closed agrees =
    record { fixed = fixed; end = end; agrees = agrees; closes = (All-head (IsClosed program goal) _ [] closed).1 }
ends_at program goal x fixed (branch var zeros ones) below closed agrees = by_bit (bit_of x var) refl
    (λ here. ends_at program goal x (fix fixed var false) zeros below.1 (All-left (IsClosed program goal) (nodes_of (fix fixed var false) zeros) (nodes_of (fix fixed var true) ones) (All-tail (IsClosed program goal) _ _ closed)) (agrees_more fixed x var false below.0 here agrees))
    (λ here. ends_at program goal x (fix fixed var true) ones below.2 (All-right (IsClosed program goal) (nodes_of (fix fixed var false) zeros) (nodes_of (fix fixed var true) ones) (All-tail (IsClosed program goal) _ _ closed)) (agrees_more fixed x var true below.0 here agrees))
  where
    by_bit : (b : Bool) → bit_of x var ≡ b → (bit_of x var ≡ false → EndsAt program goal x) → (bit_of x var ≡ true → EndsAt program goal x) → EndsAt program goal x
    by_bit false e left right = left e
    by_bit true e left right = right e

closes_cost : (s : ℕ) (bound : ℤ) (cost value : ℕ) → Closes bound s (Cost cost) → bound ≤ℤ pos (s * value) → cost ≤ value
closes_cost zero bound cost value closes below = absurd (omega (arith, ints, closes, below))
closes_cost (suc s) bound zero value closes below = omega arith
closes_cost (suc s) bound (suc cost) value closes below =
    elim (cases_lt value (suc cost)) [
      | inl lt ↦
          let low : value ≤ cost = omega arith in
          let scaled : suc s * value ≤ suc s * cost = mul-le-mul_left (suc s) low in
          let less_one : pos (suc cost) -ℤ pos 1 ≡ pos cost = omega (arith, ints) in
          let closes' = rw less_one at closes in
          absurd (omega (arith, ints, closes', below, scale_pos (suc s) cost, scaled))
      | inr ge ↦ ge
    ]

closes_nothing : (s : ℕ) (bound : ℤ) (value : ℕ) → Closes bound s Nothing → bound ≤ℤ pos (s * value) → ⊥
closes_nothing zero bound value closes below = omega (arith, ints, closes, below)
closes_nothing (suc s) bound value closes below = closes

nothing_fixed : (n : ℕ) (var : ℕ) → fixed_bit (replicate n None) var ≡ None
nothing_fixed zero var = refl
nothing_fixed (suc n) zero = refl
nothing_fixed (suc n) (suc var) = nothing_fixed n var

agrees_free : (program : Contents) (x : List Bool) → IsFeasible program x → Agrees (all_free program) x
agrees_free program x feasible =
    record {
      bits = rw length-replicate feasible.bits;
      same = λ var bit e. absurd (let n = nothing_fixed (length program.costs) var in cc);
    }

pub proof_bounds : (program : Contents) → IsWithinLimits program → (lines : List Line) (cost : ℕ) → IsProof program lines (Cost cost) → (x : List Bool) → IsFeasible program x → cost ≤ value_of program.costs x
proof_bounds program limits lines cost proof x feasible =
    let at = ends_at program (Cost cost) x (all_free program) proof.tree proof.well_formed proof.closed (agrees_free program x feasible) in
    closes_cost at.end.s (leaf_bound program at.fixed at.end) cost (value_of program.costs x) at.closes (leaf_bound_le program limits at.fixed at.end x feasible at.agrees)

pub proof_refutes : (program : Contents) → IsWithinLimits program → (lines : List Line) → IsProof program lines Nothing → (x : List Bool) → ¬ IsFeasible program x
proof_refutes program limits lines proof x feasible =
    let at = ends_at program Nothing x (all_free program) proof.tree proof.well_formed proof.closed (agrees_free program x feasible) in
    closes_nothing at.end.s (leaf_bound program at.fixed at.end) (value_of program.costs x) at.closes (leaf_bound_le program limits at.fixed at.end x feasible at.agrees)

-- Pairs that are added row after row are in order, and a leaf of them fits.
use Rattle.std.proofs.Common.{ℕ, zero, suc, ◌+◌, ◌<◌, ◌≤◌, ◌^◌, List, [], ◌∷◌, ◌++◌, length, map, arith, add-one}
use Rattle.std.specs.List.{All}
use Rattle.std.specs.List.Sorted.{IsStrictlyIncreasing}
use Rattle.std.proofs.lemmas.List.Elements.{All-nil, All-push, All-head, All-tail, All-weaker}
use Rattle.zero_one.specs.Contents.{Contents}
use Rattle.bound_cert.specs.declared.leaves.Pair.{Pair}
use Rattle.bound_cert.specs.declared.leaves.Leaf.{Leaf}
use Rattle.bound_cert.specs.Leaves.{LeafFits}
use Rattle.dual_ascent.specs.Pairs.{AreInOrder}

tail_rises : (p : Pair) (ps : List Pair) → IsStrictlyIncreasing (map (λ (q : Pair). q.row) (p ∷ ps)) → IsStrictlyIncreasing (map (λ (q : Pair). q.row) ps)
tail_rises p ps rises = λ k h. simp add-one (simp add-one at (rises (suc k) (omega arith)))

push_rises : (ps : List Pair) (p : Pair) → IsStrictlyIncreasing (map (λ (q : Pair). q.row) ps) → All (λ (q : Pair). q.row < p.row) ps → IsStrictlyIncreasing (map (λ (q : Pair). q.row) (ps ++ p ∷ []))
push_rises [] p rises below k h = absurd (omega arith)
push_rises (q ∷ []) p rises below zero h = All-head (λ (r : Pair). r.row < p.row) q [] below
push_rises (q ∷ []) p rises below (suc k) h = absurd (omega arith)
push_rises (q ∷ (r ∷ ps)) p rises below zero h = rises 0 (omega arith)
push_rises (q ∷ (r ∷ ps)) p rises below (suc k) h =
    simp add-one (simp add-one at (push_rises (r ∷ ps) p (tail_rises q (r ∷ ps) rises) (All-tail (λ (s : Pair). s.row < p.row) q (r ∷ ps) below) k (omega arith)))

pub none_in_order : (rows : ℕ) → AreInOrder rows []
none_in_order rows =
    record { multipliers = All-nil _; rising = λ k h. absurd (omega arith); existing = All-nil _ }

pub more_rows : (few rows : ℕ) (ps : List Pair) → few ≤ rows → AreInOrder few ps → AreInOrder rows ps
more_rows few rows ps more order =
    record {
      multipliers = order.multipliers;
      rising = order.rising;
      existing = All-weaker (λ (p : Pair). p.row < few) (λ (p : Pair). p.row < rows) (λ p below. omega arith) ps order.existing;
    }

-- with one more pair
pub pair_pushed : (row mult : ℕ) (ps : List Pair) → AreInOrder row ps → 0 < mult → mult ≤ 10 ^ 30 → AreInOrder (row + 1) (ps ++ record { row = row; mult = mult } ∷ [])
pair_pushed row mult ps order some low =
    let wide = more_rows row (row + 1) ps (omega arith) order in
    record {
      multipliers = All-push (λ (q : Pair). (1 ≤ q.mult) × (q.mult ≤ 10 ^ 30)) ps (record { row = row; mult = mult }) order.multipliers (omega arith, low);
      rising = push_rises ps (record { row = row; mult = mult }) order.rising order.existing;
      existing = All-push (λ (q : Pair). q.row < row + 1) ps (record { row = row; mult = mult }) wide.existing (omega arith);
    }

pub in_order_fits : (program : Contents) (leaf : Leaf) → leaf.s ≤ 10 ^ 6 → AreInOrder (length program.rows) leaf.pairs → LeafFits program leaf
in_order_fits program leaf small order =
    record { scale = omega arith; multipliers = order.multipliers; rising = order.rising; existing = order.existing }

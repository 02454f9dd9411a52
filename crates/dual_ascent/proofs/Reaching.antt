-- How far a list of numbers reaches from 0.
use Rattle.std.proofs.Common.{ℕ, zero, suc, ◌+◌, ◌<◌, ◌≤◌, ℤ, unsigned_abs, List, [], ◌∷◌, length, get_or, set, take, arith, add-one}
use Rattle.std.proofs.Math.Nat.{le-max_left, le-max_right, max-le}
use Rattle.dual_ascent.specs.Tallies.{reach}

head_reach : (e : ℤ) (es : List ℤ) → unsigned_abs e ≤ reach (e ∷ es)
unfolding reach
head_reach e es = le-max_left (unsigned_abs e) (reach es)

tail_reach : (e : ℤ) (es : List ℤ) → reach es ≤ reach (e ∷ es)
unfolding reach
tail_reach e es = le-max_right (unsigned_abs e) (reach es)

both_reach : (e : ℤ) (es : List ℤ) (most : ℕ) → unsigned_abs e ≤ most → reach es ≤ most → reach (e ∷ es) ≤ most
unfolding reach
both_reach e es most = max-le

pub reach_none : (es : List ℤ) → reach (take 0 es) ≤ 0
unfolding reach
reach_none es = omega arith

pub reach_at : (es : List ℤ) (i : ℕ) (d : ℤ) → i < length es → unsigned_abs (get_or es i d) ≤ reach es
reach_at [] i d inside = absurd (omega arith)
reach_at (e ∷ es) zero d inside = head_reach e es
reach_at (e ∷ es) (suc i) d inside = omega (arith, tail_reach e es, reach_at es i d (omega arith))

pub reach_set : (es : List ℤ) (i : ℕ) (v : ℤ) (most : ℕ) → reach es ≤ most → unsigned_abs v ≤ most → reach (set es i v) ≤ most
reach_set [] i v most all here = all
reach_set (e ∷ es) zero v most all here = both_reach v es most here (omega (arith, tail_reach e es, all))
reach_set (e ∷ es) (suc i) v most all here =
    both_reach e (set es i v) most (omega (arith, head_reach e es, all)) (reach_set es i v most (omega (arith, tail_reach e es, all)) here)

reach_suc : (es : List ℤ) (i : ℕ) (v : ℤ) (most : ℕ) → i < length es → reach (take i es) ≤ most → unsigned_abs v ≤ most → reach (take (suc i) (set es i v)) ≤ most
reach_suc [] i v most inside all here = absurd (omega arith)
reach_suc (e ∷ es) zero v most inside all here = both_reach v (take 0 es) most here (omega (arith, reach_none es))
reach_suc (e ∷ es) (suc i) v most inside all here =
    both_reach e (take (suc i) (set es i v)) most (omega (arith, head_reach e (take i es), all))
    (reach_suc es i v most (omega arith) (omega (arith, tail_reach e (take i es), all)) here)

-- one more number written
pub reach_more : (es : List ℤ) (i : ℕ) (v : ℤ) (most : ℕ) → i < length es → reach (take i es) ≤ most → unsigned_abs v ≤ most → reach (take (i + 1) (set es i v)) ≤ most
reach_more es i v most inside all here = rw add-one (reach_suc es i v most inside all here)

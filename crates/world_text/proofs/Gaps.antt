-- The first gap of a world, and the tests for one.
use Rattle.std.proofs.Common.{◌≡◌, ◌≢◌, ℕ, zero, suc, ◌+◌, ◌<◌, ◌≤◌, Bool, true, false, List, [], ◌∷◌, length, None, refl, subst, arith, get_or}
use Rattle.std.specs.Prelude.{nat_lt, is_some, ◌&&◌}
use Rattle.std.specs.List.{list_all, range_with_len}
use Rattle.std.proofs.lemmas.Bool.{lt-ltb}
use Rattle.price_tables.specs.Tables.{Tabled, count_of, link_at, AreAllLinked}
use Rattle.workload.specs.declared.rules.AccessSet.{AccessSet}
use Rattle.workload.specs.declared.rules.Demand.{Demand}
use Rattle.workload.specs.Load.{no_set}
use Rattle.workload.specs.Gaps.{HaveMembersBefore}
use Rattle.world_text.specs.ReadWorld.{all_linked, all_used}

-- a test of every number of a range
range_all : (p : ℕ → Bool) (a n : ℕ) → ((k : ℕ) → a ≤ k → k < a + n → p k ≡ true) → list_all p (range_with_len a n) ≡ true
range_all p a zero h = refl
range_all p a (suc n) h = rw (h a (omega arith) (omega arith)) (range_all p (a + 1) n (λ k low high. h k (omega arith) (omega arith)))

range_not : (p : ℕ → Bool) (a n k : ℕ) → a ≤ k → k < a + n → p k ≡ false → list_all p (range_with_len a n) ≡ false
range_not p a zero k low high h = absurd (omega arith)
range_not p a (suc n) k low high h = by (p a) refl (λ (next : a + 1 ≤ k). range_not p (a + 1) n k next (omega arith) h)
  where
    by : (b : Bool) → p a ≡ b → (a + 1 ≤ k → list_all p (range_with_len (a + 1) n) ≡ false) → (b && list_all p (range_with_len (a + 1) n)) ≡ false
    by false e rest = refl
    by true e rest =
        let other : a ≢ k = λ (same : a ≡ k). let t : p k ≡ true = subst (λ (x : ℕ). p x ≡ true) same e in cc (t, h) in
        rest (omega arith)

pub linked : (t : Tabled) → AreAllLinked t → all_linked t ≡ true
unfolding all_linked
linked t h = range_all (λ from. list_all (λ to. is_some (link_at t from to)) (range_with_len 0 (count_of t))) 0 (count_of t)
    (λ a low high. range_all (λ to. is_some (link_at t a to)) 0 (count_of t) (λ b low' high'. h a b (omega arith) (omega arith)))

pub unlinked : (t : Tabled) (a b : ℕ) → a < count_of t → b < count_of t → link_at t a b ≡ None → all_linked t ≡ false
unfolding all_linked
unlinked t a b within within' h = range_not (λ from. list_all (λ to. is_some (link_at t from to)) (range_with_len 0 (count_of t))) 0 (count_of t) a (omega arith) (omega arith)
    (range_not (λ to. is_some (link_at t a to)) 0 (count_of t) b (omega arith) (omega arith) (rw h refl))

-- every set has a member
some_member : (xs : List Demand) → xs ≢ [] → 0 < length xs
some_member [] some = absurd (some refl)
some_member (x ∷ xs) some = omega arith

pub used : (sets : List AccessSet) → HaveMembersBefore sets (length sets) → all_used sets ≡ true
unfolding all_used
used [] h = refl
used (s ∷ ss) h = rw (lt-ltb 0 (length s.members) (some_member s.members (h 0 (omega arith)))) (used ss (λ k within. h (suc k) (omega arith)))

pub unused : (sets : List AccessSet) (k : ℕ) → k < length sets → (get_or sets k no_set).members ≡ [] → all_used sets ≡ false
unfolding all_used
unused [] k within h = absurd (omega arith)
unused (s ∷ ss) zero within h = rw h refl
unused (s ∷ ss) (suc k) within h = by (nat_lt 0 (length s.members)) (unused ss k (omega arith) h)
  where
    by : (b : Bool) → list_all (λ set. nat_lt 0 (length set.members)) ss ≡ false → (b && list_all (λ (set : AccessSet). nat_lt 0 (length set.members)) ss) ≡ false
    by true e = e
    by false e = refl

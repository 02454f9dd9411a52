-- A disk in memory counts its faults, and is calm where no call is still to fail.
use Rattle.std.proofs.Common.{ℕ, ◌≡◌, ◌+◌, ◌-◌, ◌≤◌, Bool, true, false, ◌&&◌, ◌==◌, nat_lt, List, [], ◌∷◌, refl, sym, ◌∙◌, ap, subst, inl, inr, arith}
use Rattle.std.specs.List.{list_all, list_any}
use Rattle.std.proofs.lemmas.Bool.{and_parts, or_parts, or_from, both_ways, true≢false, false≢true, cases_lt, ltb-true, lt-ltb, le-ltb, eqb-true, eqb-false, ne_eqb}
use Rattle.std.proofs.lemmas.Bool.Decides.{nat_tests}
use Rattle.span_base.specs.Counts.{next_count, Rose}
use Rattle.replica_journal.specs.Calls.{CallPlan, next_fails, is_calm, after_call}
use Rattle.replica_journal.specs.Counting.{Counts}

pub grows : (n : ℕ) → n ≤ next_count n
grows n = grind (arith, nat_tests)

pub by_one : (n : ℕ) → next_count n ≤ n + 1
by_one n = grind (arith, nat_tests)

rises : (n : ℕ) → Rose n (next_count n)
rises n = grind (arith, nat_tests)

-- a number that isn't this one is below it where it is below the next
test_same : (x m n : ℕ) → m ≤ n → n ≤ m + 1 → (x == m) ≡ false → nat_lt x n ≡ nat_lt x m
test_same x m n lo hi ne =
    let apart : x ≡ m → ⊥ = eqb-false x m ne in
    elim (cases_lt x m) [
      | inl below ↦ lt-ltb x n (omega arith) ∙ sym (lt-ltb x m below)
      | inr above ↦ le-ltb x n (omega (arith, apart)) ∙ sym (le-ltb x m above)
    ]

pub all_same : (m n : ℕ) (xs : List ℕ) → m ≤ n → n ≤ m + 1 → list_any (λ x. x == m) xs ≡ false → list_all (λ x. nat_lt x n) xs ≡ list_all (λ x. nat_lt x m) xs
all_same m n [] lo hi none = refl
all_same m n (x ∷ xs) lo hi none =
    let parts : ((x == m) ≡ false) × (list_any (λ y. y == m) xs ≡ false) = or_parts (x == m) (list_any (λ y. y == m) xs) none in
    ap (λ b. b && list_all (λ y. nat_lt y n) xs) (test_same x m n lo hi parts.0) ∙ ap (λ b. nat_lt x m && b) (all_same m n xs lo hi parts.1)

pub none_below : (m : ℕ) (xs : List ℕ) → list_all (λ x. nat_lt x m) xs ≡ true → list_any (λ x. x == m) xs ≡ false
none_below m [] below = refl
none_below m (x ∷ xs) below =
    let parts : (nat_lt x m ≡ true) × (list_all (λ y. nat_lt y m) xs ≡ true) = and_parts (nat_lt x m) (list_all (λ y. nat_lt y m) xs) below in
    or_from (x == m) (list_any (λ y. y == m) xs) (ne_eqb x m (λ e. omega (arith, ltb-true x m parts.0, e))) (none_below m xs parts.1)

-- unless the next call is stopped, one is still to be stopped exactly where one was
none_next : (stop : ℕ) → (stop == 1) ≡ false → (stop - 1 == 0) ≡ (stop == 0)
none_next stop ne = grind (arith, nat_tests)

pub calm_passes : (plan : CallPlan) → is_calm plan ≡ true → next_fails plan ≡ false
unfolding is_calm next_fails
calm_passes plan calm =
    let next = next_count plan.made in
    let parts : (list_all (λ x. nat_lt x next) plan.failing ≡ true) × ((plan.stop == 0) ≡ true) = and_parts (list_all (λ x. nat_lt x next) plan.failing) (plan.stop == 0) calm in
    or_from (list_any (λ x. x == next) plan.failing) (plan.stop == 1) (none_below next plan.failing parts.0) (ne_eqb plan.stop 1 (λ e. omega (arith, eqb-true plan.stop 0 parts.1, e)))

-- a call that didn't fail changes nothing of whether one is still to fail
calm_same : (plan : CallPlan) → next_fails plan ≡ false → is_calm (after_call plan false) ≡ is_calm plan
unfolding is_calm next_fails
calm_same plan passes =
    let next = next_count plan.made in
    let parts : (list_any (λ x. x == next) plan.failing ≡ false) × ((plan.stop == 1) ≡ false) = or_parts (list_any (λ x. x == next) plan.failing) (plan.stop == 1) passes in
    ap (λ b. b && (plan.stop - 1 == 0)) (all_same next (next_count next) plan.failing (grows next) (by_one next) parts.0)
    ∙ ap (λ b. list_all (λ x. nat_lt x next) plan.failing && b) (none_next plan.stop parts.1)

pub counted : (plan : CallPlan) (failed : Bool) → failed ≡ next_fails plan → Counts plan.faults (after_call plan failed).faults (is_calm plan) (is_calm (after_call plan failed)) failed
counted plan false is = record {
  stays = omega arith;
  rose = λ t. absurd (false≢true t);
  same = λ e. (refl, calm_same plan (sym is));
  calm = λ c. (refl, calm_same plan (sym is) ∙ c);
}
counted plan true is = record {
  stays = grows plan.faults;
  rose = λ t. rises plan.faults;
  same = λ e. absurd (true≢false e);
  calm = λ c. absurd (both_ways (next_fails plan) (calm_passes plan c) (sym is));
}

-- the same where the calls stood still in between
pub counted_at : (old mid new : CallPlan) (failed : Bool) → mid ≡ old → new ≡ after_call mid failed → failed ≡ next_fails old
    → Counts old.faults new.faults (is_calm old) (is_calm new) failed
counted_at old mid new failed stays is fails =
    subst (λ (p : CallPlan). Counts old.faults p.faults (is_calm old) (is_calm p) failed) (sym (is ∙ ap (λ (p : CallPlan). after_call p failed) stays)) (counted old failed fails)

-- a call that did nothing changes neither
pub uncounted : (plan : CallPlan) → Counts plan.faults plan.faults (is_calm plan) (is_calm plan) false
uncounted plan = record {
  stays = omega arith;
  rose = λ t. absurd (false≢true t);
  same = λ e. (refl, refl);
  calm = λ c. (refl, c);
}

-- one call after others that didn't fail
pub counts_on : (f0 f1 f2 : ℕ) (c0 c1 c2 failed : Bool) → Counts f0 f1 c0 c1 false → Counts f1 f2 c1 c2 failed → Counts f0 f2 c0 c2 failed
counts_on f0 f1 f2 c0 c1 c2 failed first next =
    subst (λ (c : Bool). Counts f0 f2 c c2 failed) (first.same refl).1 (subst (λ (f : ℕ). Counts f f2 c1 c2 failed) (first.same refl).0 next)

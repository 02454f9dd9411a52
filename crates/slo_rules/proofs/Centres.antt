-- Loops over the centres of a set, in rising order: what is said of the centres that are left.
use Rattle.std.proofs.Common.{◌≡◌, ℕ, ◌+◌, ◌-◌, ◌<◌, ◌≤◌, Bool, true, false, cond, ◌&&◌, List, [], ◌∷◌, refl, ap, ◌∙◌, arith, suc}
use Rattle.std.specs.List.{filter, range_with_len, sum_by, count_by, list_all}
use Rattle.std.proofs.lemmas.List.Sums.{sum_by-cons}
use Rattle.span_base.specs.declared.dc_set.DcSet.{DcSet}
use Rattle.span_base.specs.DcSet.{has, centres_below, centres_of}
use Rattle.slo_rules.specs.Centres.{centres_from}

-- from 0 on these are all
pub centres_of_is : (s : DcSet) → centres_of s ≡ centres_from s 0
unfolding centres_of centres_below centres_from
centres_of_is s = refl

-- from 16 on there is none
pub centres_from-end : (s : DcSet) (d : ℕ) → 16 ≤ d → centres_from s d ≡ []
unfolding centres_from
centres_from-end s d h =
    let left : 16 - d ≡ 0 = omega arith in
    ap (λ n. filter (has s) (range_with_len d n)) left

-- the centre `d` comes first where the set has it
pub centres_from-next : (s : DcSet) (d : ℕ) → d < 16 → centres_from s d ≡ cond (has s d) (d ∷ centres_from s (d + 1)) (centres_from s (d + 1))
unfolding centres_from
centres_from-next s d h =
    let left : 16 - d ≡ suc (16 - (d + 1)) = omega arith in
    ap (λ n. filter (has s) (range_with_len d n)) left

sum_if : (f : ℕ → ℕ) (b : Bool) (d : ℕ) (ds : List ℕ) → sum_by f (cond b (d ∷ ds) ds) ≡ cond b (f d) 0 + sum_by f ds
sum_if f true d ds = sum_by-cons f d ds
sum_if f false d ds = omega arith

all_if : (p : ℕ → Bool) (b : Bool) (d : ℕ) (ds : List ℕ) → list_all p (cond b (d ∷ ds) ds) ≡ (cond b (p d) true && list_all p ds)
all_if p true d ds = refl
all_if p false d ds = refl

count_if : (b c : Bool) (n : ℕ) → cond b (cond c 1 0) 0 + n ≡ cond (b && c) 1 0 + n
count_if true c n = refl
count_if false c n = refl

-- a sum over the centres from `d` on
pub sum_start : (f : ℕ → ℕ) (s : DcSet) → sum_by f (centres_of s) ≡ sum_by f (centres_from s 0)
sum_start f s = ap (sum_by f) (centres_of_is s)

pub sum_end : (f : ℕ → ℕ) (s : DcSet) (d : ℕ) → 16 ≤ d → sum_by f (centres_from s d) ≡ 0
sum_end f s d h = ap (sum_by f) (centres_from-end s d h)

pub sum_next : (f : ℕ → ℕ) (s : DcSet) (d : ℕ) → d < 16 → sum_by f (centres_from s d) ≡ cond (has s d) (f d) 0 + sum_by f (centres_from s (d + 1))
sum_next f s d h = ap (sum_by f) (centres_from-next s d h) ∙ sum_if f (has s d) d (centres_from s (d + 1))

-- how many centres from `d` on pass a test
pub count_start : (p : ℕ → Bool) (s : DcSet) → count_by p (centres_of s) ≡ count_by p (centres_from s 0)
count_start p s = sum_start (λ x. cond (p x) 1 0) s

pub count_end : (p : ℕ → Bool) (s : DcSet) (d : ℕ) → 16 ≤ d → count_by p (centres_from s d) ≡ 0
count_end p s d h = sum_end (λ x. cond (p x) 1 0) s d h

pub count_next : (p : ℕ → Bool) (s : DcSet) (d : ℕ) → d < 16 → count_by p (centres_from s d) ≡ cond (has s d && p d) 1 0 + count_by p (centres_from s (d + 1))
count_next p s d h = sum_next (λ x. cond (p x) 1 0) s d h ∙ count_if (has s d) (p d) (count_by p (centres_from s (d + 1)))

-- whether all centres from `d` on pass a test
pub all_start : (p : ℕ → Bool) (s : DcSet) → list_all p (centres_of s) ≡ list_all p (centres_from s 0)
all_start p s = ap (list_all p) (centres_of_is s)

pub all_end : (p : ℕ → Bool) (s : DcSet) (d : ℕ) → 16 ≤ d → list_all p (centres_from s d) ≡ true
all_end p s d h = ap (list_all p) (centres_from-end s d h)

pub all_next : (p : ℕ → Bool) (s : DcSet) (d : ℕ) → d < 16 → list_all p (centres_from s d) ≡ (cond (has s d) (p d) true && list_all p (centres_from s (d + 1)))
all_next p s d h = ap (list_all p) (centres_from-next s d h) ∙ all_if p (has s d) d (centres_from s (d + 1))

-- the centre d is passed over, or decides
pub all_pass : (p : ℕ → Bool) (s : DcSet) (d : ℕ) → d < 16 → cond (has s d) (p d) true ≡ true → list_all p (centres_from s d) ≡ list_all p (centres_from s (d + 1))
all_pass p s d h e = all_next p s d h ∙ ap (λ b. b && list_all p (centres_from s (d + 1))) e

pub all_fail : (p : ℕ → Bool) (s : DcSet) (d : ℕ) → d < 16 → has s d ≡ true → p d ≡ false → list_all p (centres_from s d) ≡ false
all_fail p s d h e f = all_next p s d h ∙ ap (λ b. cond b (p d) true && list_all p (centres_from s (d + 1))) e ∙ ap (λ b. b && list_all p (centres_from s (d + 1))) f

pub ruleset centre_sums = (sum_start, sum_end, sum_next)

pub ruleset centre_counts = (count_start, count_end, count_next)

pub ruleset centre_tests = (all_start, all_end, all_next)

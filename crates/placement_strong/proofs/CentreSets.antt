-- What is made of the centres of sets that are made of the centres that pass a test.
use Rattle.std.proofs.Common.{◌≡◌, ℕ, ◌+◌, ◌≤◌, Bool, ◌&&◌, List, [], ◌∷◌, map, refl, ap, ◌∙◌, arith}
use Rattle.std.specs.List.{filter}
use Rattle.span_base.specs.declared.dc_set.DcSet.{DcSet}
use Rattle.span_base.specs.DcSet.{has, meet}
use Rattle.span_base.proofs.Sets.{has-meet}
use Rattle.workload.specs.World.{Lists, centre_count}
use Rattle.zero_one.specs.Rows.{bit_of}
use Rattle.placement_rows.specs.Centres.{centres, set_of_centres}
use Rattle.placement_rows.proofs.Sums.{filter-range_agree}
use Rattle.placement_rows.proofs.Collected.{has-set_of}

-- the centres of such a set, and those that two such sets share
pub near_places : (w : Lists) → centre_count w ≤ 16 → (p : ℕ → Bool) (s : DcSet) → s ≡ set_of_centres (filter p (centres w)) → filter (has s) (centres w) ≡ filter p (centres w)
near_places w few p s is = filter-range_agree (has s) p 0 (centre_count w) (λ d from to. ap (λ e. has e d) is ∙ has-set_of p (centre_count w) few d (omega arith))

pub common_places : (w : Lists) → centre_count w ≤ 16 → (p q : ℕ → Bool) (s t both : DcSet) → s ≡ set_of_centres (filter p (centres w)) → t ≡ set_of_centres (filter q (centres w)) → both ≡ meet s t
    → filter (has both) (centres w) ≡ filter (λ d. p d && q d) (centres w)
common_places w few p q s t both is is' meets =
    filter-range_agree (has both) (λ d. p d && q d) 0 (centre_count w)
    (λ d from to.
    ap (λ e. has e d) meets
    ∙ has-meet s t d
    ∙ ap (λ b. b && has t d) (ap (λ e. has e d) is ∙ has-set_of p (centre_count w) few d (omega arith))
    ∙ ap (λ b. p d && b) (ap (λ e. has e d) is' ∙ has-set_of q (centre_count w) few d (omega arith)))

-- the centres of such a set whose variable is 1
pub chosen_places : (w : Lists) → centre_count w ≤ 16 → (p : ℕ → Bool) (x : List Bool) (first : ℕ) (var : ℕ → ℕ) (near : DcSet) → near ≡ set_of_centres (filter p (centres w)) → ((d : ℕ) → first + d ≡ var d)
    → filter (λ d. has near d && bit_of x (first + d)) (centres w) ≡ filter (λ d. p d && bit_of x (var d)) (centres w)
chosen_places w few p x first var near is at =
    filter-range_agree (λ d. has near d && bit_of x (first + d)) (λ d. p d && bit_of x (var d)) 0 (centre_count w)
    (λ d from to. ap (λ b. b && bit_of x (first + d)) (ap (λ e. has e d) is ∙ has-set_of p (centre_count w) few d (omega arith)) ∙ ap (λ v. p d && bit_of x v) (at d))

-- centres, each behind its variable
abbrev pub behind : (ℕ → ℕ) → List ℕ → List (ℕ × ℕ)
behind var ds = map (λ d. (var d, d)) ds

behind-agree : (f g : ℕ → ℕ) → ((d : ℕ) → f d ≡ g d) → (ds : List ℕ) → behind f ds ≡ behind g ds
behind-agree f g same [] = refl
behind-agree f g same (d ∷ ds) = ap (λ v. (v, d) ∷ behind f ds) (same d) ∙ ap (λ ks. (g d, d) ∷ ks) (behind-agree f g same ds)

-- the centres of such a set, each behind its variable
pub kept_places : (w : Lists) → centre_count w ≤ 16 → (p : ℕ → Bool) (first : ℕ) (var : ℕ → ℕ) (near : DcSet) → near ≡ set_of_centres (filter p (centres w)) → ((d : ℕ) → first + d ≡ var d)
    → behind (λ d. first + d) (filter (has near) (centres w)) ≡ behind var (filter p (centres w))
kept_places w few p first var near is at =
    ap (behind (λ d. first + d)) (near_places w few p near is) ∙ behind-agree (λ d. first + d) var at (filter p (centres w))

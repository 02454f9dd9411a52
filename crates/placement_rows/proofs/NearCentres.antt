-- The near centres of the members of a set, as sets and as lists.
use Rattle.std.proofs.Common.{◌≡◌, ℕ, ◌+◌, ◌<◌, ◌≤◌, List, [], ◌∷◌, length, get_or, map, refl, ap, ◌∙◌}
use Rattle.std.specs.List.{enumerate_from}
use Rattle.std.proofs.lemmas.List.{get_or-map, length-map}
use Rattle.span_base.specs.declared.dc_set.DcSet.{DcSet}
use Rattle.span_base.specs.DcSet.{centres_of, no_centre as no_dc}
use Rattle.workload.specs.World.{Lists, centre_count, rule_of, members_of}
use Rattle.workload.specs.declared.rules.Demand.{Demand}
use Rattle.slo_rules.specs.Rules.{is_read_near, is_write_near}
use Rattle.placement_rows.specs.Centres.{read_near, write_near, set_of_centres, nobody}
use Rattle.placement_rows.specs.NearSets.{read_near_sets, write_near_sets}
use Rattle.placement_rows.proofs.Collected.{centres_of-set_of}

set-at : (f : Demand → DcSet) (ms : List Demand) (sets : List DcSet) → sets ≡ map f ms → (i : ℕ) → i < length ms → get_or sets i no_dc ≡ f (get_or ms i nobody)
set-at f ms sets is i low = ap (λ (list : List DcSet). get_or list i no_dc) is ∙ get_or-map f ms i nobody no_dc low

-- there is a set for each member
pub read-sets-long : (w : Lists) (set : ℕ) (sets : List DcSet) → sets ≡ read_near_sets w set → length sets ≡ length (members_of w set)
read-sets-long w set sets is = ap length is ∙ length-map (members_of w set) (λ m. set_of_centres (read_near w set m))

pub write-sets-long : (w : Lists) (set : ℕ) (sets : List DcSet) → sets ≡ write_near_sets w set → length sets ≡ length (members_of w set)
write-sets-long w set sets is = ap length is ∙ length-map (members_of w set) (λ m. set_of_centres (write_near w set m))

-- at a member's number, that of its near centres
pub read-set-at : (w : Lists) (set : ℕ) (sets : List DcSet) → sets ≡ read_near_sets w set → (a i : ℕ) → i ≡ a → a < length (members_of w set) → get_or sets i no_dc ≡ set_of_centres (read_near w set (get_or (members_of w set) a nobody))
read-set-at w set sets is a i at low =
    ap (λ k. get_or sets k no_dc) at ∙ set-at (λ m. set_of_centres (read_near w set m)) (members_of w set) sets is a low

pub write-set-at : (w : Lists) (set : ℕ) (sets : List DcSet) → sets ≡ write_near_sets w set → (a i : ℕ) → i ≡ a → a < length (members_of w set) → get_or sets i no_dc ≡ set_of_centres (write_near w set (get_or (members_of w set) a nobody))
write-set-at w set sets is a i at low =
    ap (λ k. get_or sets k no_dc) at ∙ set-at (λ m. set_of_centres (write_near w set m)) (members_of w set) sets is a low

-- what is made of each set, and of each member's near centres
each-made : {X : Type 0} (f : List ℕ → X) (near : Demand → List ℕ) → ((m : Demand) → centres_of (set_of_centres (near m)) ≡ near m) → (ms : List Demand) → map (λ s. f (centres_of s)) (map (λ m. set_of_centres (near m)) ms) ≡ map (λ m. f (near m)) ms
each-made f near same [] = refl
each-made f near same (m ∷ ms) =
    ap (λ ds. f ds ∷ map (λ s. f (centres_of s)) (map (λ m. set_of_centres (near m)) ms)) (same m) ∙ ap (λ xs. f (near m) ∷ xs) (each-made f near same ms)

pub read-made : {X : Type 0} (w : Lists) (set : ℕ) → centre_count w ≤ 16 → (f : List ℕ → X) → map (λ s. f (centres_of s)) (read_near_sets w set) ≡ map (λ m. f (read_near w set m)) (members_of w set)
read-made w set few f = each-made f (read_near w set) (λ m. centres_of-set_of (is_read_near w (rule_of w set) m.dc.0) (centre_count w) few) (members_of w set)

pub write-made : {X : Type 0} (w : Lists) (set : ℕ) → centre_count w ≤ 16 → (f : List ℕ → X) → map (λ s. f (centres_of s)) (write_near_sets w set) ≡ map (λ m. f (write_near w set m)) (members_of w set)
write-made w set few f = each-made f (write_near w set) (λ m. centres_of-set_of (is_write_near w (rule_of w set) m.dc.0) (centre_count w) few) (members_of w set)

numbered-made : {X : Type 0} (f : ℕ → List ℕ → X) (g : ℕ × Demand → X) (near : Demand → List ℕ) → ((m : Demand) → centres_of (set_of_centres (near m)) ≡ near m) → ((a : ℕ) (m : Demand) → f a (near m) ≡ g (a, m)) → (a : ℕ) (ms : List Demand)
    → map (λ (an : ℕ × DcSet). f an.0 (centres_of an.1)) (enumerate_from a (map (λ m. set_of_centres (near m)) ms)) ≡ map g (enumerate_from a ms)
numbered-made f g near same is a [] = refl
numbered-made f g near same is a (m ∷ ms) =
    ap (λ x. x ∷ map (λ (an : ℕ × DcSet). f an.0 (centres_of an.1)) (enumerate_from (a + 1) (map (λ m. set_of_centres (near m)) ms))) (ap (f a) (same m) ∙ is a m)
    ∙ ap (λ xs. g (a, m) ∷ xs) (numbered-made f g near same is (a + 1) ms)

-- and with the members' numbers
pub read-numbered : {X : Type 0} (w : Lists) (set : ℕ) → centre_count w ≤ 16 → (f : ℕ → List ℕ → X) (g : ℕ × Demand → X) → ((a : ℕ) (m : Demand) → f a (read_near w set m) ≡ g (a, m))
    → map (λ (an : ℕ × DcSet). f an.0 (centres_of an.1)) (enumerate_from 0 (read_near_sets w set)) ≡ map g (enumerate_from 0 (members_of w set))
read-numbered w set few f g is =
    numbered-made f g (read_near w set) (λ m. centres_of-set_of (is_read_near w (rule_of w set) m.dc.0) (centre_count w) few) is 0 (members_of w set)

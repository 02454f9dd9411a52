-- The place of a name among those of the sets.
use Rattle.std.proofs.Common.{◌≡◌, ℕ, ◌+◌, Bool, true, false, cond, List, [], ◌∷◌, ◌++◌, nat_eq, Some, None, ◌||◌, refl, sym, ap, ◌∙◌}
use Rattle.std.specs.List.{position, position_from, list_any}
use Rattle.std.specs.Cmp.Lexicographic.{pointwise}
use Rattle.std.specs.Global.{Vec}
use Rattle.std.proofs.lemmas.Iterator.Adapters.{position_from-zero}
use Rattle.std.proofs.lemmas.List.{map-append}
use Rattle.price_tables.proofs.Names.{position_map}
use Rattle.workload.specs.declared.rules.AccessSet.{AccessSet}
use Rattle.workload.specs.Load.{set_number}
use Rattle.workload.specs.Kept.{AreNames}

-- the index that the names give is the number of the set
pub number_is : (name : List ℕ) (names : List (Vec ℕ)) (sets : List AccessSet) → AreNames names sets
    → position (λ k. pointwise nat_eq name k.items) names ≡ set_number sets name
number_is name names sets same =
    sym (position_map (λ (k : Vec ℕ). k.items) (pointwise nat_eq name) names) ∙ ap (position (pointwise nat_eq name)) same

-- no key passes a test that finds none
none-passes : {X : Type 0} (test : X → Bool) (i : ℕ) (xs : List X) → position_from test i xs ≡ None → list_any test xs ≡ false
none-passes test i [] h = refl
none-passes test i (x ∷ xs) h = go (test x) (λ rest. none-passes test (i + 1) xs rest) h
  where
    go : (b : Bool) → (position_from test (i + 1) xs ≡ None → list_any test xs ≡ false) → cond b (Some i) (position_from test (i + 1) xs) ≡ None → (b || list_any test xs) ≡ false
    go true more h = cc h
    go false more h = more h

-- a name that no set has is no key
pub new_name : (name : List ℕ) (names : List (Vec ℕ)) (sets : List AccessSet) → AreNames names sets → set_number sets name ≡ None
    → list_any (λ k. pointwise nat_eq name k.items) names ≡ false
new_name name names sets same none =
    none-passes (λ (k : Vec ℕ). pointwise nat_eq name k.items) 0 names
    (sym (position_from-zero (λ (k : Vec ℕ). pointwise nat_eq name k.items) names) ∙ number_is name names sets same ∙ none)

-- one more set, under its name
pub names_more : (names : List (Vec ℕ)) (sets : List AccessSet) (key : Vec ℕ) (set : AccessSet) → AreNames names sets → key.items ≡ set.name
    → AreNames (names ++ key ∷ []) (sets ++ set ∷ [])
names_more names sets key set same e =
    map-append (λ (k : Vec ℕ). k.items) names _ ∙ both same e ∙ sym (map-append (λ (s : AccessSet). s.name) sets _)
  where
    both : {ks ns : List (List ℕ)} → ks ≡ ns → key.items ≡ set.name → ks ++ key.items ∷ [] ≡ ns ++ set.name ∷ []
    both p q = rw (p, q) refl

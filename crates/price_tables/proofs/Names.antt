-- The place of a name among those of the centres.
use Rattle.std.proofs.Common.{◌≡◌, ℕ, ◌+◌, Bool, true, false, cond, List, [], ◌∷◌, ◌++◌, map, nat_eq, Some, None, refl, sym, ap, ◌∙◌}
use Rattle.std.specs.List.{position, position_from, AllByRecursion, IsDistinct}
use Rattle.std.specs.Map.{lookup}
use Rattle.std.specs.Cmp.Lexicographic.{pointwise}
use Rattle.std.specs.Global.{Vec}
use Rattle.std.proofs.lemmas.Cmp.{nat_list_eq_equiv}
use Rattle.std.proofs.lemmas.Iterator.Adapters.{position_from-zero}
use Rattle.std.proofs.lemmas.Map.Keys.{IsDistinct-cons, IsDistinct-head, IsDistinct-tail}
use Rattle.price_tables.specs.Kept.{Entry, centres_of}

from-map : {X Y : Type 0} (f : X → Y) (t : Y → Bool) (i : ℕ) (xs : List X) → position_from t i (map f xs) ≡ position_from (λ x. t (f x)) i xs
from-map f t i [] = refl
from-map f t i (x ∷ xs) = ap (cond (t (f x)) (Some i)) (from-map f t (i + 1) xs)

-- the place of an item that a test of its image finds
pub position_map : {X Y : Type 0} (f : X → Y) (t : Y → Bool) (xs : List X) → position t (map f xs) ≡ position (λ x. t (f x)) xs
position_map f t xs = position_from-zero t (map f xs) ∙ from-map f t 0 xs ∙ sym (position_from-zero (λ x. t (f x)) xs)

pub names_are : (entries : List Entry) → map (λ c. c.name) (centres_of entries) ≡ map (λ e. e.1.name) entries
names_are [] = refl
names_are (e ∷ es) = ap (λ ns. e.1.name ∷ ns) (names_are es)

-- the index that the map gives is the place of the name
pub number_is : (name : List ℕ) (entries : List Entry) → map (λ e. e.0.items) entries ≡ map (λ e. e.1.name) entries
    → position (λ k. pointwise nat_eq name k.items) (map (λ e. e.0) entries) ≡ position (pointwise nat_eq name) (map (λ c. c.name) (centres_of entries))
number_is name entries keys =
    position_map (λ (e : Entry). e.0) (λ (k : Vec ℕ). pointwise nat_eq name k.items) entries
    ∙ sym (position_map (λ (e : Entry). e.0.items) (pointwise nat_eq name) entries)
    ∙ ap (position (pointwise nat_eq name)) (keys ∙ sym (names_are entries))

none-differs : (name : List ℕ) (i : ℕ) (names : List (List ℕ)) → position_from (pointwise nat_eq name) i names ≡ None → AllByRecursion (λ n. pointwise nat_eq name n ≡ false) names
none-differs name i [] h = tt
none-differs name i (n ∷ ns) h = go (pointwise nat_eq name n) refl (λ rest. none-differs name (i + 1) ns rest) h
  where
    go : (b : Bool) → pointwise nat_eq name n ≡ b → (position_from (pointwise nat_eq name) (i + 1) ns ≡ None → AllByRecursion (λ m. pointwise nat_eq name m ≡ false) ns) → cond b (Some i) (position_from (pointwise nat_eq name) (i + 1) ns) ≡ None → AllByRecursion (λ m. pointwise nat_eq name m ≡ false) (n ∷ ns)
    go true e more h = cc h
    go false e more h = (e, more h)

one-more : (n name : List ℕ) (ns : List (List ℕ)) → AllByRecursion (λ m. pointwise nat_eq n m ≡ false) ns → pointwise nat_eq n name ≡ false → AllByRecursion (λ m. pointwise nat_eq n m ≡ false) (ns ++ name ∷ [])
one-more n name [] h e = (e, tt)
one-more n name (m ∷ ms) h e = (h.0, one-more n name ms h.1 e)

-- a name that none of the names is stands apart from them
pub distinct_more : (name : List ℕ) (names : List (List ℕ)) → IsDistinct (pointwise nat_eq) names → position (pointwise nat_eq name) names ≡ None → IsDistinct (pointwise nat_eq) (names ++ name ∷ [])
distinct_more name names distinct none = go names distinct (none-differs name 0 names (sym (position_from-zero (pointwise nat_eq name) names) ∙ none))
  where
    go : (ns : List (List ℕ)) → IsDistinct (pointwise nat_eq) ns → AllByRecursion (λ m. pointwise nat_eq name m ≡ false) ns → IsDistinct (pointwise nat_eq) (ns ++ name ∷ [])
    go [] d h = IsDistinct-cons (pointwise nat_eq) name [] tt d
    go (n ∷ ns) d h =
        IsDistinct-cons (pointwise nat_eq) n (ns ++ name ∷ [])
        (one-more n name ns (IsDistinct-head (pointwise nat_eq) n ns d) (nat_list_eq_equiv.symm n name ∙ h.0))
        (go ns (IsDistinct-tail (pointwise nat_eq) n ns d) h.1)

-- no entry stands under a name that no centre has
lookup-none : (test : Vec ℕ → Bool) (i : ℕ) (entries : List Entry) → position_from test i (map (λ e. e.0) entries) ≡ None → lookup test entries ≡ None
lookup-none test i [] h = refl
lookup-none test i (e ∷ es) h = go (test e.0) (λ rest. lookup-none test (i + 1) es rest) h
  where
    go : (b : Bool) → (position_from test (i + 1) (map (λ e. e.0) es) ≡ None → lookup test es ≡ None) → cond b (Some i) (position_from test (i + 1) (map (λ e. e.0) es)) ≡ None → cond b (Some e.1) (lookup test es) ≡ None
    go true more h = cc h
    go false more h = more h

pub new_name : (name : List ℕ) (entries : List Entry) → map (λ e. e.0.items) entries ≡ map (λ e. e.1.name) entries
    → position (pointwise nat_eq name) (map (λ c. c.name) (centres_of entries)) ≡ None → lookup (λ (k : Vec ℕ). pointwise nat_eq name k.items) entries ≡ None
new_name name entries keys none =
    lookup-none (λ (k : Vec ℕ). pointwise nat_eq name k.items) 0 entries
    (sym (position_from-zero (λ (k : Vec ℕ). pointwise nat_eq name k.items) (map (λ e. e.0) entries)) ∙ number_is name entries keys ∙ none)

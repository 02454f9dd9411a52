-- The place of a name among names that are distinct.
use Rattle.std.proofs.Common.{◌≡◌, ℕ, ◌<◌, ◌∙◌, false, List, [], ◌∷◌, ◌++◌, length, get_or, nat_eq, Some, None, All, refl, sym, ap, subst, arith}
use Rattle.std.specs.List.{position, position_or_len, IsDistinct}
use Rattle.std.specs.Cmp.Lexicographic.{pointwise}
use Rattle.std.proofs.lemmas.Bool.{le-ltb, lt-ltb}
use Rattle.std.proofs.lemmas.Cmp.{nat_list_eq_equiv}
use Rattle.std.proofs.lemmas.List.{length-append, get_or_append_left}
use Rattle.std.proofs.lemmas.List.Elements.{All-head, All-tail}
use Rattle.std.proofs.lemmas.List.Sums.{position_or_len_is}
use Rattle.std.proofs.lemmas.Map.Keys.{apart_from_distinct}
use Rattle.std.proofs.Math.Seq.{get_or-append_seam}

-- what holds of each item holds of the one between two lists
pub holds_here : {X : Type 0} (P : X → Type 0) (xs ys all : List X) (x : X) → xs ++ x ∷ ys ≡ all → All P all → P x
holds_here P xs ys all x e h = go xs (subst (All P) (sym e) h)
  where
    go : (zs : List _) → All P (zs ++ x ∷ ys) → P x
    go [] h = All-head P x ys h
    go (z ∷ zs) h = go zs (All-tail P z (zs ++ x ∷ ys) h)

pub below_here : {X : Type 0} (xs ys all : List X) (x : X) → xs ++ x ∷ ys ≡ all → length xs < length all
below_here xs ys all x e = omega (arith, length-append xs (x ∷ ys), ap length e)

-- the place of the name at i is i
pub place_of : (names : List (List ℕ)) (i : ℕ) → IsDistinct (pointwise nat_eq) names → i < length names
    → position (pointwise nat_eq (get_or names i [])) names ≡ Some i
place_of names i distinct within = go (position_or_len_is (pointwise nat_eq name) names i [] (omega arith) others (λ h. nat_list_eq_equiv.refl name))
  where
    name : List ℕ
    name = get_or names i []

    others : (k : ℕ) → k < i → pointwise nat_eq name (get_or names k []) ≡ false
    others k low = nat_list_eq_equiv.symm name (get_or names k []) ∙ apart_from_distinct (pointwise nat_eq) names k i [] distinct low within

    go : position_or_len (pointwise nat_eq name) names ≡ i → position (pointwise nat_eq name) names ≡ Some i
    go e = rw (e, lt-ltb i (length names) within) refl

-- the place of a name between others, and that it isn't among those before it
pub place_here : (xs ys all : List (List ℕ)) (x : List ℕ) → xs ++ x ∷ ys ≡ all → IsDistinct (pointwise nat_eq) all
    → position (pointwise nat_eq x) all ≡ Some (length xs)
place_here xs ys all x e distinct =
    let at : get_or all (length xs) [] ≡ x = ap (λ l. get_or l (length xs) []) (sym e) ∙ get_or-append_seam xs x ys [] in
    ap (λ n. position (pointwise nat_eq n) all) (sym at) ∙ place_of all (length xs) distinct (below_here xs ys all x e)

pub new_here : (xs ys all : List (List ℕ)) (x : List ℕ) → xs ++ x ∷ ys ≡ all → IsDistinct (pointwise nat_eq) all
    → position (pointwise nat_eq x) xs ≡ None
new_here xs ys all x e distinct = go (position_or_len_is (pointwise nat_eq x) xs (length xs) [] (omega arith) others (λ h. absurd (omega arith)))
  where
    others : (k : ℕ) → k < length xs → pointwise nat_eq x (get_or xs k []) ≡ false
    others k low =
        let at : get_or all (length xs) [] ≡ x = ap (λ l. get_or l (length xs) []) (sym e) ∙ get_or-append_seam xs x ys [] in
        let before : get_or all k [] ≡ get_or xs k [] = ap (λ l. get_or l k []) (sym e) ∙ get_or_append_left xs (x ∷ ys) [] k low in
        nat_list_eq_equiv.symm x (get_or xs k [])
        ∙ ap (λ n. pointwise nat_eq n x) (sym before)
        ∙ ap (pointwise nat_eq (get_or all k [])) (sym at)
        ∙ apart_from_distinct (pointwise nat_eq) all k (length xs) [] distinct low (below_here xs ys all x e)

    go : position_or_len (pointwise nat_eq x) xs ≡ length xs → position (pointwise nat_eq x) xs ≡ None
    go e = rw (e, le-ltb (length xs) (length xs) (omega arith)) refl

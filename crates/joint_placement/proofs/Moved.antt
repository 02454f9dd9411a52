-- Rows whose variables are moved up hold of the part of a choice that begins there.
use Rattle.std.proofs.Common.{◌≡◌, ℕ, ◌+◌, ◌<◌, pos, ◌+ℤ◌, ◌≤ℤ◌, Bool, true, false, cond, List, [], ◌∷◌, length, take, drop, map, refl, sym, ap, subst, ◌∙◌}
use Rattle.std.specs.List.{AllByRecursion}
use Rattle.std.proofs.lemmas.List.{get_or-take, get_or-drop}
use Rattle.std.proofs.lemmas.List.Elements.{recursion_from_All}
use Rattle.zero_one.specs.declared.rows.Entry.{Entry}
use Rattle.zero_one.specs.declared.rows.Row.{Row}
use Rattle.zero_one.specs.Rows.{bit_of, row_sum, Meets, KnowsItsVars}
use Rattle.zero_one.specs.Program.{value_of}
use Rattle.joint_placement.specs.Programs.{moved_entry, moved_row}

-- the sum of entries that are moved up
pub row_sum-moved : (first : ℕ) (entries : List Entry) (x : List Bool) → row_sum (map (moved_entry first) entries) x ≡ row_sum entries (drop first x)
row_sum-moved first [] x = refl
row_sum-moved first (e ∷ es) x =
    ap (λ b. cond b e.coef (pos 0) +ℤ row_sum (map (moved_entry first) es) x) (sym (get_or-drop first x e.var false))
    ∙ ap (λ z. cond (bit_of (drop first x) e.var) e.coef (pos 0) +ℤ z) (row_sum-moved first es x)

-- the sum of entries of the first variables
pub row_sum-take : (n : ℕ) (entries : List Entry) (x : List Bool) → AllByRecursion (λ (e : Entry). e.var < n) entries → row_sum entries (take n x) ≡ row_sum entries x
row_sum-take n [] x known = refl
row_sum-take n (e ∷ es) x known =
    ap (λ b. cond b e.coef (pos 0) +ℤ row_sum es (take n x)) (get_or-take n x e.var false known.0)
    ∙ ap (λ z. cond (bit_of x e.var) e.coef (pos 0) +ℤ z) (row_sum-take n es x known.1)

same_sum : (first n : ℕ) (row : Row) (x : List Bool) → KnowsItsVars n row → row_sum (moved_row first row).entries x ≡ row_sum row.entries (take n (drop first x))
same_sum first n row x known = row_sum-moved first row.entries x ∙ sym (row_sum-take n row.entries (drop first x) (recursion_from_All (λ (e : Entry). e.var < n) row.entries known))

pub moved-meets : (first n : ℕ) (row : Row) (x : List Bool) → KnowsItsVars n row → Meets (take n (drop first x)) row → Meets x (moved_row first row)
moved-meets first n row x known met = subst (λ z. row.bound ≤ℤ z) (sym (same_sum first n row x known)) met

pub moved-meets_back : (first n : ℕ) (row : Row) (x : List Bool) → KnowsItsVars n row → Meets x (moved_row first row) → Meets (take n (drop first x)) row
moved-meets_back first n row x known met = subst (λ z. row.bound ≤ℤ z) (same_sum first n row x known) met

-- costs see no more bits than they are
pub value-take : (costs : List ℕ) (x : List Bool) → value_of costs (take (length costs) x) ≡ value_of costs x
value-take [] x = refl
value-take (c ∷ costs) [] = refl
value-take (c ∷ costs) (true ∷ x) = ap (λ v. c + v) (value-take costs x)
value-take (c ∷ costs) (false ∷ x) = value-take costs x

-- all rows of a program that is moved up
pub each-moved : (first n : ℕ) (rows : List Row) (x : List Bool) → AllByRecursion (KnowsItsVars n) rows → AllByRecursion (Meets (take n (drop first x))) rows → AllByRecursion (Meets x) (map (moved_row first) rows)
each-moved first n [] x known met = tt
each-moved first n (row ∷ rows) x known met = (moved-meets first n row x known.0 met.0, each-moved first n rows x known.1 met.1)

pub each-moved_back : (first n : ℕ) (rows : List Row) (x : List Bool) → AllByRecursion (KnowsItsVars n) rows → AllByRecursion (Meets x) (map (moved_row first) rows) → AllByRecursion (Meets (take n (drop first x))) rows
each-moved_back first n [] x known met = tt
each-moved_back first n (row ∷ rows) x known met = (moved-meets_back first n row x known.0 met.0, each-moved_back first n rows x known.1 met.1)

-- The best assignment, from one look to the next.
use Rattle.std.proofs.Common.{◌≡◌, ℕ, ◌+◌, ◌<◌, pos, inl, Option, ◌∙◌, refl, subst, sym, ap, [], ◌∷◌, ◌++◌, length, take, set, get_or, map, arith}
use Rattle.std.proofs.lemmas.List.{take_more, take_more_set, length-map, get_or-map}
use Rattle.std.proofs.lemmas.Option.{slice_get_within, get_or_from_slice_get}
use Rattle.zero_one.specs.Rows.{Meets}
use Rattle.zero_one.specs.Faults.{IsFirstBreach}
use Rattle.zero_one.specs.declared.rows.Row.{Row}
use Rattle.zero_one.specs.Contents.{Contents}
use Rattle.zero_one.specs.Program.{IsFeasible}
use Rattle.std.proofs.Common.{Bool, List}
use Rattle.branch_solver.specs.Best.{Best, Held, IsBest, IsTaken}
use Rattle.branch_solver.specs.Nodes.{Improves, IsAnswered, is_one}
use Rattle.branch_solver.proofs.Lower.{no_worse_same, no_worse_on}

pub improves_same : (program : Contents) (before after : Held) → after ≡ before → Improves program before after
improves_same program before after same =
    let P : Held → Type 0 = λ h. Improves program before h in
    subst P (sym same) (record { variables = refl; sound = λ is. is; no_worse = no_worse_same before.best })

pub improves_on : (program : Contents) (a b c : Held) → Improves program a b → Improves program b c → Improves program a c
improves_on program a b c first next = record {
  variables = next.variables ∙ first.variables;
  sound = λ is. next.sound (first.sound is);
  no_worse = no_worse_on a.best b.best c.best first.no_worse next.no_worse;
}

pub improves_taken : (program : Contents) (before : Held) (x : List Bool) (after : Held) → IsFeasible program x → IsTaken program before x after → Improves program before after
improves_taken program before x after feasible taken =
    let P : Held → Type 0 = λ h. IsBest program h.best in
    record {
      variables = ap (λ (h : Held). h.variables) taken.held;
      sound = λ is. subst P (sym taken.held) (feasible, refl);
      no_worse = taken.better;
    }

-- a row that the assignment breaks answers for it
pub breach : (program : Contents) (x : List Bool) (best : Option Best) (at : ℕ) → IsFirstBreach (Meets x) program.rows at → IsAnswered program x best
breach program x best at is =
    let here = is.broken.1 in
    let P : Row → Type 0 = λ row. ¬ Meets x row in
    inl (at, slice_get_within program.rows at is.broken.0 here, subst P (sym (get_or_from_slice_get program.rows at is.broken.0 (record { entries = []; bound = pos 0 }) here)) is.broken.2)

-- the bit of one fixed variable more
pub bits_more : (bits : List Bool) (fixed : List (Option Bool)) (i : ℕ) (d : Option Bool) → length bits ≡ length fixed → i < length fixed → take i bits ≡ take i (map is_one fixed) → take (i + 1) (set bits i (is_one (get_or fixed i d))) ≡ take (i + 1) (map is_one fixed)
bits_more bits fixed i d size inside same =
    let inside' : i < length (map is_one fixed) = omega (arith, inside, length-map fixed is_one) in
    take_more_set bits i (is_one (get_or fixed i d)) (omega (arith, size, inside))
    ∙ ap (λ bs. bs ++ is_one (get_or fixed i d) ∷ []) same
    ∙ sym (take_more (map is_one fixed) i (is_one d) inside' ∙ ap (λ b. take i (map is_one fixed) ++ b ∷ []) (get_or-map is_one fixed i d (is_one d) inside))

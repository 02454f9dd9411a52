-- One line more: the search stands for it too.
use Rattle.std.proofs.Common.{◌≡◌, ◌<◌, ◌≤◌, inl, inr, Option, Some, Bool, false, List, [], ◌∷◌, ◌++◌, length, take, refl, sym, ap, ◌∙◌, subst, arith, length-append}
use Rattle.std.proofs.lemmas.List.{take-append-le}
use Rattle.zero_one.specs.Contents.{Contents}
use Rattle.bound_cert.specs.declared.leaves.Goal.{Goal}
use Rattle.bound_cert.specs.declared.leaves.Line.{Line}
use Rattle.cert_checker.specs.declared.turns.Turn.{Turn}
use Rattle.cert_checker.specs.Paths.{path_after, path_past, fixed_by, fixed_over}
use Rattle.cert_checker.proofs.Parsing.{take_here, path_after-push}
use Rattle.cert_checker.proofs.Places.{place}
use Rattle.branch_solver.specs.Best.{goal_of}
use Rattle.branch_solver.specs.Given.{IsGivenUnder, IsGivenAt, AreGiven}
use Rattle.branch_solver.specs.Kept.{Kept, path_of, StandsFor}
use Rattle.branch_solver.specs.Steps.{BranchesLate, Gives, Advances}
use Rattle.branch_solver.proofs.Lower.{are_given_lower}

AreGiven-push : (program : Contents) (goal : Goal) (lines : List Line) (line : Line) → AreGiven program goal lines → IsGivenAt program goal (path_after lines) line → AreGiven program goal (lines ++ line ∷ [])
AreGiven-push program goal lines line given next = λ at l here.
    elim (place lines line at l here) [
      | inl old ↦
          let short : at ≤ length lines = omega (arith, old.0) in
          let P : List Line → Type 0 = λ ls. IsGivenAt program goal (path_after ls) l in
          subst P (sym (take-append-le at lines (line ∷ []) short)) (given at l old.1)
      | inr last ↦
          let e : lines ≡ take at (lines ++ line ∷ []) = sym (take_here lines line []) ∙ ap (λ n. take n (lines ++ line ∷ [])) (sym last.0) in
          let P : List Line → Type 0 = λ ls. IsGivenAt program goal (path_after ls) l in
          let Q : Line → Type 0 = λ x. IsGivenAt program goal (path_after lines) x in
          subst P e (subst Q last.1 next)
    ]

open_path : (kept : Kept) → kept.whole ≡ false → path_of kept ≡ Some kept.turns
open_path kept unfinished = rw unfinished refl

pub stands_longer : (program : Contents) (lines : List Line) (before : Kept) (line : Line) (after : Kept) → StandsFor program lines before → before.whole ≡ false → before.count < before.budget → Advances program before line after → Gives program lines before line after
stands_longer program lines before line after stands unfinished more moves =
    let here : path_after lines ≡ Some before.turns = sym stands.path ∙ open_path before unfinished in
    let fixed : fixed_over before.variables before.turns ≡ fixed_by program before.turns = ap (λ n. fixed_over n before.turns) stands.variables in
    let P : List (Option Bool) → Type 0 = λ f. IsGivenUnder program (goal_of after.best) f line in
    let Q : List (Option Bool) → Type 0 = λ f. BranchesLate program (goal_of after.best) f line in
    let R : Option (List Turn) → Type 0 = λ p. IsGivenAt program (goal_of after.best) p line in
    let next : IsGivenAt program (goal_of after.best) (path_after lines) line = subst R (sym here) (subst P fixed moves.given) in
    record {
      below = omega (arith, more, stands.count);
      budget = moves.budget;
      no_worse = moves.no_worse;
      stands = record {
        variables = moves.variables ∙ stands.variables;
        rows = moves.rows ∙ stands.rows;
        path = moves.path ∙ ap (λ p. path_past p line) (sym here) ∙ sym (path_after-push lines line);
        count = omega (arith, moves.count, stands.count, length-append lines (line ∷ []));
        within = omega (arith, moves.count, more, moves.budget);
        best = moves.sound stands.best;
        given = AreGiven-push program (goal_of after.best) lines line (are_given_lower program lines before.best after.best moves.no_worse stands.given) next;
      };
      late = λ path there.
          let same : before.turns ≡ path = (let e = sym here ∙ there in cc) in
          let S : List Turn → Type 0 = λ p. BranchesLate program (goal_of after.best) (fixed_by program p) line in
          subst S same (subst Q fixed moves.late);
    }

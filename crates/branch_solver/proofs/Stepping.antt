-- What a step answers: the next line, or an end.
use Rattle.std.proofs.Common.{◌≡◌, ℕ, ◌≤◌, Option, Some, None, true, false, List, [], length, refl, sym, subst, arith}
use Rattle.std.specs.Prelude.{option_map}
use Rattle.zero_one.specs.Contents.{Contents}
use Rattle.bound_cert.specs.declared.leaves.Line.{Line}
use Rattle.bound_cert.specs.Trees.{IsProof}
use Rattle.branch_solver.specs.declared.progress.Progress.TheVariants as progress
use Rattle.branch_solver.specs.Best.{Best, IsBest, goal_of}
use Rattle.branch_solver.specs.Kept.{Kept, StandsFor}
use Rattle.branch_solver.specs.Steps.{Steps, ended}
use Rattle.branch_solver.proofs.Sizes.{prefix_small}
use Rattle.branch_solver.proofs.Standing.{searches_prove, searches_are_open}

-- a search that gave no line
pub stands_new : (program : Contents) (kept : Kept) → kept.variables ≡ length program.costs → kept.rows ≡ length program.rows → kept.turns ≡ [] → kept.whole ≡ false → kept.count ≡ 0 → kept.best ≡ None → StandsFor program [] kept
stands_new program kept variables rows turns unfinished none no_best = record {
  variables = variables;
  rows = rows;
  path = rw (unfinished, turns) refl;
  count = none;
  within = omega (arith, none);
  best = let P : Option Best → Type 0 = λ b. IsBest program b in subst P (sym no_best) tt;
  given = λ at line here. absurd (cc);
}

-- a search whose tree is whole
pub steps_ended : (program : Contents) (lines : List Line) (kept : Kept) (line : Line) → StandsFor program lines kept → kept.whole ≡ true → Steps program lines kept line kept (ended kept.best)
steps_ended program lines kept line stands whole = by_best kept.best refl
  where
    by_best : (best : Option Best) → kept.best ≡ best → Steps program lines kept line kept (ended best)
    by_best None is =
        let P : Option Best → Type 0 = λ b. IsProof program lines (goal_of b) in
        (refl, subst P is (searches_prove program lines kept stands whole), is)
    by_best (Some best) is =
        let P : Option Best → Type 0 = λ b. IsProof program lines (goal_of b) in
        let Q : Option Best → Type 0 = λ b. IsBest program b in
        (refl, subst P is (searches_prove program lines kept stands whole), (best, is, subst Q is stands.best, refl))

-- a search that gave as many lines as it may
pub steps_cut_off : (program : Contents) (lines : List Line) (kept : Kept) (line : Line) (value : Option ℕ) → StandsFor program lines kept → kept.whole ≡ false → kept.budget ≤ kept.count → value ≡ option_map (λ (best : Best). best.value) kept.best → Steps program lines kept line kept (progress.Budget value)
steps_cut_off program lines kept line value stands unfinished full is =
    let open_prefix = searches_are_open program lines kept stands unfinished in (
      refl,
      record {
        full = omega (arith, stands.count, stands.within, full);
        open_prefix = open_prefix;
        small = prefix_small program lines (goal_of kept.best) open_prefix;
      },
      is,
    )

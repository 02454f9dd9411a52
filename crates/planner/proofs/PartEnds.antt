-- What a search of a set's program says of the set: its part as it is begun, and as it ends.
use Rattle.std.proofs.Common.{◌≡◌, ℕ, ◌+◌, ◌-◌, ◌^◌, ◌<◌, ◌≤◌, Bool, true, false, List, [], ◌++◌, length, Option, Some, None, refl, sym, ap, subst, ◌∙◌, inl, inr, arith}
use Rattle.std.specs.Prelude.{codes, ◌⊎◌}
use Rattle.std.proofs.lemmas.List.Elements.{All-nil}
use Rattle.zero_one.specs.Contents.{Contents}
use Rattle.zero_one.specs.Program.{IsFeasible, IsWithinLimits, value_of}
use Rattle.bound_cert.specs.declared.leaves.Goal.TheVariants.{Cost, Nothing}
use Rattle.bound_cert.specs.declared.leaves.Line.{Line}
use Rattle.bound_cert.specs.Trees.{leaf, IsProof, IsOpenPrefix, IsClosed, IsOpen}
use Rattle.bound_cert.proofs.Branching.{proof_bounds, proof_refutes}
use Rattle.workload.specs.World.{Lists}
use Rattle.slo_rules.specs.Cost.{policy_cost}
use Rattle.placement.specs.Placement.{IsSet, program_of, placed, decoded, IsPlaced, IsDecoded}
use Rattle.placement.proofs.Modes.{placing, decoding, least, none}
use Rattle.branch_solver.specs.Best as solver
use Rattle.branch_solver.specs.Kept.{Kept, StandsFor}
use Rattle.branch_solver.specs.Steps.{IsCutOff}
use Rattle.branch_solver.proofs.Standing.{searches_are_open, searches_prove}
use Rattle.plan_text.specs.Parts.{complete, none_allowed, cut_off}
use Rattle.plan_text.specs.PlanText.{begun_text, ending_text}
use Rattle.plan_text.specs.Plans.{goal_of, FitsFound}
use Rattle.planner.specs.declared.ends.SetEnd.TheVariants as set_end
use Rattle.planner.specs.Ends.{set_end_of, found_of}
use Rattle.planner.specs.Writes.{IsBegunPart, IsPartText}
use Rattle.planner.proofs.Lower.{prefix_lower, proof_lower}
use Rattle.planner.proofs.Decoded.{decoded_fits}

-- the policy of the best choice is allowed, and costs what is said
fits_found : (w : Lists) (set : ℕ) (best : Option solver.Best) → IsSet w set → solver.IsBest (program_of w set) best → FitsFound w set (found_of w set best)
fits_found w set None known sound = tt
fits_found w set (Some best) known sound = ((decoding w set known best.x sound.0).allowed, refl)

-- it costs at most the choice's value, so what closes against the value closes against the cost
cost_below : (w : Lists) (set : ℕ) (best : solver.Best) → IsSet w set → solver.IsBest (program_of w set) (Some best) → policy_cost w set (decoded w set best.x) ≤ best.value
cost_below w set best known sound =
    let d : IsDecoded w set best.x = decoding w set known best.x sound.0 in
    let value : best.value ≡ value_of (program_of w set).costs best.x = sound.1 in
    let below : policy_cost w set (decoded w set best.x) ≤ value_of (program_of w set).costs best.x = d.cost in
    omega (arith, value, below)

open_found : (w : Lists) (set : ℕ) (lines : List Line) (best : Option solver.Best) → IsSet w set → solver.IsBest (program_of w set) best → IsOpenPrefix (program_of w set) lines (solver.goal_of best) → IsOpenPrefix (program_of w set) lines (goal_of (cut_off (found_of w set best)))
open_found w set lines None known sound front = front
open_found w set lines (Some best) known sound front =
    prefix_lower (program_of w set) lines best.value (policy_cost w set (decoded w set best.x)) (cost_below w set best known sound) front

proof_found : (w : Lists) (set : ℕ) (lines : List Line) (best : Option solver.Best) → IsSet w set → solver.IsBest (program_of w set) best → IsProof (program_of w set) lines (solver.goal_of best) → IsProof (program_of w set) lines (goal_of (cut_off (found_of w set best)))
proof_found w set lines None known sound proof = proof
proof_found w set lines (Some best) known sound proof =
    proof_lower (program_of w set) lines best.value (policy_cost w set (decoded w set best.x)) (cost_below w set best known sound) proof

-- the lines that a search gave are those of a part that is begun
begun_own : (w : Lists) (budget set : ℕ) (lines : List Line) (kept : Kept) → IsSet w set → StandsFor (program_of w set) lines kept → kept.budget ≡ budget → IsBegunPart w budget set lines
begun_own w budget set lines kept known stands same = record {
  found = found_of w set kept.best;
  fits = fits_found w set kept.best known stands.best;
  within = let count : kept.count ≡ length lines = stands.count in let within : kept.count ≤ kept.budget = stands.within in omega (arith, count, within, same);
  shown = by_whole kept.whole refl;
}
  where
    by_whole : (whole : Bool) → kept.whole ≡ whole → IsOpenPrefix (program_of w set) lines (goal_of (cut_off (found_of w set kept.best))) ⊎ IsProof (program_of w set) lines (goal_of (cut_off (found_of w set kept.best)))
    by_whole false e = inl (open_found w set lines kept.best known stands.best (searches_are_open (program_of w set) lines kept stands e))
    by_whole true e = inr (proof_found w set lines kept.best known stands.best (searches_prove (program_of w set) lines kept stands e))

pub begun_part : (w : Lists) (budget set : ℕ) (program : Contents) (lines : List Line) (kept : Kept) → IsSet w set → program ≡ program_of w set → StandsFor program lines kept → kept.budget ≡ budget → IsBegunPart w budget set lines
begun_part w budget set program lines kept known is stands same =
    begun_own w budget set lines kept known (let P : Contents → Type 0 = λ p. StandsFor p lines kept in subst P is stands) same

-- no line at all begins each part
pub begun_nothing : (w : Lists) (budget set : ℕ) → IsBegunPart w budget set []
begun_nothing w budget set = record {
  found = None;
  fits = tt;
  within = omega arith;
  shown = inl (record {
    tree = leaf (record { s = 0; pairs = [] });
    well_formed = tt;
    longer = omega arith;
    front = refl;
    closed = All-nil (IsClosed (program_of w set) Nothing);
    opened = All-nil (IsOpen (program_of w set));
  });
}

-- how many lines a search gave
lines_within : (budget : ℕ) (program : Contents) (lines : List Line) (kept : Kept) → StandsFor program lines kept → kept.budget ≡ budget → length lines ≤ budget
lines_within budget program lines kept stands same =
    let count : kept.count ≡ length lines = stands.count in let within : kept.count ≤ kept.budget = stands.within in omega (arith, count, within, same)

-- a search that found a least choice ends with its policy, which costs just that and is least
complete_own : (w : Lists) (budget set : ℕ) (lines : List Line) (kept : Kept) (cost : ℕ) (best : solver.Best)
    → IsSet w set → IsWithinLimits (program_of w set) → StandsFor (program_of w set) lines kept → kept.budget ≡ budget
    → IsProof (program_of w set) lines (Cost cost) → solver.IsBest (program_of w set) (Some best) → best.value ≡ cost
    → IsPartText w budget set (set_end.Complete cost) (begun_text w set lines ++ ending_text w (length lines) (complete cost (decoded w set best.x)))
complete_own w budget set lines kept cost best known limits stands same proof sound is = record {
  part = record { lines = lines; ending = complete cost (decoded w set best.x) };
  text_is = refl;
  written = inl (record {
    accepted = record { shown = proof; ending = (d.allowed, cost_is) };
    fits = decoded_fits w set known best.x;
    within = lines_within budget (program_of w set) lines kept stands same;
  });
  holds = least w set known best.x (record { feasible = sound.0; least = λ y feasible. let low = bounds y feasible in omega (arith, low, value, is) });
  told = refl;
}
  where
    d : IsDecoded w set best.x
    d = decoding w set known best.x sound.0

    value : best.value ≡ value_of (program_of w set).costs best.x
    value = sound.1

    bounds : (y : List Bool) → IsFeasible (program_of w set) y → cost ≤ value_of (program_of w set).costs y
    bounds = proof_bounds (program_of w set) limits lines cost proof

    cost_is : policy_cost w set (decoded w set best.x) ≡ cost
    cost_is =
        let p : IsPlaced w set (decoded w set best.x) = placing w set known (decoded w set best.x) d.allowed in
        let low : cost ≤ value_of (program_of w set).costs (placed w set (decoded w set best.x)) = bounds _ p.feasible in
        let same : value_of (program_of w set).costs (placed w set (decoded w set best.x)) ≡ policy_cost w set (decoded w set best.x) = p.value in
        let most : policy_cost w set (decoded w set best.x) ≤ best.value = cost_below w set best known sound in
        omega (arith, low, same, most, is)

pub complete_part : (w : Lists) (budget set : ℕ) (program : Contents) (lines : List Line) (kept : Kept) (cost : ℕ) (best : solver.Best)
    → IsSet w set → program ≡ program_of w set → IsWithinLimits program → StandsFor program lines kept → kept.budget ≡ budget
    → IsProof program lines (Cost cost) → solver.IsBest program (Some best) → best.value ≡ cost
    → IsPartText w budget set (set_end.Complete cost) (begun_text w set lines ++ ending_text w (length lines) (complete cost (decoded w set best.x)))
complete_part w budget set program lines kept cost best known is limits stands same proof sound value =
    let P : Contents → Type 0 = λ p. StandsFor p lines kept in
    let Q : Contents → Type 0 = λ p. IsProof p lines (Cost cost) in
    let R : Contents → Type 0 = λ p. solver.IsBest p (Some best) in
    complete_own w budget set lines kept cost best known (subst IsWithinLimits is limits) (subst P is stands) same (subst Q is proof) (subst R is sound) value

-- a search that found that there is no choice ends without a policy
pub none_part : (w : Lists) (budget set : ℕ) (program : Contents) (lines : List Line) (kept : Kept)
    → IsSet w set → program ≡ program_of w set → IsWithinLimits program → StandsFor program lines kept → kept.budget ≡ budget → IsProof program lines Nothing
    → IsPartText w budget set set_end.NoPolicy (begun_text w set lines ++ codes "result none\n")
none_part w budget set program lines kept known is limits stands same proof =
    let Q : Contents → Type 0 = λ p. IsProof p lines Nothing in
    let own : IsProof (program_of w set) lines Nothing = subst Q is proof in
    record {
      part = record { lines = lines; ending = none_allowed };
      text_is = refl;
      written = inl (record {
        accepted = record { shown = own; ending = tt };
        fits = tt;
        within = lines_within budget program lines kept stands same;
      });
      holds = none w set known (proof_refutes (program_of w set) (subst IsWithinLimits is limits) lines own);
      told = refl;
    }

-- a search cut off at the budget ends with its best policy, if it has one
pub cut_part : (w : Lists) (budget set : ℕ) (program : Contents) (lines : List Line) (kept : Kept)
    → IsSet w set → program ≡ program_of w set → StandsFor program lines kept → kept.budget ≡ budget → IsCutOff program lines kept
    → IsPartText w budget set (set_end_of (cut_off (found_of w set kept.best))) (begun_text w set lines ++ ending_text w budget (cut_off (found_of w set kept.best)))
cut_part w budget set program lines kept known is stands same cut =
    let P : Contents → Type 0 = λ p. StandsFor p lines kept in
    let Q : Contents → Type 0 = λ p. IsCutOff p lines kept in
    let own = subst P is stands in
    let off : IsCutOff (program_of w set) lines kept = subst Q is cut in
    let full : length lines ≡ kept.budget = off.full in
    let small : length lines < 2 ^ (length (program_of w set).costs + 1) - 1 = off.small in
    record {
      part = record { lines = lines; ending = cut_off (found_of w set kept.best) };
      text_is = ap (λ n. begun_text w set lines ++ ending_text w n (cut_off (found_of w set kept.best))) (sym (full ∙ same));
      written = inr (record {
        found = found_of w set kept.best;
        ending = refl;
        fits = fits_found w set kept.best known own.best;
        full = full ∙ same;
        open_prefix = open_found w set lines kept.best known own.best off.open_prefix;
        small = let N : ℕ → Type 0 = λ n. n < 2 ^ (length (program_of w set).costs + 1) - 1 in subst N (full ∙ same) small;
      });
      holds = tt;
      told = refl;
    }

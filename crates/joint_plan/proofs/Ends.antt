-- What a search of the joint program says of the joint plans: a text as it is begun, and as it ends.
use Rattle.std.proofs.Common.{◌≡◌, ℕ, ◌+◌, ◌*◌, ◌-◌, ◌^◌, ◌<◌, ◌≤◌, Bool, true, false, List, [], ◌∷◌, length, get_or, Option, Some, None, refl, subst, ◌∙◌, inl, inr, arith}
use Rattle.std.specs.Prelude.{◌⊎◌, All}
use Rattle.std.proofs.lemmas.List.Elements.{All-nil, All-head, All-tail, All-map}
use Rattle.std.proofs.lemmas.List.FromFn.{length-range_with_len, get_or-range_with_len}
use Rattle.zero_one.specs.Contents.{Contents}
use Rattle.zero_one.specs.Program.{IsFeasible, IsWithinLimits, value_of}
use Rattle.bound_cert.specs.declared.leaves.Goal.TheVariants.{Cost, Nothing}
use Rattle.bound_cert.specs.declared.leaves.Line.{Line}
use Rattle.bound_cert.specs.Trees.{leaf, IsProof, IsOpenPrefix, IsClosed, IsOpen}
use Rattle.bound_cert.proofs.Branching.{proof_bounds, proof_refutes}
use Rattle.workload.specs.World.{Lists, IsComplete, IsNamed}
use Rattle.slo_rules.specs.PolicyLaws.{HasFitSets}
use Rattle.machine_text.specs.Machines.{Fleet}
use Rattle.placement.specs.Placement as set_policy
use Rattle.joint_placement.specs.JointPlans.{JointPlan, sets, policy_of, IsJointPlan, joint_cost}
use Rattle.joint_placement.specs.Variables.{joint_costs}
use Rattle.joint_placement.specs.Programs.{joint_program}
use Rattle.joint_placement.proofs.ReadingOff.{joint-costs}
use Rattle.slo_rules.proofs.AllowedPolicies.{allowed_names}
use Rattle.joint_plan.specs.JointText.{NamesAll}
use Rattle.joint_placement.specs.Placed.{part_of, placed, decoded}
use Rattle.joint_placement.specs.Laws.{IsPlaced, IsDecoded}
use Rattle.joint_placement.proofs.JointLaws.{placing, decoding, least, none}
use Rattle.branch_solver.specs.Best as solver
use Rattle.branch_solver.specs.Kept.{Kept, StandsFor}
use Rattle.branch_solver.specs.Steps.{IsCutOff}
use Rattle.branch_solver.proofs.Standing.{searches_are_open, searches_prove}
use Rattle.planner.proofs.Lower.{prefix_lower, proof_lower}
use Rattle.planner.proofs.Decoded.{decoded_fits}
use Rattle.joint_plan.specs.Endings.{complete, none_there, cut_off, goal_of, found_of}
use Rattle.joint_plan.specs.Shown.{HasFitPolicies, IsPriced, FitsFound, IsWhole, IsCut, IsBegun}

-- what a choice is worth: less than its number of costs times the greatest
value_small : (costs : List ℕ) (x : List Bool) → All (λ cost. cost < 10 ^ 24) costs → value_of costs x ≤ length costs * 10 ^ 24
value_small [] x small = omega arith
value_small (cost ∷ costs) [] small = omega arith
value_small (cost ∷ costs) (true ∷ x) small =
    omega (arith, All-head (λ cost. cost < 10 ^ 24) cost costs small, value_small costs x (All-tail (λ cost. cost < 10 ^ 24) cost costs small))
value_small (cost ∷ costs) (false ∷ x) small =
    omega (arith, value_small costs x (All-tail (λ cost. cost < 10 ^ 24) cost costs small))

pub value_fits : (program : Contents) → IsWithinLimits program → (x : List Bool) → value_of program.costs x < 2 ^ 128
value_fits program limits x =
    let most : length program.costs ≤ 4096 = limits.variables in
    omega (arith, most, value_small program.costs x limits.costs)

module _ (w : Lists) (fleet : Fleet) (known : IsComplete w) (named : IsNamed w) where
  abbrev program : Contents
  program = joint_program w fleet

  law : (best : solver.Best) → solver.IsBest program (Some best) → IsDecoded w fleet best.x
  law best sound = decoding w fleet known named best.x sound.0

  priced : (best : solver.Best) → solver.IsBest program (Some best) → (cost : ℕ) → joint_cost w fleet (decoded w fleet best.x) ≡ cost → IsPriced w fleet cost (decoded w fleet best.x)
  priced best sound cost is = record { joint = (law best sound).plan; capacity = (law best sound).capacity; costs = is }

  -- the plan of the best choice meets capacity, and costs what is said
  pub fits_found : (best : Option solver.Best) → solver.IsBest program best → FitsFound w fleet (found_of w fleet best)
  fits_found None sound = tt
  fits_found (Some best) sound = priced best sound (joint_cost w fleet (decoded w fleet best.x)) refl

  -- it costs at most the choice's value, so what closes against the value closes against the cost
  cost_below : (best : solver.Best) → solver.IsBest program (Some best) → joint_cost w fleet (decoded w fleet best.x) ≤ best.value
  cost_below best sound =
      let value : best.value ≡ value_of program.costs best.x = sound.1 in
      let below : joint_cost w fleet (decoded w fleet best.x) ≤ value_of program.costs best.x = (law best sound).cost in
      omega (arith, value, below)

  open_found : (lines : List Line) (best : Option solver.Best) → solver.IsBest program best → IsOpenPrefix program lines (solver.goal_of best) → IsOpenPrefix program lines (goal_of (cut_off (found_of w fleet best)))
  open_found lines None sound front = front
  open_found lines (Some best) sound front =
      prefix_lower program lines best.value (joint_cost w fleet (decoded w fleet best.x)) (cost_below best sound) front

  proof_found : (lines : List Line) (best : Option solver.Best) → solver.IsBest program best → IsProof program lines (solver.goal_of best) → IsProof program lines (goal_of (cut_off (found_of w fleet best)))
  proof_found lines None sound proof = proof
  proof_found lines (Some best) sound proof =
      proof_lower program lines best.value (joint_cost w fleet (decoded w fleet best.x)) (cost_below best sound) proof

  -- how many lines a search gave
  lines_within : (budget : ℕ) (lines : List Line) (kept : Kept) → StandsFor program lines kept → kept.budget ≡ budget → length lines ≤ budget
  lines_within budget lines kept stands same =
      let count : kept.count ≡ length lines = stands.count in
      let within : kept.count ≤ kept.budget = stands.within in
      omega (arith, count, within, same)

  -- the lines that a search gave are those of a text that is begun
  pub begun : (budget : ℕ) (lines : List Line) (kept : Kept) → StandsFor program lines kept → kept.budget ≡ budget → IsBegun w fleet budget lines
  begun budget lines kept stands same = record {
    found = found_of w fleet kept.best;
    fits = fits_found kept.best stands.best;
    within = lines_within budget lines kept stands same;
    shown = by_whole kept.whole refl;
  }
    where
      by_whole : (whole : Bool) → kept.whole ≡ whole → IsOpenPrefix program lines (goal_of (cut_off (found_of w fleet kept.best))) ⊎ IsProof program lines (goal_of (cut_off (found_of w fleet kept.best)))
      by_whole false e = inl (open_found lines kept.best stands.best (searches_are_open program lines kept stands e))
      by_whole true e = inr (proof_found lines kept.best stands.best (searches_prove program lines kept stands e))

  -- the sets of a choice's policies
  fit_policies : (x : List Bool) → HasFitPolicies (decoded w fleet x)
  unfolding decoded
  fit_policies x =
      All-map HasFitSets (λ set. set_policy.decoded w set (part_of w x set)) (sets w)
      (λ k d inside. decoded_fits w (get_or (sets w) k d) (a_set k d inside) (part_of w x (get_or (sets w) k d)))
    where
      a_set : (k d : ℕ) → k < length (sets w) → set_policy.IsSet w (get_or (sets w) k d)
      a_set k d inside =
          let long : length (sets w) ≡ length w.sets = length-range_with_len 0 (length w.sets) in
          let low : k < length w.sets = omega (arith, inside, long) in
          let at : get_or (sets w) k d ≡ 0 + k = get_or-range_with_len 0 (length w.sets) k d low in
          record { complete = known; named = named; there = omega (arith, at, low) }

  -- a search that found a least choice ends with its plan, which costs just that and is least
  pub complete_whole : (budget : ℕ) (lines : List Line) (kept : Kept) (cost : ℕ) (best : solver.Best)
      → IsWithinLimits program → StandsFor program lines kept → kept.budget ≡ budget
      → IsProof program lines (Cost cost) → solver.IsBest program (Some best) → best.value ≡ cost
      → IsWhole w fleet budget lines (complete cost (decoded w fleet best.x))
  complete_whole budget lines kept cost best limits stands same proof sound is = record {
    accepted = record { shown = proof; fits = priced best sound cost cost_is };
    holds = least w fleet known named best.x (record { feasible = sound.0; least = λ y feasible. let low = bounds y feasible in omega (arith, low, value, is) });
    fits = fit_policies best.x;
    within = lines_within budget lines kept stands same;
  }
    where
      value : best.value ≡ value_of program.costs best.x
      value = sound.1

      bounds : (y : List Bool) → IsFeasible program y → cost ≤ value_of program.costs y
      bounds = proof_bounds program limits lines cost proof

      cost_is : joint_cost w fleet (decoded w fleet best.x) ≡ cost
      cost_is =
          let d = law best sound in
          let p : IsPlaced w fleet (decoded w fleet best.x) = placing w fleet known named (decoded w fleet best.x) d.plan d.capacity in
          let low : cost ≤ value_of program.costs (placed w fleet (decoded w fleet best.x)) = bounds _ p.feasible in
          let same_value : value_of program.costs (placed w fleet (decoded w fleet best.x)) ≡ joint_cost w fleet (decoded w fleet best.x) = p.value in
          let most : joint_cost w fleet (decoded w fleet best.x) ≤ best.value = cost_below best sound in
          omega (arith, low, same_value, most, is)

  -- a search that found that there is no choice ends without a plan
  pub none_whole : (budget : ℕ) (lines : List Line) (kept : Kept)
      → IsWithinLimits program → StandsFor program lines kept → kept.budget ≡ budget → IsProof program lines Nothing
      → IsWhole w fleet budget lines none_there
  none_whole budget lines kept limits stands same proof = record {
    accepted = record { shown = proof; fits = tt };
    holds = none w fleet known named (proof_refutes program limits lines proof);
    fits = tt;
    within = lines_within budget lines kept stands same;
  }

  -- a search cut off at the budget ends with its best plan, if it has one
  pub cut_whole : (budget : ℕ) (lines : List Line) (kept : Kept)
      → StandsFor program lines kept → kept.budget ≡ budget → IsCutOff program lines kept
      → IsCut w fleet budget lines (cut_off (found_of w fleet kept.best))
  cut_whole budget lines kept stands same off =
      let full : length lines ≡ kept.budget = off.full in
      let small : length lines < 2 ^ (length program.costs + 1) - 1 = off.small in
      record {
        found = found_of w fleet kept.best;
        is = refl;
        fits = fits_found kept.best stands.best;
        full = full ∙ same;
        open_prefix = open_found lines kept.best stands.best off.open_prefix;
        small = let N : ℕ → Type 0 = λ n. n < 2 ^ (length program.costs + 1) - 1 in subst N (full ∙ same) small;
      }

-- no line at all begins each text
pub begun_nothing : (w : Lists) (fleet : Fleet) (budget : ℕ) → IsBegun w fleet budget []
begun_nothing w fleet budget = record {
  found = None;
  fits = tt;
  within = omega arith;
  shown = inl (record {
    tree = leaf (record { s = 0; pairs = [] });
    well_formed = tt;
    longer = omega arith;
    front = refl;
    closed = All-nil (IsClosed (joint_program w fleet) Nothing);
    opened = All-nil (IsOpen (joint_program w fleet));
  });
}

-- a plan of a world names its centres alone
pub names_all : (w : Lists) (fleet : Fleet) (plan : JointPlan) → IsComplete w → IsJointPlan w fleet plan → NamesAll w plan
names_all w fleet plan known joint set there = allowed_names w set (policy_of plan set) known there (joint.allowed set there)

-- a plan that costs no more than a choice is worth has a cost that fits
pub cost_fits : (w : Lists) (fleet : Fleet) (plan : JointPlan) (x : List Bool) → IsWithinLimits (joint_program w fleet) → joint_cost w fleet plan ≤ value_of (joint_costs w fleet) x → joint_cost w fleet plan < 2 ^ 128
cost_fits w fleet plan x limits low =
    let fits : value_of (joint_costs w fleet) x < 2 ^ 128 = subst (λ cs. value_of cs x < 2 ^ 128) (joint-costs w fleet) (value_fits (joint_program w fleet) limits x) in
    omega (arith, low, fits)

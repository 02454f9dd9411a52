-- The part of the next set, from its line on.
use Rattle.std.proofs.Common.{◌≡◌, ℕ, ◌+◌, List, [], ◌∷◌, ◌++◌, length, sym, ap, ◌∙◌, subst, refl, append_assoc, append-nil, codes}
use Rattle.std.specs.Prelude.{Option, Some, None, Result, Ok, Err}
use Rattle.zero_one.specs.Contents.{Contents}
use Rattle.span_base.specs.Files.{Files}
use Rattle.bound_cert.specs.declared.leaves.Line.{Line}
use Rattle.workload.specs.World.{Lists}
use Rattle.slo_rules.specs.PolicyText.{policy_text}
use Rattle.plan_text.specs.Parts.{Part, complete, none_allowed}
use Rattle.plan_text.specs.PlanText.{begun_text, cost_line}
use Rattle.plan_text.specs.Plans.{begun_plan, IsAcceptedPart}
use Rattle.zero_one.specs.Program.{IsWithinLimits}
use Rattle.placement.specs.Placement.{IsSet}
use Rattle.plan_check.proofs.Truths.{accepted_true}
use Rattle.plan_check.specs.declared.fault.CheckFault.{CheckFault}
use Rattle.plan_check.specs.declared.lines.PlanLines.{PlanLines}
use Rattle.plan_check.specs.declared.tree.Claim.{Claim}
use Rattle.plan_check.specs.Reading.{HasRead, line_count}
use Rattle.plan_check.specs.Places.{program_at, set_read, parts_read, policy_read, Meets, RefusesInTree}
use Rattle.plan_check.specs.Parts.{ReadsLines, ReadsTree, ReadsPolicy}
use Rattle.plan_check.specs.Checks.{IsNextPart}
use Rattle.plan_check.proofs.PartTexts.{read_more, regroup}
use Rattle.plan_check.proofs.Trees.{begun-is}
use Rattle.plan_check.proofs.Stops.{read_as}

-- a tree read behind a set's line is that of the set's part
pub tree_of : (w : Lists) (program : Contents) (files : Option Files) (name : List ℕ) (parts : List Part) (old new : PlanLines) (r : Result (Option Claim) CheckFault) → program ≡ program_at w parts
    → ((front : List ℕ) → HasRead files name front old → ReadsLines program files name front new r) → HasRead files name (set_read w parts) old → ReadsTree w files name parts new r
tree_of w program files name parts old new r is reads read =
    of_part r (subst (λ (p : Contents). ReadsLines p files name (set_read w parts) new r) is (reads (set_read w parts) read))
  where
    of_part : (r : Result (Option Claim) CheckFault) → ReadsLines (program_at w parts) files name (set_read w parts) new r → ReadsTree w files name parts new r
    of_part (Ok (Some claim)) found =
        let text = begun-is w parts found.0 in (
          found.0,
          found.1,
          found.2,
          found.3 ∙ ap (λ (t : List ℕ). line_count t + 1) text,
          read_as files name _ _ new (ap (λ (t : List ℕ). t ++ cost_line claim.cost) text ∙ sym (append-nil (begun_plan w parts found.0 ++ cost_line claim.cost))) found.4,
        )
    of_part (Ok None) found = (found.0, found.1, read_as files name _ _ new (ap (λ (t : List ℕ). t ++ codes "result none\n") (begun-is w parts found.0)) found.2)
    of_part (Err fault) stops = (
      stops.0,
      record {
        taken = stops.1.taken;
        met = subst (λ (t : List ℕ). Meets files name t (RefusesInTree (program_at w parts) (line_count (set_read w parts)) stops.0) fault) (begun-is w parts stops.0) stops.1.met;
      },
    )

-- what reading a tree gives, over the files that the shelf told at first
pub tree_at : (w : Lists) (files now : Option Files) (name : List ℕ) (parts : List Part) (old new : PlanLines) (r : Result (Option Claim) CheckFault) → now ≡ files
    → (HasRead now name (set_read w parts) old → ReadsTree w now name parts new r) → HasRead files name (set_read w parts) old → ReadsTree w files name parts new r
tree_at w files now name parts old new r same reads =
    subst (λ (f : Option Files). HasRead f name (set_read w parts) old → ReadsTree w f name parts new r) same reads

-- and reading a policy
pub policy_at : (w : Lists) (files now : Option Files) (name : List ℕ) (parts : List Part) (tree : List Line) (cost : ℕ) (old new : PlanLines) (r : Result (Unit {0}) CheckFault) → now ≡ files
    → (HasRead now name (policy_read w parts tree cost []) old → ReadsPolicy w now name parts tree cost new r) → HasRead files name (policy_read w parts tree cost []) old
    → ReadsPolicy w files name parts tree cost new r
policy_at w files now name parts tree cost old new r same reads =
    subst (λ (f : Option Files). HasRead f name (policy_read w parts tree cost []) old → ReadsPolicy w f name parts tree cost new r) same reads

-- a part with its policy
pub part_complete : (w : Lists) (files : Option Files) (name : List ℕ) (parts : List Part) (claim : Claim) (middle new : PlanLines)
    → IsSet w (length parts) → IsWithinLimits (program_at w parts)
    → (tree : ReadsTree w files name parts middle (Ok (Some claim))) → ReadsPolicy w files name parts tree.0 claim.cost new (Ok tt)
    → IsNextPart w files name parts new (Some claim.cost)
part_complete w files name parts claim middle new known limits tree policy =
    let part : Part = record { lines = tree.0; ending = complete claim.cost policy.0 } in
    let ok : IsAcceptedPart w (length parts) part = record { shown = tree.2; ending = (policy.1, policy.2) } in
    let text : ((begun_plan w parts tree.0 ++ cost_line claim.cost) ++ policy_text w policy.0) ≡ parts_read w (parts ++ part ∷ []) =
    regroup (parts_read w parts) (begun_text w (length parts) tree.0) (cost_line claim.cost) (policy_text w policy.0) ∙ sym (read_more w parts part) in
    record {
      part = part;
      accepted = record { accepted = ok; holds = accepted_true w (length parts) part known limits ok; limits = limits; read = (tree.1, policy.3) };
      cost_is = refl;
      read = read_as files name _ _ new text policy.4;
    }

-- a part without one
pub part_none : (w : Lists) (files : Option Files) (name : List ℕ) (parts : List Part) (new : PlanLines)
    → IsSet w (length parts) → IsWithinLimits (program_at w parts) → ReadsTree w files name parts new (Ok None) → IsNextPart w files name parts new None
part_none w files name parts new known limits tree =
    let part : Part = record { lines = tree.0; ending = none_allowed } in
    let ok : IsAcceptedPart w (length parts) part = record { shown = tree.1; ending = tt } in
    let text : (begun_plan w parts tree.0 ++ codes "result none\n") ≡ parts_read w (parts ++ part ∷ []) =
    append_assoc (parts_read w parts) (begun_text w (length parts) tree.0) (codes "result none\n") ∙ sym (read_more w parts part) in
    record {
      part = part;
      accepted = record { accepted = ok; holds = accepted_true w (length parts) part known limits ok; limits = limits; read = tt };
      cost_is = refl;
      read = read_as files name _ _ new text tree.2;
    }

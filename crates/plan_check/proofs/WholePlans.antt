-- A check of an accepted plan's file fails only as the shelf, the sink or memory has it, and what was written to its end is such a plan.
use Rattle.std.proofs.Common.{◌≡◌, ℕ, ◌<◌, ◌≤◌, inl, inr, true, false, List, length, Some, refl, sym, ap, subst, ◌∙◌, arith, lit≤}
use Rattle.std.specs.Prelude.{slice_get}
use Rattle.std.proofs.lemmas.Option.{slice_get_within}
use Rattle.std.proofs.Math.Nat.{lt_of_lt_of_le}
use Rattle.span_base.specs.Files.{Files}
use Rattle.workload.specs.World.{Lists, IsComplete, IsNamed}
use Rattle.placement.specs.Placement.{IsSet, program_of}
use Rattle.plan_text.specs.Parts.{Part, Ending, complete, none_allowed, cut_off, is_cut, completes}
use Rattle.plan_text.specs.Plans.{IsAcceptedPart, FitsSet, HasFitPolicy, goal_of, IsWholePart, IsWrittenPart, IsLeastPlan, IsPlanWithout}
use Rattle.plan_text.specs.PlanLaws.{FitsEnding, FitsPart}
use Rattle.plan_check.specs.declared.fault.CheckFault.{CheckFault}
use Rattle.plan_check.specs.Laws.{IsFailing, IsPlanFile, PlanFilesAreAccepted, IsWholePlan, WholePlansAreAccepted}
use Rattle.plan_check.proofs.Following.{IsOutsideFault, IsSoundFile}
use Rattle.plan_check.proofs.ProgramLimits.{set_within}
use Rattle.plan_check.proofs.Taking.{proof_taken, taken_within}
use Rattle.plan_check.proofs.NextNode.{cost_small}
use Rattle.plan_check.proofs.LineRuns.{plan_runs}
use Rattle.plan_check.proofs.Stopping.{stops_outside}

-- the numbers of a part fit
ending_fits : (w : Lists) (set : ℕ) (ending : Ending) → IsSet w set → FitsSet w set ending → HasFitPolicy ending → FitsEnding ending
ending_fits w set (complete c p) known fits fit = (lt_of_lt_of_le (cost_small w set c p known (set_within w set known) fits) (lit≤ tt), fit)
ending_fits w set none_allowed known fits fit = tt
ending_fits w set (cut_off found) known fits fit = absurd fits

part_fits : (w : Lists) (set : ℕ) (part : Part) → IsSet w set → IsAcceptedPart w set part → HasFitPolicy part.ending → FitsPart part
part_fits w set part known accepted fit = record {
  lines = taken_within (program_of w set) part.lines (set_within w set known) (proof_taken (program_of w set) (goal_of part.ending) part.lines accepted.shown);
  ending = ending_fits w set part.ending known accepted.ending fit;
}

sound_file : (w : Lists) (files : Files) (name : List ℕ) (parts : List Part) → IsComplete w → IsNamed w → IsPlanFile w files name parts → IsSoundFile w files name parts
sound_file w files name parts whole named plan = record {
  file = plan.file;
  within = record { bytes = plan.few; lines = plan_runs w parts whole named (λ set part e. (there set part e, plan.accepted set part e)) };
  sound = record {
    one_each = plan.one_each;
    accepted = plan.accepted;
    fit = λ set part e. part_fits w set part (record { complete = whole; named = named; there = there set part e }) (plan.accepted set part e) (plan.fits set part e);
  };
}
  where
    there : (set : ℕ) (part : Part) → slice_get parts set ≡ Some part → set < length w.sets
    there set part e = omega (arith, slice_get_within parts set part e, plan.one_each)

outside : (fault : CheckFault) → IsOutsideFault fault → IsFailing fault
outside fault (inl read) = inl read
outside fault (inr none) = inr (inr none)

-- so its check stops only as the shelf, the sink or memory has it
pub files_accepted : PlanFilesAreAccepted
files_accepted w whole named files name parts plan from now fault checks =
    elim checks.1.why [
      | inl why ↦ outside fault (stops_outside w whole named files name parts checks.0 fault (sound_file w files name parts whole named plan) checks.1.few checks.1.accepted why.0)
      | inr why ↦ inr why.0
    ]

-- a part that isn't cut off is whole
part_whole : (w : Lists) (budget set : ℕ) (part : Part) → IsWrittenPart w budget set part → is_cut part.ending ≡ false → IsWholePart w budget set part
part_whole w budget set part (inl whole) uncut = whole
part_whole w budget set part (inr cut) uncut = absurd (let e : true ≡ false = sym (ap is_cut cut.ending) ∙ uncut in cc)

pub whole_accepted : WholePlansAreAccepted
whole_accepted w budget text plan few files name file = record {
  file = file ∙ ap Some plan.written.text_is;
  few = subst (λ (t : List ℕ). length t ≤ 4294967295) plan.written.text_is few;
  one_each = plan.written.one_each;
  accepted = λ set part e. (here set part e).accepted;
  fits = λ set part e. (here set part e).fits;
}
  where
    here : (set : ℕ) (part : Part) → slice_get plan.parts set ≡ Some part → IsWholePart w budget set part
    here set part e = part_whole w budget set part (plan.written.written set part e) (plan.uncut set part e)

-- a plan in which every set has its least policy is whole, and so is one in which a set has none
complete_uncut : (ending : Ending) → completes ending ≡ true → is_cut ending ≡ false
complete_uncut (complete c p) e = refl
complete_uncut none_allowed e = absurd (cc)
complete_uncut (cut_off found) e = absurd (cc)

pub least_whole : (w : Lists) (budget : ℕ) (text : List ℕ) → IsLeastPlan w budget text → IsWholePlan w budget text
least_whole w budget text plan = record { parts = plan.parts; written = plan.written; uncut = λ set part e. complete_uncut part.ending (plan.complete set part e) }

pub without_whole : (w : Lists) (budget : ℕ) (text : List ℕ) (lacking : ℕ) → IsPlanWithout w budget text lacking → IsWholePlan w budget text
without_whole w budget text lacking plan = record { parts = plan.parts; written = plan.written; uncut = plan.uncut }

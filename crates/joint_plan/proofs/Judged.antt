-- Plans that were read and judged, and whole texts of them.
use Rattle.std.proofs.Common.{◌≡◌, ℕ, ◌^◌, ◌<◌, ◌≤◌, List, ◌++◌, length, refl, sym, ap, subst, ◌∙◌, inl, inr, append_assoc, codes, arith}
use Rattle.std.specs.Prelude.{Option, Some, None, Result, Ok, Err, IsErrOf}
use Rattle.std.specs.List.{flat_map, range_with_len}
use Rattle.span_base.specs.Files.{Files}
use Rattle.span_base.specs.declared.policy.Policy.{Policy}
use Rattle.zero_one.specs.Contents.{Contents}
use Rattle.zero_one.specs.Program.{IsWithinLimits, value_of}
use Rattle.bound_cert.specs.declared.leaves.Line.{Line}
use Rattle.bound_cert.proofs.Branching.{proof_bounds, proof_refutes}
use Rattle.workload.specs.World.{Lists, IsComplete, IsNamed, centre_count}
use Rattle.machine_text.specs.Machines.{Fleet}
use Rattle.joint_placement.specs.JointPlans.{JointPlan, IsJointPlan, sets, machines_in, joint_cost}
use Rattle.joint_placement.specs.Programs.{joint_program}
use Rattle.joint_placement.specs.Placed.{placed}
use Rattle.joint_placement.specs.Laws.{IsPlaced}
use Rattle.joint_placement.proofs.JointLaws.{placing, none}
use Rattle.plan_text.specs.PlanText.{cost_line}
use Rattle.plan_check.specs.declared.fault.CheckFault.{CheckFault}
use Rattle.plan_check.specs.declared.lines.PlanLines.{PlanLines}
use Rattle.plan_check.specs.declared.tree.Claim.{Claim}
use Rattle.plan_check.specs.Reading.{HasRead}
use Rattle.plan_check.specs.Parts.{ReadsLines}
use Rattle.joint_plan.specs.Endings.{Ending, complete, none_there, cut_off}
use Rattle.joint_plan.specs.JointText.{set_text, machines_line, plan_text, begun_text, ending_text}
use Rattle.joint_plan.specs.Shown.{IsAccepted, IsTrueOf}
use Rattle.joint_plan.specs.Stops.{sets_text, fleet_text, IsWholePlan, AllAllowed, AllBorne, JudgesPlan, ReadsPlan, StopsInPlan, judged}
use Rattle.span_base.proofs.Appending.{Appends-nothing}
use Rattle.shelf_lines.specs.Lines.{IsFile}
use Rattle.joint_plan.specs.declared.fault.JointCheckFault.TheVariants.{Check}
use Rattle.joint_plan.specs.Checks.{opening_of, plan_front, ReadsBody, ReadsLast, ReadsText, ChecksJoint, in_plan}
use Rattle.joint_plan.proofs.OtherLines.{begins_read}
use Rattle.joint_plan.proofs.Ends.{value_fits}

-- the text of all sets and all centres is the plan's
pub whole_text : (w : Lists) (policies : List Policy) (numbers : List ℕ) → length policies ≡ length w.sets → length numbers ≡ centre_count w
    → sets_text w policies ++ fleet_text w numbers ≡ plan_text w (record { policies = policies; machines = numbers })
unfolding plan_text
whole_text w policies numbers all every =
    let plan : JointPlan = record { policies = policies; machines = numbers } in
    ap (λ n. flat_map (set_text w plan) (range_with_len 0 n) ++ fleet_text w numbers) all
    ∙ ap (λ n. flat_map (set_text w plan) (sets w) ++ flat_map (λ d. machines_line w d (machines_in plan d)) (range_with_len 0 n)) every

-- a plan whose policies are allowed and whose machines bear their loads has a cost that fits
joint_of : (w : Lists) (fleet : Fleet) (plan : JointPlan) → IsWholePlan w plan → AllAllowed w plan → AllBorne w fleet plan → IsJointPlan w fleet plan
joint_of w fleet plan whole allowed borne = record { policies = whole.policies; machines = whole.machines; allowed = allowed; few = λ d low. (borne d low).0 }

pub cost_small : (w : Lists) (fleet : Fleet) (plan : JointPlan) → IsComplete w → IsNamed w → IsWithinLimits (joint_program w fleet) → IsWholePlan w plan → AllAllowed w plan → AllBorne w fleet plan
    → joint_cost w fleet plan < 2 ^ 128
cost_small w fleet plan known named limits whole allowed borne =
    let p : IsPlaced w fleet plan = placing w fleet known named plan (joint_of w fleet plan whole allowed borne) (λ d low. (borne d low).1) in
    let value : value_of (joint_program w fleet).costs (placed w fleet plan) ≡ joint_cost w fleet plan = p.value in
    omega (arith, value, value_fits (joint_program w fleet) limits (placed w fleet plan))

-- a plan that was read is judged
plan_judged : (w : Lists) (fleet : Fleet) (files : Option Files) (name front : List ℕ) (cost number : ℕ) (plan : JointPlan) (reader : PlanLines) (r : Result (Unit {0}) CheckFault) → IsWholePlan w plan
    → JudgesPlan w fleet cost number plan r → HasRead files name (front ++ plan_text w plan) reader → ReadsPlan w fleet files name front cost number reader r
plan_judged w fleet files name front cost number plan reader (Ok done) whole judges read = (plan, judges, read)
plan_judged w fleet files name front cost number plan reader (Err fault) whole judges read = judged plan whole (begins_read files name (front ++ plan_text w plan) reader read) judges

pub made_judged : (w : Lists) (fleet : Fleet) (files : Option Files) (name front : List ℕ) (cost number : ℕ) (policies : List Policy) (numbers : List ℕ) (plan : JointPlan) (reader : PlanLines) (r : Result (Unit {0}) CheckFault)
    → plan ≡ record { policies = policies; machines = numbers } → length policies ≡ length w.sets → length numbers ≡ centre_count w
    → JudgesPlan w fleet cost number plan r → HasRead files name ((front ++ sets_text w policies) ++ fleet_text w numbers) reader → ReadsPlan w fleet files name front cost number reader r
made_judged w fleet files name front cost number policies numbers plan reader r is all every judges read =
    plan_judged w fleet files name front cost number (record { policies = policies; machines = numbers }) reader r (record { policies = all; machines = every })
    (subst (λ (p : JointPlan). JudgesPlan w fleet cost number p r) is judges)
    (subst (λ (t : List ℕ). HasRead files name t reader) (append_assoc front (sets_text w policies) (fleet_text w numbers) ∙ ap (λ t. front ++ t) (whole_text w policies numbers all every)) read)

pub whole_made : (w : Lists) (policies : List Policy) (numbers : List ℕ) (plan : JointPlan) → plan ≡ record { policies = policies; machines = numbers } → length policies ≡ length w.sets → length numbers ≡ centre_count w → IsWholePlan w plan
whole_made w policies numbers plan is all every = subst (IsWholePlan w) (sym is) (record { policies = all; machines = every })

-- what reading a tree gives, over the files that the shelf told at first, of the joint program
pub tree_shift : (w : Lists) (fleet : Fleet) (program : Contents) (files now : Option Files) (name : List ℕ) (old new : PlanLines) (r : Result (Option Claim) CheckFault) → now ≡ files → program ≡ joint_program w fleet
    → ((front : List ℕ) → HasRead now name front old → ReadsLines program now name front new r) → (front : List ℕ) → HasRead files name front old → ReadsLines (joint_program w fleet) files name front new r
tree_shift w fleet program files now name old new r same is reads front =
    subst (λ (q : Contents). HasRead files name front old → ReadsLines q files name front new r) is
    (subst (λ (f : Option Files). HasRead f name front old → ReadsLines program f name front new r) same (reads front))

-- the result of a tree, and the plan behind it
pub body_stops : (w : Lists) (fleet : Fleet) (files : Option Files) (name : List ℕ) (claim : Claim) (middle : PlanLines) (fault : CheckFault) (reader : PlanLines)
    → (tree : ReadsLines (joint_program w fleet) files name (opening_of w fleet) middle (Ok (Some claim)))
    → ReadsPlan w fleet files name (plan_front w fleet tree.0 claim.cost) claim.cost claim.line reader (Err fault) → ReadsBody w fleet files name reader (Err fault)
body_stops w fleet files name claim middle fault reader tree stops =
    in_plan tree.0 claim.cost tree.2 (subst (λ n. StopsInPlan w fleet files name (plan_front w fleet tree.0 claim.cost) claim.cost n fault) tree.3 stops)

pub body_complete : (w : Lists) (fleet : Fleet) (files : Option Files) (name : List ℕ) (claim : Claim) (middle reader : PlanLines)
    → (tree : ReadsLines (joint_program w fleet) files name (opening_of w fleet) middle (Ok (Some claim)))
    → ReadsPlan w fleet files name (plan_front w fleet tree.0 claim.cost) claim.cost claim.line reader (Ok tt) → ReadsBody w fleet files name reader (Ok (Some claim.cost))
body_complete w fleet files name claim middle reader tree plan = (
  tree.0,
  complete claim.cost plan.0,
  record { shown = tree.2; fits = plan.1 },
  refl,
  subst (λ (t : List ℕ). HasRead files name t reader) (append_assoc (begun_text w fleet tree.0) (cost_line claim.cost) (plan_text w plan.0)) plan.2,
)

pub body_none : (w : Lists) (fleet : Fleet) (files : Option Files) (name : List ℕ) (reader : PlanLines) → ReadsLines (joint_program w fleet) files name (opening_of w fleet) reader (Ok None) → ReadsBody w fleet files name reader (Ok None)
body_none w fleet files name reader tree = (tree.0, none_there, record { shown = tree.1; fits = tt }, refl, tree.2)

-- an accepted plan is true: it is least, or there is none
pub accepted_true : (w : Lists) (fleet : Fleet) (lines : List Line) (ending : Ending) → IsComplete w → IsNamed w → IsWithinLimits (joint_program w fleet) → IsAccepted w fleet lines ending → IsTrueOf w fleet ending
accepted_true w fleet lines (complete cost plan) known named limits accepted =
    let priced = accepted.fits in
    let is : joint_cost w fleet plan ≡ cost = priced.costs in
    record {
      joint = priced.joint;
      capacity = priced.capacity;
      least = λ other joint meets.
          let p : IsPlaced w fleet other = placing w fleet known named other joint meets in
          let low : cost ≤ value_of (joint_program w fleet).costs (placed w fleet other) = proof_bounds (joint_program w fleet) limits lines cost accepted.shown (placed w fleet other) p.feasible in
          let value : value_of (joint_program w fleet).costs (placed w fleet other) ≡ joint_cost w fleet other = p.value in
          omega (arith, is, low, value);
    }
accepted_true w fleet lines none_there known named limits accepted = none w fleet known named (proof_refutes (joint_program w fleet) limits lines accepted.shown)
accepted_true w fleet lines (cut_off found) known named limits accepted = tt

-- a whole text was read
pub text_checked : (w : Lists) (fleet : Fleet) (files : Option Files) (name : List ℕ) (reader : PlanLines) (told : Option ℕ) → IsComplete w → IsNamed w → IsWithinLimits (joint_program w fleet)
    → (body : ReadsBody w fleet files name reader (Ok told)) → ReadsLast files name (begun_text w fleet body.0 ++ ending_text w (length body.0) body.1) (Ok tt) → ReadsText w fleet files name (Ok told)
text_checked w fleet files name reader told known named limits body last =
    let text = append_assoc (begun_text w fleet body.0) (ending_text w (length body.0) body.1) (codes "end\n") in (
      body.0,
      body.1,
      record {
        limits = limits;
        file = subst (λ (t : List ℕ). IsFile files name t) text last.0;
        few = subst (λ (t : List ℕ). length t ≤ 4294967295) text last.1;
        accepted = body.2;
        holds = accepted_true w fleet body.0 body.1 known named limits body.2;
      },
      body.3,
    )

-- one fault of checking is another
pub fault_same : {T : Type 0} (fault other : CheckFault) → Check fault ≡ Check other → IsErrOf {T = T} (Err fault) other
fault_same fault other is = let same : fault ≡ other = cc in ap Err same

-- a check that stops in the text
pub text_stops : (w : Lists) (fleet : Fleet) (files : Option Files) (name : List ℕ) (now : Option (List ℕ)) (fault : CheckFault) → IsWithinLimits (joint_program w fleet) → ReadsText w fleet files name (Err fault)
    → ChecksJoint w fleet files name now now (Err (Check fault))
text_stops w fleet files name now fault limits (inl stops) = inl (limits, stops, Appends-nothing now)
text_stops w fleet files name now fault limits (inr lacks) = inr (inl (lacks, Appends-nothing now))

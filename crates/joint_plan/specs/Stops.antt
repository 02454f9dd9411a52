-- Where the reading of a joint plan's policies and machines stops.
use Rattle.std.specs.Prelude.{◌≡◌, ℕ, ◌+◌, ◌*◌, ◌^◌, ◌<◌, ◌≤◌, ◌⊎◌, List, [], ◌++◌, length, Option, Some, None, Result, Ok, Err}
use Rattle.std.specs.List.{flat_map, range_with_len}
use Rattle.span_base.specs.Files.{Files}
use Rattle.span_base.specs.declared.policy.Policy.{Policy}
use Rattle.span_base.specs.declared.words.Cause.TheVariants as cause
use Rattle.shelf_lines.specs.Lines.{IsLine, fed, Begins}
use Rattle.workload.specs.World.{Lists, centre_count}
use Rattle.slo_rules.specs.Rules.{IsAllowed}
use Rattle.slo_rules.specs.PolicyText.{policy_text, ended}
use Rattle.slo_rules.specs.PolicyReading.{Draft, step}
use Rattle.slo_rules.specs.declared.policy_line.PolicyFault.{PolicyFault}
use Rattle.machine_text.specs.Machines.{Fleet, machine_of}
use Rattle.joint_placement.specs.JointPlans.{JointPlan, policy_of, machines_in, load_on, joint_cost}
use Rattle.plan_check.specs.declared.fault.CheckFault.{CheckFault}
use Rattle.plan_check.specs.declared.fault.CheckFault.TheVariants.{Refused, NoMemory}
use Rattle.plan_check.specs.declared.lines.PlanLines.{PlanLines}
use Rattle.plan_check.specs.Reading.{HasRead, line_count}
use Rattle.plan_check.specs.Places.{Meets}
use Rattle.plan_check.specs.Parts.{HasTaken, LacksLine}
use Rattle.joint_plan.specs.JointText.{named_line, set_text, machines_line, plan_text}
use Rattle.joint_plan.specs.Lines.{RefusesPlanLine, RefusesPolicyLine}
use Rattle.joint_plan.specs.Shown.{IsPriced}

-- the text of the first sets' policies, and of the first centres' machines
abbrev pub sets_text : Lists → List Policy → List ℕ
sets_text w policies = flat_map (set_text w (record { policies = policies; machines = [] })) (range_with_len 0 (length policies))

abbrev pub fleet_text : Lists → List ℕ → List ℕ
fleet_text w numbers = flat_map (λ d. machines_line w d (machines_in (record { policies = []; machines = numbers }) d)) (range_with_len 0 (length numbers))

-- behind a text and the lines of a set's policy that were taken, another line than the one due is met
pub record IsPolicyLineRefused (w : Lists) (set : ℕ) (files : Option Files) (name front : List ℕ) (fault : CheckFault) : Type 0 where
  pub said : List (List ℕ)
  pub draft : Draft
  pub line : List ℕ
  pub reason : PolicyFault
  pub taken : HasTaken w set said draft
  pub one : IsLine line
  pub there : Begins files name ((front ++ flat_map ended said) ++ fed line)
  pub stepped : step w draft line ≡ Err reason
  pub refused : RefusesPolicyLine reason (line_count (front ++ flat_map ended said) + 1) line fault

-- the reading of a set stops: at its name, or in its policy
abbrev pub StopsInSet : Lists → ℕ → Option Files → List ℕ → List ℕ → CheckFault → Type 0
StopsInSet w set files name front fault =
    Meets files name front (λ line told. (¬ (fed line ≡ named_line w set)) × RefusesPlanLine w (line_count front + 1) line told) fault
    ⊎ (LacksLine w set files name (front ++ named_line w set) fault
    ⊎ IsPolicyLineRefused w set files name (front ++ named_line w set) fault)

abbrev pub ReadsSet : Lists → ℕ → Option Files → List ℕ → List ℕ → PlanLines → Result Policy CheckFault → Type 0
ReadsSet w set files name front reader (Ok p) = HasRead files name (front ++ (named_line w set ++ policy_text w p)) reader
ReadsSet w set files name front reader (Err fault) = StopsInSet w set files name front fault

-- the reading of the sets stops in the next one
abbrev pub StopsInSets : Lists → Option Files → List ℕ → List ℕ → CheckFault → Type 0
StopsInSets w files name front fault =
    (fault ≡ NoMemory)
    ⊎ ((policies : List Policy) × (length policies < length w.sets) × StopsInSet w (length policies) files name (front ++ sets_text w policies) fault)

-- the policies of all sets were read
pub record HasSets (w : Lists) (files : Option Files) (name front : List ℕ) (reader : PlanLines) (policies : List Policy) : Type 0 where
  pub all : length policies ≡ length w.sets
  pub read : HasRead files name (front ++ sets_text w policies) reader

-- a line that tells no number of this centre's machines, and is refused
abbrev pub IsOtherMachines : Lists → ℕ → ℕ → List ℕ → CheckFault → Type 0
IsOtherMachines w d number line fault = ((count : ℕ) → count < 10 ^ 38 → ¬ (fed line ≡ machines_line w d count)) × RefusesPlanLine w number line fault

-- how many machines of a centre a line tells; none where it is no such line
abbrev pub SaysMachines : Lists → ℕ → List ℕ → Option ℕ → Type 0
SaysMachines w d line None = (count : ℕ) → count < 10 ^ 38 → ¬ (fed line ≡ machines_line w d count)
SaysMachines w d line (Some count) = fed line ≡ machines_line w d count

abbrev pub StopsAtMachines : Lists → ℕ → Option Files → List ℕ → List ℕ → CheckFault → Type 0
StopsAtMachines w d files name front fault = Meets files name front (IsOtherMachines w d (line_count front + 1)) fault

abbrev pub ReadsMachines : Lists → ℕ → Option Files → List ℕ → List ℕ → PlanLines → Result ℕ CheckFault → Type 0
ReadsMachines w d files name front reader (Ok count) = HasRead files name (front ++ machines_line w d count) reader
ReadsMachines w d files name front reader (Err fault) = StopsAtMachines w d files name front fault

abbrev pub StopsInFleet : Lists → Option Files → List ℕ → List ℕ → CheckFault → Type 0
StopsInFleet w files name front fault =
    (fault ≡ NoMemory)
    ⊎ ((numbers : List ℕ) × (length numbers < centre_count w) × StopsAtMachines w (length numbers) files name (front ++ fleet_text w numbers) fault)

-- the numbers of all centres' machines were read
pub record HasFleet (w : Lists) (files : Option Files) (name front : List ℕ) (reader : PlanLines) (numbers : List ℕ) : Type 0 where
  pub all : length numbers ≡ centre_count w
  pub read : HasRead files name (front ++ fleet_text w numbers) reader

-- a plan has so many policies and numbers as the world has sets and centres
pub record IsWholePlan (w : Lists) (plan : JointPlan) : Type 0 where
  pub policies : length plan.policies ≡ length w.sets
  pub machines : length plan.machines ≡ centre_count w

-- a centre's machines are within their digits, and bear its load
abbrev pub IsBorne : Lists → Fleet → JointPlan → ℕ → Type 0
IsBorne w fleet plan d =
    (machines_in plan d < 2 ^ (machine_of fleet d).digits) × (load_on w fleet plan d ≤ machines_in plan d * (machine_of fleet d).capacity)

abbrev pub AllAllowed : Lists → JointPlan → Type 0
AllAllowed w plan = (set : ℕ) → set < length w.sets → IsAllowed w set (policy_of plan set)

abbrev pub AllBorne : Lists → Fleet → JointPlan → Type 0
AllBorne w fleet plan = (d : ℕ) → d < centre_count w → IsBorne w fleet plan d

-- what is refused of a whole plan that is said to cost so much by this line
pub data RefusesPlan (w : Lists) (fleet : Fleet) (cost number : ℕ) (plan : JointPlan) (fault : CheckFault) : Type 0 where
  forbidden : ¬ AllAllowed w plan → fault ≡ Refused number cause.Rule → RefusesPlan w fleet cost number plan fault
  unborne : AllAllowed w plan → ¬ AllBorne w fleet plan → fault ≡ Refused number cause.Machines → RefusesPlan w fleet cost number plan fault
  wrong_cost : AllAllowed w plan → AllBorne w fleet plan → ¬ (joint_cost w fleet plan ≡ cost) → fault ≡ Refused number cause.Cost → RefusesPlan w fleet cost number plan fault

abbrev pub JudgesPlan : Lists → Fleet → ℕ → ℕ → JointPlan → Result (Unit {0}) CheckFault → Type 0
JudgesPlan w fleet cost number plan (Ok done) = IsPriced w fleet cost plan
JudgesPlan w fleet cost number plan (Err fault) = RefusesPlan w fleet cost number plan fault

-- the reading of the policies and machines stops in them, or the plan is refused
pub data StopsInPlan (w : Lists) (fleet : Fleet) (files : Option Files) (name front : List ℕ) (cost number : ℕ) (fault : CheckFault) : Type 0 where
  in_sets : StopsInSets w files name front fault → StopsInPlan w fleet files name front cost number fault
  in_fleet : (policies : List Policy) → length policies ≡ length w.sets → StopsInFleet w files name (front ++ sets_text w policies) fault → StopsInPlan w fleet files name front cost number fault
  judged : (plan : JointPlan) → IsWholePlan w plan → Begins files name (front ++ plan_text w plan) → RefusesPlan w fleet cost number plan fault → StopsInPlan w fleet files name front cost number fault

abbrev pub ReadsPlan : Lists → Fleet → Option Files → List ℕ → List ℕ → ℕ → ℕ → PlanLines → Result (Unit {0}) CheckFault → Type 0
ReadsPlan w fleet files name front cost number reader (Ok done) =
    (plan : JointPlan) × IsPriced w fleet cost plan × HasRead files name (front ++ plan_text w plan) reader
ReadsPlan w fleet files name front cost number reader (Err fault) = StopsInPlan w fleet files name front cost number fault

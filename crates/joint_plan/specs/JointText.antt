-- How a joint plan is written.
use Rattle.std.specs.Prelude.{ℕ, ◌<◌, List, [], ◌++◌, codes, length, Option, Some, None}
use Rattle.std.specs.List.{flat_map}
use Rattle.std.specs.Fmt.{decimal}
use Rattle.bound_cert.specs.declared.leaves.Line.{Line}
use Rattle.workload.specs.World.{Lists, set_of, name_of}
use Rattle.slo_rules.specs.PolicyText.{policy_text, NamesCentres}
use Rattle.placement_rows.specs.Centres.{centres}
use Rattle.machine_text.specs.Machines.{Fleet}
use Rattle.joint_placement.specs.JointPlans.{JointPlan, sets, policy_of, machines_in}
use Rattle.joint_placement.specs.Programs.{joint_program}
use Rattle.plan_text.specs.PlanText.{tree_text, cost_line, cut_line}
use Rattle.joint_plan.specs.Endings.{Priced, Ending, complete, none_there, cut_off, cost_of}

-- the line with the number of variables
unfoldable pub joint_line : ℕ → List ℕ
joint_line variables = codes "joint " ++ decimal variables ++ codes "\n"

-- the line that names a set
abbrev pub named_line : Lists → ℕ → List ℕ
named_line w set = codes "set " ++ (set_of w set).name ++ codes "\n"

-- every centre that a plan's policies name is the world's
abbrev pub NamesAll : Lists → JointPlan → Type 0
NamesAll w plan = (set : ℕ) → set < length w.sets → NamesCentres w (policy_of plan set)

-- a set's name and the lines of its policy
abbrev pub set_text : Lists → JointPlan → ℕ → List ℕ
set_text w plan set = named_line w set ++ policy_text w (policy_of plan set)

-- the first words of the line of a centre's machines
abbrev pub machines_words : Lists → ℕ → List ℕ
machines_words w d = codes "machines " ++ name_of w d ++ codes " "

-- that line
unfoldable pub machines_line : Lists → ℕ → ℕ → List ℕ
machines_line w d number = machines_words w d ++ decimal number ++ codes "\n"

-- the policies of the sets, and then the numbers of machines, each in the world's order
unfoldable pub plan_text : Lists → JointPlan → List ℕ
plan_text w plan = flat_map (set_text w plan) (sets w) ++ flat_map (λ d. machines_line w d (machines_in plan d)) (centres w)

-- the lines of a joint plan that was found, if one was
abbrev pub found_text : Lists → Option Priced → List ℕ
found_text w None = []
found_text w (Some found) = plan_text w found.plan

-- the result behind this number of lines, with the lines of its plan
abbrev pub ending_text : Lists → ℕ → Ending → List ℕ
ending_text w lines (complete cost plan) = cost_line cost ++ plan_text w plan
ending_text w lines none_there = codes "result none\n"
ending_text w lines (cut_off found) = cut_line lines (cost_of found) ++ found_text w found

-- the first lines
abbrev pub opening_text : ℕ → List ℕ
opening_text variables = codes "span-joint 1\n" ++ joint_line variables

-- the text as far as its tree has these lines
abbrev pub begun_text : Lists → Fleet → List Line → List ℕ
begun_text w fleet lines = opening_text (length (joint_program w fleet).costs) ++ tree_text lines

-- the whole text
abbrev pub joint_text : Lists → Fleet → List Line → Ending → List ℕ
joint_text w fleet lines ending = begun_text w fleet lines ++ (ending_text w (length lines) ending ++ codes "end\n")

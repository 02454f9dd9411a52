-- What reading a part of a plan gives: it is accepted, or its reading stops somewhere in it.
use Rattle.std.specs.Prelude.{◌≡◌, ◌<◌, ◌^◌, ℕ, ◌+◌, List, [], ◌∷◌, ◌++◌, codes, length, Option, Some, None, Result, Ok, Err, All}
use Rattle.std.specs.List.{flat_map}
use Rattle.span_base.specs.Files.{Files}
use Rattle.span_base.specs.declared.policy.Policy.{Policy}
use Rattle.zero_one.specs.Contents.{Contents}
use Rattle.bound_cert.specs.declared.leaves.Line.{Line}
use Rattle.bound_cert.specs.declared.leaves.Goal.{Goal}
use Rattle.bound_cert.specs.declared.leaves.Goal.TheVariants as goal
use Rattle.bound_cert.specs.Trees.{IsProof}
use Rattle.cert_checker.specs.declared.faults.CertFault.{CertFault}
use Rattle.cert_checker.specs.Lines.{IsRefused}
use Rattle.cert_checker.specs.Fed.{Finishes}
use Rattle.cert_checker.specs.Kept.{Kept, StandsFor}
use Rattle.workload.specs.World.{Lists}
use Rattle.slo_rules.specs.Rules.{IsAllowed}
use Rattle.slo_rules.specs.Cost.{policy_cost}
use Rattle.slo_rules.specs.PolicyText.{policy_text, ended}
use Rattle.slo_rules.specs.PolicyReading.{Draft, step, policy_of}
use Rattle.slo_rules.specs.declared.policy_line.PolicyFault.{PolicyFault}
use Rattle.shelf_lines.specs.Lines.{IsLine, fed}
use Rattle.plan_text.specs.Parts.{Part}
use Rattle.plan_text.specs.PlanText.{tree_text, cost_line}
use Rattle.plan_text.specs.Plans.{begun_plan}
use Rattle.plan_check.specs.declared.fault.CheckFault.{CheckFault}
use Rattle.plan_check.specs.declared.lines.PlanLines.{PlanLines}
use Rattle.plan_check.specs.declared.tree.Claim.{Claim}
use Rattle.plan_check.specs.Refusals.{refusal_of}
use Rattle.plan_check.specs.Reading.{HasRead, Lacks, line_count}
use Rattle.plan_check.specs.Places.{IsReadBack, program_at, policy_read, StopsAmong, StopsInTree, StopsInPolicy, RefusesPolicy, LeadTo}

-- a node that comes next is taken, or refused behind so many lines of the file
abbrev pub TakesNode : Contents → List Line → ℕ → Line → Kept → Result (Unit {0}) CheckFault → Type 0
TakesNode program tree before node after (Ok done) = StandsFor program (tree ++ node ∷ []) after
TakesNode program tree before node after (Err fault) =
    (cert : CertFault) × IsRefused program tree node cert × (fault ≡ refusal_of before (before + length tree + 1) cert)

-- the lines are a proof, or are refused at the result
abbrev pub ShowsGoal : Contents → List Line → ℕ → Goal → Result (Unit {0}) CheckFault → Type 0
ShowsGoal program tree before claimed (Ok done) = IsProof program tree claimed
ShowsGoal program tree before claimed (Err fault) =
    (cert : CertFault) × Finishes program tree claimed (Err cert) × (fault ≡ refusal_of before (before + length tree + 1) cert) × ¬ IsProof program tree claimed

-- what reading a tree of a program and its result gives behind a text: a proof of a cost, or that nothing is feasible
abbrev pub ReadsLines : Contents → Option Files → List ℕ → List ℕ → PlanLines → Result (Option Claim) CheckFault → Type 0
ReadsLines program files name front reader (Ok (Some claim)) =
    (tree : List Line) × (claim.cost < 10 ^ 38) × IsProof program tree (goal.Cost claim.cost)
    × (claim.line ≡ line_count (front ++ tree_text tree) + 1) × HasRead files name ((front ++ tree_text tree) ++ cost_line claim.cost) reader
ReadsLines program files name front reader (Ok None) =
    (tree : List Line) × IsProof program tree goal.Nothing × HasRead files name ((front ++ tree_text tree) ++ codes "result none\n") reader
ReadsLines program files name front reader (Err fault) = (tree : List Line) × StopsAmong program files name front tree fault

-- the same of a set's tree: a proof of a cost, or that there is no policy
abbrev pub ReadsTree : Lists → Option Files → List ℕ → List Part → PlanLines → Result (Option Claim) CheckFault → Type 0
ReadsTree w files name parts reader (Ok (Some claim)) =
    (tree : List Line) × (claim.cost < 10 ^ 38) × IsProof (program_at w parts) tree (goal.Cost claim.cost)
    × (claim.line ≡ line_count (begun_plan w parts tree) + 1) × HasRead files name (policy_read w parts tree claim.cost []) reader
ReadsTree w files name parts reader (Ok None) =
    (tree : List Line) × IsProof (program_at w parts) tree goal.Nothing
    × HasRead files name (begun_plan w parts tree ++ codes "result none\n") reader
ReadsTree w files name parts reader (Err fault) = (tree : List Line) × StopsInTree w files name parts tree fault

-- a whole policy is allowed and costs what is said, or it is refused
abbrev pub JudgesPolicy : Lists → ℕ → Claim → Draft → Result (Unit {0}) CheckFault → Type 0
JudgesPolicy w set claim draft (Ok done) =
    (p : Policy) × (policy_of w draft ≡ Some p) × IsAllowed w set p × (policy_cost w set p ≡ claim.cost)
JudgesPolicy w set claim draft (Err fault) =
    (p : Policy) × (policy_of w draft ≡ Some p) × RefusesPolicy w set claim.cost claim.line p fault

-- what reading the lines of a policy gives
abbrev pub ReadsPolicy : Lists → Option Files → List ℕ → List Part → List Line → ℕ → PlanLines → Result (Unit {0}) CheckFault → Type 0
ReadsPolicy w files name parts tree cost reader (Ok done) =
    (p : Policy) × IsAllowed w (length parts) p × (policy_cost w (length parts) p ≡ cost) × IsReadBack w (length parts) p
    × HasRead files name (begun_plan w parts tree ++ cost_line cost ++ policy_text w p) reader
ReadsPolicy w files name parts tree cost reader (Err fault) = StopsInPolicy w files name parts tree cost fault

-- lines of a set's policy that were taken lead to a draft that isn't whole
pub record HasTaken (w : Lists) (set : ℕ) (said : List (List ℕ)) (draft : Draft) : Type 0 where
  pub lines : All IsLine said
  pub leads : LeadTo w set said draft

-- behind a text and the lines that were taken this line was read
pub record IsNextRead (files : Option Files) (name front : List ℕ) (said : List (List ℕ)) (line : List ℕ) (reader : PlanLines) : Type 0 where
  pub one : IsLine line
  pub is : reader.lines.line ≡ line
  pub read : HasRead files name ((front ++ flat_map ended said) ++ fed line) reader

-- with the line read last the policy is whole
pub record IsPolicyRead (w : Lists) (set : ℕ) (files : Option Files) (name front : List ℕ) (reader : PlanLines) (p : Policy) : Type 0 where
  pub said : List (List ℕ)
  pub draft : Draft
  pub next : Draft
  pub line : List ℕ
  pub taken : HasTaken w set said draft
  pub last : IsNextRead files name front said line reader
  pub stepped : step w draft line ≡ Ok next
  pub whole : policy_of w next ≡ Some p

-- the line read last isn't the one due
pub record IsLineRefused (w : Lists) (set : ℕ) (files : Option Files) (name front : List ℕ) (reader : PlanLines) (reason : PolicyFault) : Type 0 where
  pub said : List (List ℕ)
  pub draft : Draft
  pub line : List ℕ
  pub taken : HasTaken w set said draft
  pub last : IsNextRead files name front said line reader
  pub stepped : step w draft line ≡ Err reason

-- no line comes
pub record LacksLine (w : Lists) (set : ℕ) (files : Option Files) (name front : List ℕ) (fault : CheckFault) : Type 0 where
  pub said : List (List ℕ)
  pub draft : Draft
  pub taken : HasTaken w set said draft
  pub lacks : Lacks files name (front ++ flat_map ended said) fault

-- what reading the lines of a set's policy gives behind a text
abbrev pub ReadsPolicyLines : Lists → ℕ → Option Files → List ℕ → List ℕ → PlanLines → Result (Result Policy PolicyFault) CheckFault → Type 0
ReadsPolicyLines w set files name front reader (Ok (Ok p)) = IsPolicyRead w set files name front reader p
ReadsPolicyLines w set files name front reader (Ok (Err reason)) = IsLineRefused w set files name front reader reason
ReadsPolicyLines w set files name front reader (Err fault) = LacksLine w set files name front fault

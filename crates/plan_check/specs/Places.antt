-- Where a check of a plan stands, what text it has read there, and what it refuses there.
use Rattle.std.specs.Prelude.{◌≡◌, ◌^◌, ◌<◌, All, ℕ, ◌+◌, ◌≤◌, ◌⊎◌, List, ◌++◌, codes, length, Option, Some, None, Ok, Err}
use Rattle.std.specs.List.{flat_map}
use Rattle.span_base.specs.Files.{Files}
use Rattle.span_base.specs.declared.words.Cause.TheVariants.{Syntax, Unfinished, Rule, Cost}
use Rattle.span_base.specs.declared.policy.Policy.{Policy}
use Rattle.zero_one.specs.Contents.{Contents}
use Rattle.bound_cert.specs.declared.leaves.Line.{Line}
use Rattle.bound_cert.specs.declared.leaves.Goal.TheVariants as goal
use Rattle.bound_cert.specs.Text.{line_text}
use Rattle.bound_cert.specs.Reading.{IsSpellable}
use Rattle.bound_cert.specs.Trees.{IsProof}
use Rattle.cert_checker.specs.declared.faults.CertFault.{CertFault}
use Rattle.cert_checker.specs.Lines.{IsRefused, AreTaken}
use Rattle.cert_checker.specs.Fed.{Finishes}
use Rattle.workload.specs.World.{Lists}
use Rattle.slo_rules.specs.Rules.{IsAllowed}
use Rattle.slo_rules.specs.Cost.{policy_cost}
use Rattle.slo_rules.specs.PolicyText.{ended, policy_lines}
use Rattle.slo_rules.specs.PolicyLaws.{policy_from}
use Rattle.slo_rules.specs.PolicyReading.{Draft, blank, step, policy_of}
use Rattle.slo_rules.specs.declared.policy_line.PolicyFault.{PolicyFault}
use Rattle.placement.specs.Placement.{program_of}
use Rattle.shelf_lines.specs.Lines.{IsLine, fed, Begins}
use Rattle.plan_text.specs.Parts.{Part}
use Rattle.plan_text.specs.PlanText.{parts_text, tree_text, cost_line, set_line}
use Rattle.plan_text.specs.Plans.{EachPart, IsAcceptedPart, begun_plan}
use Rattle.plan_check.specs.declared.fault.CheckFault.{CheckFault}
use Rattle.plan_check.specs.declared.fault.CheckFault.TheVariants.{Bad, Refused}
use Rattle.plan_check.specs.Refusals.{refusal_of, policy_refusal}
use Rattle.plan_check.specs.Words.{HasNoForm, IsBudgetForm}
use Rattle.plan_check.specs.Reading.{line_count, Lacks}

-- the parts of the first sets are accepted
pub record AreAccepted (w : Lists) (parts : List Part) : Type 0 where
  pub few : length parts ≤ length w.sets
  pub each : EachPart (IsAcceptedPart w) parts

-- and one more set comes
pub record AreBeforeSet (w : Lists) (parts : List Part) : Type 0 where
  pub accepted : EachPart (IsAcceptedPart w) parts
  pub there : length parts < length w.sets

-- the text up to a set's line
abbrev pub parts_read : Lists → List Part → List ℕ
parts_read w parts = codes "span-plan 1\n" ++ parts_text w 0 parts

-- in a set's tree: its text up to the tree's first line, and so many lines of the tree
abbrev pub program_at : Lists → List Part → Contents
program_at w parts = program_of w (length parts)

abbrev pub set_read : Lists → List Part → List ℕ
set_read w parts = parts_read w parts ++ set_line w (length parts) (length (program_at w parts).costs)

-- the text up to a line of the next set's policy
abbrev pub policy_read : Lists → List Part → List Line → ℕ → List (List ℕ) → List ℕ
policy_read w parts tree cost said = begun_plan w parts tree ++ cost_line cost ++ flat_map ended said

-- these lines lead to a draft of the set's policy that isn't whole
pub record LeadTo (w : Lists) (set : ℕ) (said : List (List ℕ)) (draft : Draft) : Type 0 where
  pub of_set : draft.set ≡ set
  pub leads : (more : List (List ℕ)) → policy_from w (blank set) (said ++ more) ≡ policy_from w draft more
  pub unfinished : policy_of w draft ≡ None

-- reading the lines of a policy gives it, whatever lines follow
abbrev pub IsReadBack : Lists → ℕ → Policy → Type 0
IsReadBack w set p = (more : List (List ℕ)) → policy_from w (blank set) (policy_lines w p ++ more) ≡ Some (p, more)

-- what is refused in a set's tree, behind so many lines of the file and these of the tree
pub data RefusesInTree (program : Contents) (before : ℕ) (tree : List Line) (line : List ℕ) (fault : CheckFault) : Type 0 where
  no_form : HasNoForm line → fault ≡ Bad (before + length tree + 1) Syntax → RefusesInTree program before tree line fault
  bad_node : (node : Line) (cert : CertFault) → line_text node ≡ line → IsSpellable node → IsRefused program tree node cert
      → fault ≡ refusal_of before (before + length tree + 1) cert → RefusesInTree program before tree line fault
  unproved : (cost : ℕ) (cert : CertFault) → fed line ≡ cost_line cost → cost < 10 ^ 38 → ¬ IsProof program tree (goal.Cost cost) → Finishes program tree (goal.Cost cost) (Err cert)
      → fault ≡ refusal_of before (before + length tree + 1) cert → RefusesInTree program before tree line fault
  unrefuted : (cert : CertFault) → fed line ≡ codes "result none\n" → ¬ IsProof program tree goal.Nothing → Finishes program tree goal.Nothing (Err cert)
      → fault ≡ refusal_of before (before + length tree + 1) cert → RefusesInTree program before tree line fault
  unfinished : IsBudgetForm line → fault ≡ Refused (before + length tree + 1) Unfinished → RefusesInTree program before tree line fault

-- what is refused of a whole policy that is said to cost so much by this line
pub data RefusesPolicy (w : Lists) (set cost number : ℕ) (p : Policy) (fault : CheckFault) : Type 0 where
  forbidden : ¬ IsAllowed w set p → fault ≡ Refused number Rule → RefusesPolicy w set cost number p fault
  wrong_cost : IsAllowed w set p → ¬ (policy_cost w set p ≡ cost) → fault ≡ Refused number Cost → RefusesPolicy w set cost number p fault

-- what is refused behind this draft, whose line comes behind so many lines of the file
pub data RefusesInPolicy (w : Lists) (set cost number before : ℕ) (draft : Draft) (line : List ℕ) (fault : CheckFault) : Type 0 where
  bad_line : (reason : PolicyFault) → step w draft line ≡ Err reason → fault ≡ policy_refusal (before + 1) reason
      → RefusesInPolicy w set cost number before draft line fault
  bad_policy : (next : Draft) (p : Policy) → step w draft line ≡ Ok next → policy_of w next ≡ Some p → RefusesPolicy w set cost number p fault
      → RefusesInPolicy w set cost number before draft line fault

-- a line comes behind the text that is refused so, or none comes
abbrev pub Meets : Option Files → List ℕ → List ℕ → (List ℕ → CheckFault → Type 0) → CheckFault → Type 0
Meets files name text RefusesLine fault =
    Lacks files name text fault
    ⊎ ((line : List ℕ) × IsLine line × Begins files name (text ++ fed line) × RefusesLine line fault)

-- in a tree of a program, whose first line comes behind a text, these lines were taken, and this is met behind them
pub record StopsAmong (program : Contents) (files : Option Files) (name front : List ℕ) (tree : List Line) (fault : CheckFault) : Type 0 where
  pub taken : AreTaken program tree
  pub met : Meets files name (front ++ tree_text tree) (RefusesInTree program (line_count front) tree) fault

-- in the tree of the next set these lines were taken, and this is met behind them
pub record StopsInTree (w : Lists) (files : Option Files) (name : List ℕ) (parts : List Part) (tree : List Line) (fault : CheckFault) : Type 0 where
  pub taken : AreTaken (program_at w parts) tree
  pub met : Meets files name (begun_plan w parts tree) (RefusesInTree (program_at w parts) (line_count (set_read w parts)) tree) fault

-- in the policy of the next set these lines were taken, and this is met behind them
pub record StopsInPolicy (w : Lists) (files : Option Files) (name : List ℕ) (parts : List Part) (tree : List Line) (cost : ℕ) (fault : CheckFault) : Type 0 where
  pub shown : IsProof (program_at w parts) tree (goal.Cost cost)
  pub said : List (List ℕ)
  pub lines : All IsLine said
  pub draft : Draft
  pub leads : LeadTo w (length parts) said draft
  pub met : Meets files name (policy_read w parts tree cost said)
      (RefusesInPolicy w (length parts) cost (line_count (begun_plan w parts tree) + 1) (line_count (policy_read w parts tree cost said)) draft) fault

-- What the loops over the lines of a part keep true.
use Rattle.std.proofs.Common.{◌≡◌, ℕ, ◌+◌, List, [], ◌++◌, length}
use Rattle.shelf_lines.specs.Lines.{IsLine}
use Rattle.std.specs.Prelude.{All, Option}
use Rattle.span_base.specs.Files.{Files}
use Rattle.zero_one.specs.Contents.{Contents}
use Rattle.bound_cert.specs.declared.leaves.Line.{Line}
use Rattle.cert_checker.specs.Kept.{Kept, StandsFor}
use Rattle.workload.specs.World.{Lists}
use Rattle.std.specs.List.{flat_map}
use Rattle.slo_rules.specs.PolicyText.{ended}
use Rattle.slo_rules.specs.PolicyReading.{Draft}
use Rattle.plan_text.specs.Parts.{Part}
use Rattle.plan_text.specs.PlanText.{tree_text}
use Rattle.plan_check.specs.declared.lines.PlanLines.{PlanLines}
use Rattle.plan_check.specs.Reading.{HasRead}
use Rattle.plan_check.specs.Places.{policy_read, LeadTo}

-- the lines of a tree so far, which the checker stands for, were read behind so many lines of the file
pub record InTree (program : Contents) (files : Option Files) (name : List ℕ) (first now : PlanLines) (checker : Kept) (before : ℕ) : Type 0 where
  pub tree : List Line
  pub stands : StandsFor program tree checker
  pub count : now.number ≡ before + length tree
  pub read : (front : List ℕ) → HasRead files name front first → HasRead files name (front ++ tree_text tree) now

-- the lines of a policy so far lead to the draft, and were read behind a tree
pub record InPolicy (w : Lists) (set : ℕ) (files : Option Files) (name : List ℕ) (cost : ℕ) (first now : PlanLines) (draft : Draft) : Type 0 where
  pub said : List (List ℕ)
  pub leads : LeadTo w set said draft
  pub lines : (parts : List Part) (tree : List Line) → HasRead files name (policy_read w parts tree cost []) first → All IsLine said
  pub read : (parts : List Part) (tree : List Line) → HasRead files name (policy_read w parts tree cost []) first
      → HasRead files name (policy_read w parts tree cost said) now

-- the same behind any text
pub record InPolicyLines (w : Lists) (set : ℕ) (files : Option Files) (name : List ℕ) (first now : PlanLines) (draft : Draft) : Type 0 where
  pub said : List (List ℕ)
  pub leads : LeadTo w set said draft
  pub lines : (front : List ℕ) → HasRead files name front first → All IsLine said
  pub read : (front : List ℕ) → HasRead files name front first → HasRead files name (front ++ flat_map ended said) now

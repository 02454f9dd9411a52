-- The grammar of a policy's lines.
use Rattle.std.specs.Prelude.{◌≡◌, ℕ, ◌<◌, List, [], ◌∷◌, ◌++◌, length, codes, Ok, Err, All}
use Rattle.std.specs.List.{flat_map}
use Rattle.span_base.specs.Name.{IsName}
use Rattle.span_base.specs.Grammar.{BreaksAt}
use Rattle.workload.specs.World.{Lists}
use Rattle.slo_rules.specs.declared.policy_line.PolicyFault.{PolicyFault}
use Rattle.slo_rules.specs.declared.policy_line.PolicyFault.TheVariants.{Bad}
use Rattle.slo_rules.specs.declared.policy_line.PolicyLine.{PolicyLine}
use Rattle.slo_rules.specs.PolicyLines.{line_says}

-- the four forms, by the names that they spell: those of the replicas, of a member and its primary,
-- of a hop, of a member and its quorums
pub data Form : Type 0 where
  replicas : List (List ℕ) → Form
  primary : List ℕ → List ℕ → Form
  parent : List ℕ → List ℕ → List ℕ → Form
  quorum : List ℕ → List (List ℕ) → List (List ℕ) → Form

-- names, each behind a space
abbrev pub list_text : List (List ℕ) → List ℕ
list_text names = flat_map (λ name. codes " " ++ name) names

-- the text of a form
abbrev pub form_text : Form → List ℕ
form_text (replicas names) = codes "replicas" ++ list_text names
form_text (primary member at) = codes "primary" ++ list_text (member ∷ at ∷ [])
form_text (parent member child via) = codes "parent" ++ list_text (member ∷ child ∷ via ∷ [])
form_text (quorum member read write) =
    codes "quorum" ++ list_text (member ∷ []) ++ codes " read" ++ list_text read ++ codes " ; write" ++ list_text write

-- one name at least, each spelled as a name
pub record AreNames (names : List (List ℕ)) : Type 0 where
  pub some : 0 < length names
  pub each : All IsName names

abbrev pub IsSpelled : Form → Type 0
IsSpelled (replicas names) = AreNames names
IsSpelled (primary member at) = AreNames (member ∷ at ∷ [])
IsSpelled (parent member child via) = AreNames (member ∷ child ∷ via ∷ [])
IsSpelled (quorum member read write) = IsName member × AreNames read × AreNames write

-- a text is a line of a policy by its form, whatever its names stand for
abbrev pub IsPolicyLine : List ℕ → Type 0
IsPolicyLine text = (form : Form) × IsSpelled form × (form_text form ≡ text)

-- a line that says something has a form; one that doesn't is told with the first byte at which it can't go on
abbrev pub FormsAreTold : Type 0
FormsAreTold =
    (w : Lists) (text : List ℕ) →
    ((said : PolicyLine) → line_says w text ≡ Ok said → IsPolicyLine text)
    × ((fault : PolicyFault) → line_says w text ≡ Err fault → (place : ℕ) × (fault ≡ Bad place) × BreaksAt IsPolicyLine text place)

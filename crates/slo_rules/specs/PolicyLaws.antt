-- What is printed of a policy and what is read of it, put together.
use Rattle.std.specs.Prelude.{◌≡◌, ℕ, ◌<◌, ◌^◌, List, [], ◌∷◌, ◌++◌, length, Option, Some, None, Ok, Err, All}
use Rattle.span_base.specs.declared.dc_set.DcSet.{DcSet}
use Rattle.span_base.specs.DcSet.{bits_of}
use Rattle.span_base.specs.declared.policy.Policy.{Policy}
use Rattle.span_base.specs.declared.policy.Policy.TheVariants.{Direct, Relay, Strong}
use Rattle.workload.specs.World.{Lists, IsComplete, IsNamed}
use Rattle.slo_rules.specs.Rules.{IsAllowed}
use Rattle.slo_rules.specs.PolicyText.{policy_lines, policy_text}
use Rattle.slo_rules.specs.PolicyReading.{Draft, blank, step, policy_of}

-- what reading lines gives, up to the one with which the policy is whole: the policy, and the lines
-- behind it; nothing where a line is refused or lacks
abbrev pub whole_or : Option Policy → List (List ℕ) → Option (Policy × List (List ℕ)) → Option (Policy × List (List ℕ))
whole_or (Some p) lines more = Some (p, lines)
whole_or None lines more = more

abbrev pub policy_from : Lists → Draft → List (List ℕ) → Option (Policy × List (List ℕ))
policy_from w d [] = whole_or (policy_of w d) [] None
policy_from w d (line ∷ lines) =
    whole_or (policy_of w d) (line ∷ lines) (elim (step w d line) [ Ok next ↦ policy_from w next lines | Err fault ↦ None ])

-- a set has no bits but those of the 16 centres, as each value of its type
abbrev pub IsFitSet : DcSet → Type 0
IsFitSet set = bits_of set < 2 ^ 16

-- so have all sets of a policy
abbrev pub HasFitSets : Policy → Type 0
HasFitSets (Direct f replicas primary) = IsFitSet replicas
HasFitSets (Relay f replicas primary parent) = IsFitSet replicas
HasFitSets (Strong f replicas members) = IsFitSet replicas × All (λ q. IsFitSet q.read × IsFitSet q.write) members

-- an allowed policy of a set of a world
pub record IsPolicyOf (w : Lists) (set : ℕ) (p : Policy) : Type 0 where
  pub there : set < length w.sets
  pub allowed : IsAllowed w set p
  pub sets : HasFitSets p

-- reading the lines that are printed of an allowed policy gives that policy, whatever lines follow
abbrev pub PrintedPoliciesAreRead : Type 0
PrintedPoliciesAreRead =
    (w : Lists) → IsComplete w → IsNamed w → (set : ℕ) (p : Policy) → IsPolicyOf w set p
    → (more : List (List ℕ)) → policy_from w (blank set) (policy_lines w p ++ more) ≡ Some (p, more)

-- lines from which a policy is read are those that are printed of it, and then what follows them
abbrev pub ReadLinesArePrinted : Type 0
ReadLinesArePrinted =
    (w : Lists) → IsComplete w → (set : ℕ) (lines : List (List ℕ)) (p : Policy) (more : List (List ℕ))
    → policy_from w (blank set) lines ≡ Some (p, more) → lines ≡ policy_lines w p ++ more

-- texts that begin with allowed policies of a set are equal only where the policies are, and what follows them
abbrev pub PolicyTextsAreToldApart : Type 0
PolicyTextsAreToldApart =
    (w : Lists) → IsComplete w → IsNamed w → (set : ℕ) (p q : Policy) → IsPolicyOf w set p → IsPolicyOf w set q
    → (after_p after_q : List ℕ) → policy_text w p ++ after_p ≡ policy_text w q ++ after_q → (p ≡ q) × (after_p ≡ after_q)

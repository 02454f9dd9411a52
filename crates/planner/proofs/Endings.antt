-- The ending of a part by the best choice of its search.
use Rattle.std.proofs.Common.{◌≡◌, ℕ, Bool, true, false, ◌&&◌, List, ◌++◌, Option, Some, None, sym, ap, subst, ◌∙◌}
use Rattle.std.specs.Prelude.{option_map}
use Rattle.std.proofs.lemmas.List.{append-nil}
use Rattle.span_base.specs.declared.policy.Policy.{Policy}
use Rattle.workload.specs.World.{Lists}
use Rattle.slo_rules.specs.Rules.{IsAllowed, fits_set}
use Rattle.slo_rules.specs.Cost.{policy_cost}
use Rattle.slo_rules.specs.PolicyText.{policy_text}
use Rattle.slo_rules.proofs.AllowedPolicies.{keeps}
use Rattle.placement.specs.Placement.{decoded}
use Rattle.branch_solver.specs.Best.{Best}
use Rattle.plan_text.specs.Parts.{complete, cut_off}
use Rattle.plan_text.specs.PlanText.{ending_text, cut_line, cost_line}
use Rattle.sink_buffer.specs.Said.{IsFrontTaken}
use Rattle.planner.specs.Ends.{found_of}

both : (a b : Bool) → a ≡ true → b ≡ true → (a && b) ≡ true
both true b e f = f
both false b e f = e

-- an allowed policy fits the set
pub allowed_fits : (w : Lists) (set : ℕ) (p : Policy) → IsAllowed w set p → fits_set w set p ≡ true
allowed_fits w set p allowed = let k = keeps w set p allowed in both _ _ k.mode k.shape

-- the policy is that of the best choice
pub best_is : (w : Lists) (set : ℕ) (found : Option Best) (best : Best) (policy : Policy) → Some policy ≡ option_map (λ (b : Best). decoded w set b.x) found → found ≡ Some best → policy ≡ decoded w set best.x
best_is w set found best policy is there = let e : Some policy ≡ Some (decoded w set best.x) = is ∙ ap (option_map (λ (b : Best). decoded w set b.x)) there in cc

-- a front of the ending with a least policy
pub complete_front : (w : Lists) (set lines cost : ℕ) (found : Option Best) (best : Best) (policy : Policy) (from now : Option (List ℕ)) (text : List ℕ)
    → Some policy ≡ option_map (λ (b : Best). decoded w set b.x) found → found ≡ Some best
    → IsFrontTaken from now (text ++ (cost_line cost ++ policy_text w policy)) → IsFrontTaken from now (text ++ ending_text w lines (complete cost (decoded w set best.x)))
complete_front w set lines cost found best policy from now text is there front =
    let P : Policy → Type 0 = λ p. IsFrontTaken from now (text ++ (cost_line cost ++ policy_text w p)) in
    subst P (best_is w set found best policy is there) front

-- a front of the ending of a search that is cut off: with the best policy, and without one
pub cut_front : (w : Lists) (set lines cost : ℕ) (found : Option Best) (policy : Policy) (from now : Option (List ℕ)) (text : List ℕ)
    → Some policy ≡ option_map (λ (b : Best). decoded w set b.x) found → cost ≡ policy_cost w set policy
    → IsFrontTaken from now (text ++ (cut_line lines (Some cost) ++ policy_text w policy)) → IsFrontTaken from now (text ++ ending_text w lines (cut_off (found_of w set found)))
cut_front w set lines cost None policy from now text is costs front = cc
cut_front w set lines cost (Some best) policy from now text is costs front =
    let same : policy ≡ decoded w set best.x = cc in
    let P : Policy → Type 0 = λ p. IsFrontTaken from now (text ++ (cut_line lines (Some (policy_cost w set p)) ++ policy_text w p)) in
    let Q : ℕ → Type 0 = λ c. IsFrontTaken from now (text ++ (cut_line lines (Some c) ++ policy_text w policy)) in
    subst P same (subst Q costs front)

pub cut_front_without : (w : Lists) (set lines : ℕ) (found : Option Best) (from now : Option (List ℕ)) (text : List ℕ)
    → None ≡ option_map (λ (b : Best). decoded w set b.x) found
    → IsFrontTaken from now (text ++ cut_line lines None) → IsFrontTaken from now (text ++ ending_text w lines (cut_off (found_of w set found)))
cut_front_without w set lines (Some best) from now text is front = cc
cut_front_without w set lines None from now text is front =
    let P : List ℕ → Type 0 = λ t. IsFrontTaken from now (text ++ t) in
    subst P (sym (append-nil (cut_line lines None))) front

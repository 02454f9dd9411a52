-- Policies and numbers of machines, read one after another.
use Rattle.std.proofs.Common.{◌≡◌, ℕ, zero, suc, ◌+◌, ◌<◌, List, [], ◌∷◌, ◌++◌, length, get_or, refl, sym, ap, subst, ◌∙◌, inr, append_assoc, length-append, arith}
use Rattle.std.specs.Prelude.{Option, Result}
use Rattle.std.specs.List.{flat_map, range_with_len}
use Rattle.std.proofs.Math.Seq.{get_or-append_seam}
use Rattle.std.proofs.lemmas.List.{get_or_append_left}
use Rattle.span_base.specs.Files.{Files}
use Rattle.span_base.specs.declared.policy.Policy.{Policy}
use Rattle.placement_rows.proofs.Loops.{pieces_next}
use Rattle.workload.specs.World.{Lists, IsComplete, centre_count}
use Rattle.slo_rules.specs.PolicyText.{policy_text, ended}
use Rattle.shelf_lines.specs.Lines.{fed}
use Rattle.joint_placement.specs.JointPlans.{no_policy}
use Rattle.plan_check.specs.declared.lines.PlanLines.{PlanLines}
use Rattle.plan_check.specs.declared.fault.CheckFault.{CheckFault}
use Rattle.plan_check.specs.Reading.{HasRead, line_count}
use Rattle.plan_check.specs.Parts.{IsPolicyRead, IsLineRefused, ReadsPolicyLines}
use Rattle.plan_check.proofs.Drafts.{whole_text}
use Rattle.plan_check.proofs.Counting.{line_count-fed}
use Rattle.slo_rules.specs.declared.policy_line.PolicyFault.{PolicyFault}
use Rattle.joint_plan.specs.JointText.{named_line, set_text, machines_line}
use Rattle.joint_plan.specs.Lines.{RefusesPolicyLine}
use Rattle.joint_plan.specs.Stops.{sets_text, fleet_text, IsPolicyLineRefused, StopsInSet, StopsInSets, StopsAtMachines, StopsInFleet}
use Rattle.joint_plan.proofs.OtherLines.{begins_read}

-- pieces that agree below a number
pieces_agree : (f h : ℕ → List ℕ) (n : ℕ) → ((k : ℕ) → k < n → f k ≡ h k) → flat_map f (range_with_len 0 n) ≡ flat_map h (range_with_len 0 n)
pieces_agree f h zero same = refl
pieces_agree f h (suc n) same =
    let one : suc n ≡ n + 1 = omega arith in
    ap (λ k. flat_map f (range_with_len 0 k)) one
    ∙ pieces_next f n
    ∙ ap (λ t. t ++ f n) (pieces_agree f h n (λ k low. same k (omega (arith, low))))
    ∙ ap (λ t. flat_map h (range_with_len 0 n) ++ t) (same n (omega arith))
    ∙ sym (pieces_next h n)
    ∙ ap (λ k. flat_map h (range_with_len 0 k)) (sym one)

-- the text of one set more
pub sets_more : (w : Lists) (policies : List Policy) (p : Policy) → sets_text w (policies ++ p ∷ []) ≡ sets_text w policies ++ (named_line w (length policies) ++ policy_text w p)
sets_more w policies p =
    let f : ℕ → List ℕ = λ k. set_text w (record { policies = policies ++ p ∷ []; machines = [] }) k in
    let h : ℕ → List ℕ = λ k. set_text w (record { policies = policies; machines = [] }) k in
    let n = length policies in
    ap (λ k. flat_map f (range_with_len 0 k)) (length-append policies (p ∷ []))
    ∙ pieces_next f n
    ∙ ap (λ t. t ++ f n) (pieces_agree f h n (λ k low. ap (λ (q : Policy). named_line w k ++ policy_text w q) (get_or_append_left policies (p ∷ []) no_policy k low)))
    ∙ ap (λ (q : Policy). sets_text w policies ++ (named_line w n ++ policy_text w q)) (get_or-append_seam policies p [] no_policy)

-- the text of one centre more
pub fleet_more : (w : Lists) (numbers : List ℕ) (count : ℕ) → fleet_text w (numbers ++ count ∷ []) ≡ fleet_text w numbers ++ machines_line w (length numbers) count
fleet_more w numbers count =
    let f : ℕ → List ℕ = λ d. machines_line w d (get_or (numbers ++ count ∷ []) d 0) in
    let h : ℕ → List ℕ = λ d. machines_line w d (get_or numbers d 0) in
    let n = length numbers in
    ap (λ k. flat_map f (range_with_len 0 k)) (length-append numbers (count ∷ []))
    ∙ pieces_next f n
    ∙ ap (λ t. t ++ f n) (pieces_agree f h n (λ k low. ap (machines_line w k) (get_or_append_left numbers (count ∷ []) 0 k low)))
    ∙ ap (λ (m : ℕ). fleet_text w numbers ++ machines_line w n m) (get_or-append_seam numbers count [] 0)

-- a set's name and its policy were read
pub set_read : (w : Lists) (set : ℕ) (files : Option Files) (name front : List ℕ) (reader : PlanLines) (p : Policy) → IsComplete w → IsPolicyRead w set files name (front ++ named_line w set) reader p
    → HasRead files name (front ++ (named_line w set ++ policy_text w p)) reader
set_read w set files name front reader p complete found =
    let named = front ++ named_line w set in
    let text : flat_map ended found.said ++ ended found.line ≡ policy_text w p = whole_text w set found.said found.draft found.next found.line p complete found.taken.leads found.stepped found.whole in
    subst (λ (t : List ℕ). HasRead files name t reader)
    (append_assoc named (flat_map ended found.said) (fed found.line) ∙ ap (λ (t : List ℕ). named ++ t) text ∙ append_assoc front (named_line w set) (policy_text w p))
    found.last.read

-- another line was read than the one due of a policy
pub policy_line_refused : (w : Lists) (set : ℕ) (files : Option Files) (name front : List ℕ) (reader : PlanLines) (reason : PolicyFault) (fault : CheckFault) → IsLineRefused w set files name front reader reason
    → RefusesPolicyLine reason reader.number reader.lines.line fault → IsPolicyLineRefused w set files name front fault
policy_line_refused w set files name front reader reason fault found refuses =
    let text = front ++ flat_map ended found.said in
    let number : reader.number ≡ line_count text + 1 = found.last.read.number ∙ line_count-fed text found.line found.last.one in
    record {
      said = found.said;
      draft = found.draft;
      line = found.line;
      reason = reason;
      taken = found.taken;
      one = found.last.one;
      there = begins_read files name (text ++ fed found.line) reader found.last.read;
      stepped = found.stepped;
      refused = subst (λ (n : ℕ). RefusesPolicyLine reason n found.line fault) number (subst (λ (t : List ℕ). RefusesPolicyLine reason reader.number t fault) found.last.is refuses);
    }

-- what reading a policy gives, over the files that the shelf told at first
pub policy_shift : (w : Lists) (set : ℕ) (files now : Option Files) (name : List ℕ) (old new : PlanLines) (r : Result (Result Policy PolicyFault) CheckFault) → now ≡ files
    → ((front : List ℕ) → HasRead now name front old → ReadsPolicyLines w set now name front new r) → (front : List ℕ) → HasRead files name front old → ReadsPolicyLines w set files name front new r
policy_shift w set files now name old new r same reads front =
    subst (λ (f : Option Files). HasRead f name front old → ReadsPolicyLines w set f name front new r) same (reads front)

-- the reading stops in the next set
pub sets_stop : (w : Lists) (files : Option Files) (name front : List ℕ) (policies : List Policy) (set : ℕ) (fault : CheckFault) → length policies ≡ set → set < length w.sets
    → StopsInSet w set files name (front ++ sets_text w policies) fault → StopsInSets w files name front fault
sets_stop w files name front policies set fault count there stops =
    inr (policies, subst (λ n. n < length w.sets) (sym count) there, subst (λ n. StopsInSet w n files name (front ++ sets_text w policies) fault) (sym count) stops)

-- one set more was read
pub sets_grow : (w : Lists) (files : Option Files) (name front : List ℕ) (policies more : List Policy) (set : ℕ) (p : Policy) (reader : PlanLines) → length policies ≡ set → more ≡ policies ++ p ∷ []
    → HasRead files name ((front ++ sets_text w policies) ++ (named_line w set ++ policy_text w p)) reader → HasRead files name (front ++ sets_text w more) reader
sets_grow w files name front policies more set p reader count is read =
    let piece = ap (λ n. named_line w n ++ policy_text w p) (sym count) in
    subst (λ (t : List ℕ). HasRead files name t reader)
    (append_assoc front (sets_text w policies) (named_line w set ++ policy_text w p)
    ∙ ap (λ t. front ++ t) (ap (λ t. sets_text w policies ++ t) piece ∙ sym (sets_more w policies p) ∙ ap (sets_text w) (sym is))) read

-- the reading stops at the next centre
pub fleet_stop : (w : Lists) (files : Option Files) (name front : List ℕ) (numbers : List ℕ) (d : ℕ) (fault : CheckFault) → length numbers ≡ d → d < centre_count w
    → StopsAtMachines w d files name (front ++ fleet_text w numbers) fault → StopsInFleet w files name front fault
fleet_stop w files name front numbers d fault count there stops =
    inr (numbers, subst (λ n. n < centre_count w) (sym count) there, subst (λ n. StopsAtMachines w n files name (front ++ fleet_text w numbers) fault) (sym count) stops)

-- one centre more was read
pub fleet_grow : (w : Lists) (files : Option Files) (name front : List ℕ) (numbers more : List ℕ) (d count : ℕ) (reader : PlanLines) → length numbers ≡ d → more ≡ numbers ++ count ∷ []
    → HasRead files name ((front ++ fleet_text w numbers) ++ machines_line w d count) reader → HasRead files name (front ++ fleet_text w more) reader
fleet_grow w files name front numbers more d count reader many is read =
    let piece = ap (λ n. machines_line w n count) (sym many) in
    subst (λ (t : List ℕ). HasRead files name t reader)
    (append_assoc front (fleet_text w numbers) (machines_line w d count)
    ∙ ap (λ t. front ++ t) (ap (λ t. fleet_text w numbers ++ t) piece ∙ sym (fleet_more w numbers count) ∙ ap (fleet_text w) (sym is))) read

-- Drafts of policies: when they are whole, and the lines that lead to them.
use Rattle.std.proofs.Common.{◌≡◌, ℕ, true, List, [], ◌∷◌, ◌++◌, refl, sym, ap, ◌∙◌, append_assoc}
use Rattle.std.proofs.lemmas.Bool.{and_from}
use Rattle.std.proofs.lemmas.List.{append-nil}
use Rattle.std.specs.Prelude.{Option, Some, None, Ok, Err}
use Rattle.std.specs.List.{flat_map}
use Rattle.std.proofs.lemmas.List.Concat.{flat_map-append}
use Rattle.span_base.specs.declared.policy.Policy.{Policy}
use Rattle.span_base.specs.declared.dc_set.DcSet.{DcSet}
use Rattle.workload.specs.World.{Lists, IsComplete, rule_of}
use Rattle.slo_rules.specs.declared.policy_reader.Next.{Next}
use Rattle.slo_rules.specs.declared.policy_reader.Next.TheVariants.{More, Done}
use Rattle.slo_rules.specs.Rules.{IsAllowed, fits_set, has_mode, has_shape}
use Rattle.slo_rules.specs.PolicyText.{policy_lines, policy_text, ended}
use Rattle.slo_rules.specs.PolicyLaws.{policy_from, whole_or}
use Rattle.slo_rules.specs.PolicyReading.{Draft, blank, step, policy_of, finished, due_in, due_of, next_of, policy_by}
use Rattle.slo_rules.proofs.AllowedPolicies.{keeps}
use Rattle.slo_rules.proofs.Reprinted.{reprinted}
use Rattle.plan_check.specs.Places.{LeadTo, IsReadBack}

-- an allowed policy fits its set
pub allowed_fits : (w : Lists) (set : ℕ) (p : Policy) → IsAllowed w set p → fits_set w set p ≡ true
allowed_fits w set p allowed = let kept = keeps w set p allowed in and_from (has_mode (rule_of w set) p) (has_shape w set p) kept.mode kept.shape

some_policy : (w : Lists) (d : Draft) (replicas : Option DcSet) → due_in w d replicas ≡ None → (p : Policy) × (finished w d replicas (due_in w d replicas) ≡ Some p)
some_policy w d None none = absurd (cc)
some_policy w d (Some replicas) none =
    (policy_by (rule_of w d.set).mode (rule_of w d.set).f replicas d, ap (finished w d (Some replicas)) none)

-- where no line is due the policy is whole
pub whole_policy : (w : Lists) (d : Draft) → due_of w d ≡ None → (p : Policy) × (policy_of w d ≡ Some p)
whole_policy w d none = some_policy w d d.replicas none

pub policy_there : (w : Lists) (d : Draft) → due_of w d ≡ None → policy_of w d ≡ None → ⊥
policy_there w d none lacks = let there = whole_policy w d none in cc (there.1)

-- a test of whether there is something tells
by_none : {X : Type 0} (f : Option X → Next) (o : Option X) → ((x : X) → f (Some x) ≡ More) → Done ≡ f o → o ≡ None
by_none f None some is = refl
by_none f (Some x) some is = absurd (cc (is, some x))

by_some : {X : Type 0} (f : Option X → Next) (F : Option X → Option Policy) (o : Option X) → f None ≡ Done → ((x : X) → F (Some x) ≡ None) → More ≡ f o → F o ≡ None
by_some f F None none open_there is = absurd (cc (is, none))
by_some f F (Some x) none open_there is = open_there x

pub due_done : (w : Lists) (d : Draft) → Done ≡ next_of (due_of w d) → due_of w d ≡ None
due_done w d is = by_none next_of (due_of w d) (λ x. refl) is

due_open : (w : Lists) (d : Draft) (replicas : Option DcSet) → More ≡ next_of (due_in w d replicas) → finished w d replicas (due_in w d replicas) ≡ None
due_open w d None more = refl
due_open w d (Some replicas) more = by_some next_of (finished w d (Some replicas)) (due_in w d (Some replicas)) refl (λ x. refl) more

-- where a line is due it isn't
pub open_policy : (w : Lists) (d : Draft) → More ≡ next_of (due_of w d) → policy_of w d ≡ None
open_policy w d more = due_open w d d.replicas more

-- one more line
pub from_step : (w : Lists) (d next : Draft) (line : List ℕ) (more : List (List ℕ)) → policy_of w d ≡ None → step w d line ≡ Ok next
    → policy_from w d (line ∷ more) ≡ policy_from w next more
from_step w d next line more none stepped =
    ap (λ (o : Option Policy). whole_or o (line ∷ more) (elim (step w d line) [ Ok n ↦ policy_from w n more | Err f ↦ None ])) none
    ∙ ap (λ r. elim r [ Ok n ↦ policy_from w n more | Err f ↦ None ]) stepped

pub lead_none : (w : Lists) (set : ℕ) → LeadTo w set [] (blank set)
lead_none w set = record { of_set = refl; leads = λ more. refl; unfinished = refl }

pub lead_more : (w : Lists) (set : ℕ) (said : List (List ℕ)) (d next : Draft) (line : List ℕ) → LeadTo w set said d → step w d line ≡ Ok next
    → (more : List (List ℕ)) → policy_from w (blank set) ((said ++ line ∷ []) ++ more) ≡ policy_from w next more
lead_more w set said d next line leads stepped more =
    ap (policy_from w (blank set)) (append_assoc said (line ∷ []) more) ∙ leads.leads (line ∷ more) ∙ from_step w d next line more leads.unfinished stepped

-- a whole policy is read whatever lines follow
pub whole_rest : (w : Lists) (d : Draft) (p : Policy) (more : List (List ℕ)) → policy_of w d ≡ Some p → policy_from w d more ≡ Some (p, more)
whole_rest w d p [] whole = ap (λ (o : Option Policy). whole_or o [] None) whole
whole_rest w d p (line ∷ more) whole =
    ap (λ (o : Option Policy). whole_or o (line ∷ more) (elim (step w d line) [ Ok next ↦ policy_from w next more | Err fault ↦ None ])) whole

-- lines that give a whole policy are its lines
whole_lines : (w : Lists) (set : ℕ) (said : List (List ℕ)) (d next : Draft) (line : List ℕ) (p : Policy) → IsComplete w → LeadTo w set said d → step w d line ≡ Ok next
    → policy_of w next ≡ Some p → said ++ line ∷ [] ≡ policy_lines w p
whole_lines w set said d next line p complete leads stepped whole =
    let from : policy_from w (blank set) (said ++ line ∷ []) ≡ Some (p, []) =
    ap (policy_from w (blank set)) (sym (append-nil (said ++ line ∷ []))) ∙ lead_more w set said d next line leads stepped [] ∙ whole_rest w next p [] whole in
    reprinted w complete set (said ++ line ∷ []) p [] from ∙ append-nil (policy_lines w p)

-- so its lines give it back
pub read_back : (w : Lists) (set : ℕ) (said : List (List ℕ)) (d next : Draft) (line : List ℕ) (p : Policy) → IsComplete w → LeadTo w set said d → step w d line ≡ Ok next
    → policy_of w next ≡ Some p → IsReadBack w set p
read_back w set said d next line p complete leads stepped whole more =
    ap (λ (lines : List (List ℕ)). policy_from w (blank set) (lines ++ more)) (sym (whole_lines w set said d next line p complete leads stepped whole))
    ∙ lead_more w set said d next line leads stepped more ∙ whole_rest w next p more whole

-- lines that give a whole policy are its text
pub whole_text : (w : Lists) (set : ℕ) (said : List (List ℕ)) (d next : Draft) (line : List ℕ) (p : Policy) → IsComplete w → LeadTo w set said d → step w d line ≡ Ok next
    → policy_of w next ≡ Some p → flat_map ended said ++ ended line ≡ policy_text w p
whole_text w set said d next line p complete leads stepped whole =
    let one : flat_map ended (line ∷ []) ≡ ended line = append-nil (ended line) in
    sym (flat_map-append ended said (line ∷ []) ∙ ap (λ (t : List ℕ). flat_map ended said ++ t) one) ∙ ap (flat_map ended) (whole_lines w set said d next line p complete leads stepped whole)

-- In the file of an accepted plan no line of a policy is refused.
use Rattle.std.proofs.Common.{◌≡◌, ℕ, ◌+◌, ◌^◌, ◌<◌, ◌⊎◌, inl, inr, Bool, true, false, ◌==◌, ◌&&◌, if◌then◌else◌, List, [], ◌∷◌, ◌++◌, length, refl, sym, ap, subst, ◌∙◌, append_assoc, lit<, lit≤, codes, slice_index}
use Rattle.std.specs.Prelude.{Option, Some, None, Result, Ok, Err, All}
use Rattle.slo_rules.specs.declared.policy_line.PolicyFault.{PolicyFault}
use Rattle.std.specs.List.{list_all, flat_map}
use Rattle.std.specs.Fmt.{decimal}
use Rattle.std.proofs.lemmas.Bool.{and_parts}
use Rattle.std.proofs.lemmas.List.Elements.{All-head, All-tail}
use Rattle.std.proofs.Math.Nat.{lt_of_lt_of_le}
use Rattle.span_base.specs.Files.{Files}
use Rattle.span_base.specs.declared.policy.Policy.{Policy}
use Rattle.zero_one.specs.Program.{IsWithinLimits}
use Rattle.bound_cert.specs.declared.leaves.Line.{Line}
use Rattle.bound_cert.specs.declared.leaves.Goal.TheVariants as claimed
use Rattle.bound_cert.specs.Reading.{IsSpellable}
use Rattle.workload.specs.World.{Lists, IsComplete, IsNamed}
use Rattle.slo_rules.specs.Rules.{IsAllowed}
use Rattle.slo_rules.specs.Cost.{policy_cost}
use Rattle.slo_rules.specs.PolicyText.{policy_lines, policy_text, ended}
use Rattle.slo_rules.specs.PolicyReading.{Draft, blank, step, policy_of}
use Rattle.slo_rules.specs.PolicyLaws.{policy_from, whole_or}
use Rattle.slo_rules.proofs.ToldApart.{OneLine, no_feed, lines_one, same_after}
use Rattle.slo_rules.proofs.AllowedPolicies.{allowed_names}
use Rattle.shelf_lines.specs.Lines.{IsLine, fed}
use Rattle.plan_text.specs.Parts.{Part, Ending, complete, none_allowed, cut_off}
use Rattle.plan_text.specs.PlanText.{plan_text, set_line, tree_text, ending_text, cost_line}
use Rattle.plan_text.specs.Plans.{EachPart, IsAcceptedPart, FitsSet, begun_plan}
use Rattle.plan_text.specs.PlanLaws.{FitsPart, FitsEnding}
use Rattle.plan_text.proofs.PlanTexts.{heads, number_one, differ, one_cost, cost_first, complete_first, tree_told, begins_result, part_first, part_spellable}
use Rattle.plan_check.specs.declared.fault.CheckFault.{CheckFault}
use Rattle.plan_check.specs.Reading.{line_count}
use Rattle.plan_check.specs.Places.{parts_read, program_at, policy_read, LeadTo, IsReadBack, StopsInPolicy, RefusesInPolicy, bad_line, bad_policy, RefusesPolicy, forbidden, wrong_cost}
use Rattle.plan_check.specs.Checks.{IsShownPart}
use Rattle.plan_check.proofs.Drafts.{from_step, whole_rest}
use Rattle.plan_check.proofs.Following.{IsOutsideFault, IsSoundFile, IsCut, IsMet, meets_at, line_one}
use Rattle.plan_check.proofs.Taking.{proof_taken, taken_spellable}
use Rattle.plan_check.proofs.SameParts.{fit_read, cost_below}
use Rattle.plan_check.proofs.NextSet.{next_part}

-- the lines of a text, split at its line feeds
with_first : ℕ → List (List ℕ) → List (List ℕ)
with_first c [] = (c ∷ []) ∷ []
with_first c (line ∷ lines) = (c ∷ line) ∷ lines

split : List ℕ → List (List ℕ)
split [] = [] ∷ []
split (c ∷ text) = if c == 10 then [] ∷ split text else with_first c (split text)

split_one : (line : List ℕ) → OneLine line → split line ≡ line ∷ []
unfolding split with_first
split_one [] one = refl
split_one (c ∷ line) one = go (c == 10) refl (split_one line (and_parts (no_feed c) (list_all no_feed line) one).1)
  where
    go : (b : Bool) → (c == 10) ≡ b → split line ≡ line ∷ [] → split (c ∷ line) ≡ (c ∷ line) ∷ []
    go true is more = absurd (let h : false ≡ true = ap (λ b. (if b then false else true) && list_all no_feed line) (sym is) ∙ one in let k : false ≡ true = h in cc)
    go false is more = ap (λ b. if b then [] ∷ split line else with_first c (split line)) is ∙ ap (with_first c) more

split_line : (line rest : List ℕ) → OneLine line → split (line ++ 10 ∷ rest) ≡ line ∷ split rest
unfolding split with_first
split_line [] rest one = refl
split_line (c ∷ line) rest one = go (c == 10) refl (split_line line rest)
  where
    go : (b : Bool) → (c == 10) ≡ b → (list_all no_feed line ≡ true → split (line ++ 10 ∷ rest) ≡ line ∷ split rest) → split ((c ∷ line) ++ 10 ∷ rest) ≡ (c ∷ line) ∷ split rest
    go true is more = absurd (let h : false ≡ true = ap (λ b. (if b then false else true) && list_all no_feed line) (sym is) ∙ one in let k : false ≡ true = h in cc)
    go false is more =
        let tail : list_all no_feed line ≡ true = (and_parts (no_feed c) (list_all no_feed line) one).1 in
        ap (λ b. if b then [] ∷ split (line ++ 10 ∷ rest) else with_first c (split (line ++ 10 ∷ rest))) is ∙ ap (with_first c) (more tail)

split_lines : (lines : List (List ℕ)) (rest : List ℕ) → All OneLine lines → split (flat_map ended lines ++ rest) ≡ lines ++ split rest
split_lines [] rest one = refl
split_lines (line ∷ lines) rest one =
    ap split (append_assoc (ended line) (flat_map ended lines) rest ∙ append_assoc line (codes "\n") (flat_map ended lines ++ rest))
    ∙ split_line line (flat_map ended lines ++ rest) (All-head OneLine line lines one)
    ∙ ap (λ ls. line ∷ ls) (split_lines lines rest (All-tail OneLine line lines one))

first_some : (c : ℕ) (lines : List (List ℕ)) → with_first c lines ≡ [] → ⊥
unfolding with_first
first_some c [] e = cc
first_some c (line ∷ lines) e = cc

split_some : (text : List ℕ) → split text ≡ [] → ⊥
unfolding split
split_some [] e = cc
split_some (c ∷ text) e = go (c == 10) e
  where
    go : (b : Bool) → (if b then [] ∷ split text else with_first c (split text)) ≡ [] → ⊥
    go true h = cc
    go false h = first_some c (split text) h

-- the part that the check stands in, and the text behind the lines of its tree that were read
pub record InPart (w : Lists) (set : ℕ) (tree : List Line) (rest : List ℕ) : Type 0 where
  pub part : Part
  pub left : List ℕ
  pub accepted : IsAcceptedPart w set part
  pub fit : FitsPart part
  pub text_is : tree_text tree ++ rest ≡ tree_text part.lines ++ (ending_text w (length part.lines) part.ending ++ left)

pub in_part_of : (w : Lists) (files : Files) (name : List ℕ) (all parts : List Part) (tree : List Line) (rest : List ℕ) → IsComplete w → IsNamed w → IsSoundFile w files name all
    → length parts < length w.sets → EachPart (IsShownPart w) parts → plan_text w all ≡ begun_plan w parts tree ++ rest → InPart w (length parts) tree rest
in_part_of w files name all parts tree rest whole named plan there shown e =
    let first = set_line w (length parts) (length (program_at w parts).costs) in
    let split_at : plan_text w all ≡ parts_read w parts ++ (first ++ (tree_text tree ++ rest)) =
    e ∙ append_assoc (parts_read w parts) (first ++ tree_text tree) rest ∙ ap (λ (t : List ℕ). parts_read w parts ++ t) (append_assoc first (tree_text tree) rest) in
    let next = next_part w files name all parts (first ++ (tree_text tree ++ rest)) whole named plan there shown split_at in
    record {
      part = next.part;
      left = next.left;
      accepted = next.accepted;
      fit = next.fit;
      text_is = same_after first _ _ (next.rest_is ∙ part_first w (length parts) next.part next.left);
    }

-- an ending that begins with the line of a cost: its policy, and the text behind the line
record Told (w : Lists) (set cost : ℕ) (text left : List ℕ) : Type 0 where
  policy : Policy
  allowed : IsAllowed w set policy
  cost_is : policy_cost w set policy ≡ cost
  back : IsReadBack w set policy
  text_is : text ≡ policy_text w policy ++ left

told_in : (w : Lists) (set cost n : ℕ) (ending : Ending) (text left : List ℕ) → IsComplete w → IsNamed w → set < length w.sets → FitsSet w set ending → FitsEnding ending → cost < 10 ^ 38
    → cost_line cost ++ text ≡ ending_text w n ending ++ left → Told w set cost text left
told_in w set cost n (complete d q) text left whole named there ok fit low e =
    let texts : decimal cost ++ 10 ∷ text ≡ decimal d ++ 10 ∷ (policy_text w q ++ left) =
    same_after (codes "result complete ") _ _ (sym (cost_first cost text) ∙ e ∙ complete_first w n d q left) in
    let first = heads (decimal cost) (decimal d) text (policy_text w q ++ left) (number_one cost (lt_of_lt_of_le low (lit≤ tt))) (number_one d (lt_of_lt_of_le fit.0 (lit≤ tt))) texts in
    let costs : cost ≡ d = one_cost cost d (cost_below cost low) fit.0 first.0 in
    record { policy = q; allowed = ok.0; cost_is = ok.1 ∙ sym costs; back = fit_read w set d q whole named there ok fit; text_is = first.1 }
told_in w set cost n none_allowed text left whole named there ok fit low e = absurd (differ 99 110 (ap (λ (t : List ℕ). slice_index t 7) (sym (cost_first cost text) ∙ e)) (lit< tt))
told_in w set cost n (cut_off found) text left whole named there ok fit low e = absurd ok

-- what is read of the lines that are left of the file
reads_on : (w : Lists) (set cost : ℕ) (said : List (List ℕ)) (draft : Draft) (rest left : List ℕ) → IsComplete w → IsNamed w → set < length w.sets → All IsLine said → LeadTo w set said draft
    → (told : Told w set cost (flat_map ended said ++ rest) left) → policy_from w draft (split rest) ≡ Some (told.policy, split left)
reads_on w set cost said draft rest left whole named there lines leads told =
    let here : said ++ split rest ≡ policy_lines w told.policy ++ split left =
    sym (split_lines said rest (λ k d inside. line_one _ (lines k d inside))) ∙ ap split told.text_is
    ∙ split_lines (policy_lines w told.policy) left (lines_one w told.policy named (allowed_names w set told.policy whole there told.allowed)) in
    sym (leads.leads (split rest)) ∙ ap (policy_from w (blank set)) here ∙ told.back (split left)

pair_of : Policy → List (List ℕ) → Option (Policy × List (List ℕ)) → Policy × List (List ℕ)
pair_of p ls (Some pair) = pair
pair_of p ls None = (p, ls)

-- one last line can't be the last of a policy
last_not : (w : Lists) (draft : Draft) (line : List ℕ) (q : Policy) (left : List ℕ) → policy_of w draft ≡ None → policy_from w draft (line ∷ []) ≡ Some (q, split left) → ⊥
unfolding pair_of
last_not w draft line q left open_there reads = by (step w draft line) refl
  where
    by_whole : (next : Draft) (o : Option Policy) → policy_of w next ≡ o → step w draft line ≡ Ok next → ⊥
    by_whole next None is stepped =
        let none : policy_from w draft (line ∷ []) ≡ None = from_step w draft next line [] open_there stepped ∙ ap (λ (o : Option Policy). whole_or o [] None) is in
        let same : None ≡ Some (q, split left) = sym none ∙ reads in
        cc
    by_whole next (Some p) is stepped =
        let some : policy_from w draft (line ∷ []) ≡ Some (p, []) = from_step w draft next line [] open_there stepped ∙ whole_rest w next p [] is in
        let same : (p, []) ≡ (q, split left) = ap (pair_of p []) (sym some ∙ reads) in
        split_some left (sym (ap (λ (pair : Policy × List (List ℕ)). pair.1) same))

    by : (r : Result Draft PolicyFault) → step w draft line ≡ r → ⊥
    by (Ok next) stepped = by_whole next (policy_of w next) refl stepped
    by (Err reason) stepped =
        let none : policy_from w draft (line ∷ []) ≡ None =
        ap (λ (o : Option Policy). whole_or o (line ∷ []) (elim (step w draft line) [ Ok n ↦ policy_from w n [] | Err f ↦ None ])) open_there
        ∙ ap (λ r. elim r [ Ok n ↦ policy_from w n [] | Err f ↦ None ]) stepped in
        let same : None ≡ Some (q, split left) = sym none ∙ reads in
        cc

-- a line that is due is none that is refused
line_not : (w : Lists) (set cost number before : ℕ) (draft : Draft) (line : List ℕ) (more : List (List ℕ)) (fault : CheckFault) (q : Policy) (left : List (List ℕ)) → policy_of w draft ≡ None
    → IsAllowed w set q → policy_cost w set q ≡ cost → policy_from w draft (line ∷ more) ≡ Some (q, left) → RefusesInPolicy w set cost number before draft line fault → ⊥
unfolding pair_of
line_not w set cost number before draft line more fault q left open_there allowed cost_is reads (bad_line reason stepped is) =
    let none : policy_from w draft (line ∷ more) ≡ None =
    ap (λ (o : Option Policy). whole_or o (line ∷ more) (elim (step w draft line) [ Ok n ↦ policy_from w n more | Err f ↦ None ])) open_there
    ∙ ap (λ r. elim r [ Ok n ↦ policy_from w n more | Err f ↦ None ]) stepped in
    let same : None ≡ Some (q, left) = sym none ∙ reads in
    cc
line_not w set cost number before draft line more fault q left open_there allowed cost_is reads (bad_policy next p stepped is refuses) =
    let some : Some (p, more) ≡ Some (q, left) = sym (from_step w draft next line more open_there stepped ∙ whole_rest w next p more is) ∙ reads in
    let same : p ≡ q = ap (λ (pair : Policy × List (List ℕ)). pair.0) (ap (pair_of p more) some) in
    refused_not refuses same
  where
    refused_not : RefusesPolicy w set cost number p fault → p ≡ q → ⊥
    refused_not (forbidden not told) same = not (subst (IsAllowed w set) (sym same) allowed)
    refused_not (wrong_cost ok not told) same = not (ap (policy_cost w set) same ∙ cost_is)

pub stops_policy_not : (w : Lists) (files : Files) (name : List ℕ) (all parts : List Part) (tree : List Line) (cost : ℕ) (fault : CheckFault) → IsComplete w → IsNamed w → IsSoundFile w files name all
    → length parts < length w.sets → EachPart (IsShownPart w) parts → IsWithinLimits (program_at w parts) → cost < 10 ^ 38 → StopsInPolicy w (Some files) name parts tree cost fault → IsOutsideFault fault
stops_policy_not w files name all parts tree cost fault whole named plan there shown limits low stops =
    let set = length parts in
    let said = stops.said in
    let text = policy_read w parts tree cost said in
    let R = RefusesInPolicy w set cost (line_count (begun_plan w parts tree) + 1) (line_count text) stops.draft in
    elim (meets_at files name (plan_text w all) text R fault plan.file plan.within stops.met) [
      | inl failing ↦ failing
      | inr on ↦ absurd (by on)
    ]
  where
    told_at : (rest : List ℕ) → plan_text w all ≡ policy_read w parts tree cost stops.said ++ rest → (left : List ℕ) × Told w (length parts) cost (flat_map ended stops.said ++ rest) left
    told_at rest e =
        let behind = flat_map ended stops.said ++ rest in
        let is : plan_text w all ≡ begun_plan w parts tree ++ (cost_line cost ++ behind) =
        e ∙ append_assoc (begun_plan w parts tree ++ cost_line cost) (flat_map ended stops.said) rest ∙ append_assoc (begun_plan w parts tree) (cost_line cost) behind in
        let here = in_part_of w files name all parts tree (cost_line cost ++ behind) whole named plan there shown is in
        let spelled : All IsSpellable tree = taken_spellable (program_at w parts) tree limits (proof_taken (program_at w parts) (claimed.Cost cost) tree stops.shown) in
        let trees = tree_told tree here.part.lines (cost_line cost ++ behind) (ending_text w (length here.part.lines) here.part.ending ++ here.left) spelled (part_spellable w (length parts) here.part here.accepted here.fit)
        (ap (λ (t : List ℕ). slice_index t 0) (cost_first cost behind)) (begins_result w (length here.part.lines) here.part.ending here.left) here.text_is in
        (here.left, told_in w (length parts) cost (length here.part.lines) here.part.ending behind here.left whole named there here.accepted.ending here.fit.ending low trees.1)

    by : IsCut (plan_text w all) (policy_read w parts tree cost stops.said)
        ⊎ IsMet (plan_text w all) (policy_read w parts tree cost stops.said)
        (RefusesInPolicy w (length parts) cost (line_count (begun_plan w parts tree) + 1) (line_count (policy_read w parts tree cost stops.said)) stops.draft) fault → ⊥
    by (inl off) =
        let told = told_at off.rest off.file_is in
        let reads = reads_on w (length parts) cost stops.said stops.draft off.rest told.0 whole named there stops.lines stops.leads told.1 in
        last_not w stops.draft off.rest told.1.policy told.0 stops.leads.unfinished (ap (policy_from w stops.draft) (sym (split_one off.rest (line_one off.rest off.line))) ∙ reads)
    by (inr met) =
        let rest = fed met.line ++ met.rest in
        let told = told_at rest (met.file_is ∙ append_assoc (policy_read w parts tree cost stops.said) (fed met.line) met.rest) in
        let reads = reads_on w (length parts) cost stops.said stops.draft rest told.0 whole named there stops.lines stops.leads told.1 in
        let first : split rest ≡ met.line ∷ split met.rest = ap split (append_assoc met.line (10 ∷ []) met.rest) ∙ split_line met.line met.rest (line_one met.line met.one) in
        line_not w (length parts) cost _ _ stops.draft met.line (split met.rest) fault told.1.policy (split told.0) stops.leads.unfinished told.1.allowed told.1.cost_is
        (ap (policy_from w stops.draft) (sym first) ∙ reads) met.refuses

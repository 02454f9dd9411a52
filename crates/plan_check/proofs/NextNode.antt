-- In the file of an accepted plan no line of a tree is refused, and no result.
use Rattle.std.proofs.Common.{◌≡◌, ℕ, ◌*◌, ◌^◌, ◌<◌, ◌≤◌, ◌⊎◌, inl, inr, Bool, true, false, List, [], ◌∷◌, ◌++◌, length, Some, refl, sym, ap, subst, ◌∙◌, append_assoc, append-nil, arith, lit<, lit≤, codes, slice_index}
use Rattle.std.specs.Prelude.{All, slice_get}
use Rattle.std.specs.Fmt.{decimal}
use Rattle.std.proofs.lemmas.List.Elements.{All-head, All-tail}
use Rattle.std.proofs.Math.Nat.{lt_of_lt_of_le, lt_of_le_of_lt}
use Rattle.std.proofs.Math.Seq.{take-append_seam}
use Rattle.span_base.specs.Files.{Files}
use Rattle.span_base.specs.declared.policy.Policy.{Policy}
use Rattle.span_base.proofs.Spelling.{decimal_reads}
use Rattle.zero_one.specs.Contents.{Contents}
use Rattle.zero_one.specs.Program.{value_of, IsWithinLimits}
use Rattle.bound_cert.specs.declared.leaves.Line.{Line}
use Rattle.bound_cert.specs.declared.leaves.Goal.TheVariants as claimed
use Rattle.bound_cert.specs.Text.{line_text}
use Rattle.bound_cert.specs.Trees.{IsProof}
use Rattle.bound_cert.specs.Reading.{IsSpellable, IsWithinRanges}
use Rattle.bound_cert.proofs.OneReading.{one_reading}
use Rattle.bound_cert.proofs.NoFault.{no_fault}
use Rattle.cert_checker.specs.Lines.{IsTaken, AreTaken}
use Rattle.cert_checker.proofs.Grounds.{one_answer}
use Rattle.workload.specs.World.{Lists, IsComplete, IsNamed}
use Rattle.slo_rules.specs.PolicyText.{policy_text}
use Rattle.slo_rules.proofs.ToldApart.{OneLine, one_append, same_after}
use Rattle.placement.specs.Placement.{IsSet, program_of, placed}
use Rattle.placement.proofs.Modes.{placing}
use Rattle.plan_text.specs.Parts.{Part, Ending, complete, none_allowed, cut_off}
use Rattle.plan_text.specs.PlanText.{plan_text, tree_text, ending_text, cost_line}
use Rattle.plan_text.specs.Plans.{EachPart, IsAcceptedPart, FitsSet, goal_of, begun_plan}
use Rattle.plan_text.specs.PlanLaws.{FitsPart}
use Rattle.plan_text.proofs.PlanTexts.{number_one, line_one, line_first, no_result, differ, one_cost, complete_first, begins_result, part_spellable, tree_begun}
use Rattle.plan_check.specs.declared.fault.CheckFault.{CheckFault}
use Rattle.plan_check.specs.Reading.{line_count}
use Rattle.plan_check.specs.Places.{program_at, set_read, StopsInTree, RefusesInTree, no_form, bad_node, unproved, unrefuted, unfinished}
use Rattle.plan_check.specs.Checks.{IsShownPart}
use Rattle.plan_check.proofs.Following.{IsOutsideFault, IsSoundFile, IsCut, IsMet, meets_at, next_refused, behind_text}
use Rattle.plan_check.proofs.Forms.{same_front}
use Rattle.plan_check.proofs.Taking.{All-right, proof_taken, taken_spellable}
use Rattle.plan_check.proofs.SameParts.{cost_below}
use Rattle.plan_check.proofs.NextPolicy.{in_part_of}

-- the value of a choice is small
value_small : (costs : List ℕ) (x : List Bool) → All (λ cost. cost < 10 ^ 24) costs → value_of costs x ≤ length costs * 10 ^ 24
value_small [] x small = omega arith
value_small (cost ∷ costs) [] small = omega arith
value_small (cost ∷ costs) (true ∷ x) small =
    let first = All-head (λ c. c < 10 ^ 24) cost costs small in
    omega (arith, first, value_small costs x (All-tail (λ c. c < 10 ^ 24) cost costs small))
value_small (cost ∷ costs) (false ∷ x) small = omega (arith, value_small costs x (All-tail (λ c. c < 10 ^ 24) cost costs small))

-- and so is the cost of an allowed policy
pub cost_small : (w : Lists) (set cost : ℕ) (p : Policy) → IsSet w set → IsWithinLimits (program_of w set) → FitsSet w set (complete cost p) → cost < 10 ^ 38
cost_small w set cost p known limits fits =
    let choice = placing w set known p fits.0 in
    let most = value_small (program_of w set).costs (placed w set p) limits.costs in
    let low : cost ≤ 4096 * 10 ^ 24 = omega (arith, fits.1, choice.value, most, limits.variables) in
    lt_of_le_of_lt low (lit< tt)

-- a line of a tree is none that is refused where it is due
node_not : (program : Contents) (before : ℕ) (tree : List Line) (node : Line) (fault : CheckFault) → IsSpellable node → IsWithinRanges node → IsTaken program tree node
    → RefusesInTree program before tree (line_text node) fault → ⊥
node_not program before tree node fault low within taken (no_form form is) = no_fault node low within form.place form.not_node
node_not program before tree node fault low within taken (bad_node other cert said spelled refused is) =
    let same : other ≡ node = one_reading other node spelled low said in
    (one_answer program tree other cert refused).0 (subst (IsTaken program tree) (sym same) taken)
node_not program before tree node fault low within taken (unproved cost cert said small not finishes is) = no_result node (10 ∷ []) (cost_line cost) refl said
node_not program before tree node fault low within taken (unrefuted cert said not finishes is) = no_result node (10 ∷ []) (codes "result none\n") refl said
node_not program before tree node fault low within taken (unfinished form is) = no_result node [] (codes "result budget " ++ form.0) refl (append-nil (line_text node) ∙ form.1)

-- nor is the result that tells the cost that is shown
complete_not : (program : Contents) (before : ℕ) (tree : List Line) (c : ℕ) (fault : CheckFault) → c < 10 ^ 38 → IsProof program tree (claimed.Cost c)
    → RefusesInTree program before tree (codes "result complete " ++ decimal c) fault → ⊥
complete_not program before tree c fault low shown (no_form form is) = form.not_complete (decimal c, refl, (decimal_reads c low).0)
complete_not program before tree c fault low shown (bad_node other cert said spelled refused is) =
    no_result other [] (codes "result complete " ++ decimal c) refl (append-nil (line_text other) ∙ said)
complete_not program before tree c fault low shown (unproved cost cert said small not finishes is) =
    let lines : codes "result complete " ++ decimal c ≡ codes "result complete " ++ decimal cost = same_front _ _ 10 10 said in
    let costs : c ≡ cost = one_cost c cost (cost_below c low) (cost_below cost small) (same_after (codes "result complete ") (decimal c) (decimal cost) lines) in
    not (subst (λ (n : ℕ). IsProof program tree (claimed.Cost n)) costs shown)
complete_not program before tree c fault low shown (unrefuted cert said not finishes is) = differ 99 110 (ap (λ (t : List ℕ). slice_index t 7) said) (lit< tt)
complete_not program before tree c fault low shown (unfinished form is) = differ 98 99 (ap (λ (t : List ℕ). slice_index t 7) (sym form.1)) (lit< tt)

-- nor the one that tells that there is no policy, where that is shown
none_not : (program : Contents) (before : ℕ) (tree : List Line) (fault : CheckFault) → IsProof program tree claimed.Nothing → RefusesInTree program before tree (codes "result none") fault → ⊥
none_not program before tree fault shown (no_form form is) = form.not_none refl
none_not program before tree fault shown (bad_node other cert said spelled refused is) = no_result other [] (codes "result none") refl (append-nil (line_text other) ∙ said)
none_not program before tree fault shown (unproved cost cert said small not finishes is) = differ 99 110 (ap (λ (t : List ℕ). slice_index t 7) (sym said)) (lit< tt)
none_not program before tree fault shown (unrefuted cert said not finishes is) = not shown
none_not program before tree fault shown (unfinished form is) = differ 98 110 (ap (λ (t : List ℕ). slice_index t 7) (sym form.1)) (lit< tt)

item_at : (xs ys : List Line) (y : Line) → slice_get (xs ++ y ∷ ys) (length xs) ≡ Some y
item_at [] ys y = refl
item_at (x ∷ xs) ys y = item_at xs ys y

-- a line of a whole tree is taken behind those before it
taken_at : (program : Contents) (tree more : List Line) (node : Line) → AreTaken program (tree ++ node ∷ more) → IsTaken program tree node
taken_at program tree more node taken =
    subst (λ (lines : List Line). IsTaken program lines node) (take-append_seam tree (node ∷ more)) (taken (length tree) node (item_at tree more node))

module _ (w : Lists) (set before : ℕ) (tree : List Line) (fault : CheckFault) (file text rest left : List ℕ) where
  -- the result comes next
  ending_not : (n : ℕ) (ending : Ending) → IsSet w set → IsWithinLimits (program_of w set) → FitsSet w set ending → IsProof (program_of w set) tree (goal_of ending)
      → rest ≡ ending_text w n ending ++ left → file ≡ text ++ rest → IsCut file text ⊎ IsMet file text (RefusesInTree (program_of w set) before tree) fault → ⊥
  ending_not n (complete c p) known limits fits shown rest_is is on =
      let low : c < 10 ^ 38 = cost_small w set c p known limits fits in
      let line = codes "result complete " ++ decimal c in
      let behind = 10 ∷ (policy_text w p ++ left) in
      let whole : file ≡ text ++ (line ++ behind) = is ∙ ap (λ (t : List ℕ). text ++ t) (rest_is ∙ complete_first w n c p left ∙ sym (append_assoc (codes "result complete ") (decimal c) behind)) in
      let one : OneLine line = one_append (codes "result complete ") (decimal c) refl (number_one c (lt_of_lt_of_le low (lit≤ tt))) in
      complete_not (program_of w set) before tree c fault low shown (next_refused file text line (policy_text w p ++ left) (RefusesInTree (program_of w set) before tree) fault whole one on)
  ending_not n none_allowed known limits fits shown rest_is is on =
      none_not (program_of w set) before tree fault shown
      (next_refused file text (codes "result none") left (RefusesInTree (program_of w set) before tree) fault (is ∙ ap (λ (t : List ℕ). text ++ t) rest_is) refl on)
  ending_not n (cut_off found) known limits fits shown rest_is is on = absurd fits

  -- a line of the tree comes next, or the result
  next_not : (part : Part) (more : List Line) → IsSet w set → IsWithinLimits (program_of w set) → IsAcceptedPart w set part → FitsPart part → part.lines ≡ tree ++ more
      → rest ≡ tree_text more ++ (ending_text w (length part.lines) part.ending ++ left) → file ≡ text ++ rest
      → IsCut file text ⊎ IsMet file text (RefusesInTree (program_of w set) before tree) fault → ⊥
  next_not part [] known limits ok fit lines_are rest_is is on =
      let same : part.lines ≡ tree = lines_are ∙ append-nil tree in
      ending_not (length part.lines) part.ending known limits ok.ending (subst (λ (ls : List Line). IsProof (program_of w set) ls (goal_of part.ending)) same ok.shown) rest_is is on
  next_not part (node ∷ more) known limits ok fit lines_are rest_is is on =
      let behind = tree_text more ++ (ending_text w (length part.lines) part.ending ++ left) in
      let whole : file ≡ text ++ (line_text node ++ 10 ∷ behind) =
      is ∙ ap (λ (t : List ℕ). text ++ t) (rest_is ∙ line_first node more (ending_text w (length part.lines) part.ending ++ left)) in
      let low : IsSpellable node = All-head IsSpellable node more (All-right IsSpellable tree (node ∷ more) (subst (All IsSpellable) lines_are (part_spellable w set part ok fit))) in
      let within : IsWithinRanges node = All-head IsWithinRanges node more (All-right IsWithinRanges tree (node ∷ more) (subst (All IsWithinRanges) lines_are fit.lines)) in
      let taken : IsTaken (program_of w set) tree node = taken_at (program_of w set) tree more node (subst (AreTaken (program_of w set)) lines_are (proof_taken (program_of w set) (goal_of part.ending) part.lines ok.shown)) in
      node_not (program_of w set) before tree node fault low within taken
      (next_refused file text (line_text node) behind (RefusesInTree (program_of w set) before tree) fault whole (line_one node low) on)

-- so nothing is refused in a tree
pub stops_tree : (w : Lists) (files : Files) (name : List ℕ) (all parts : List Part) (tree : List Line) (fault : CheckFault) → IsComplete w → IsNamed w → IsSoundFile w files name all
    → length parts < length w.sets → EachPart (IsShownPart w) parts → IsWithinLimits (program_at w parts) → StopsInTree w (Some files) name parts tree fault → IsOutsideFault fault
stops_tree w files name all parts tree fault whole named plan there shown limits stops =
    let set = length parts in
    let before = line_count (set_read w parts) in
    let text = begun_plan w parts tree in
    let R = RefusesInTree (program_at w parts) before tree in
    let known : IsSet w set = record { complete = whole; named = named; there = there } in
    let file = plan_text w all in
    elim (meets_at files name file text R fault plan.file plan.within stops.met) [
      | inl failing ↦ failing
      | inr on ↦ absurd (
          let begun = behind_text file text R fault on in
          let rest = begun.0 in
          let here = in_part_of w files name all parts tree rest whole named plan there shown begun.1 in
          let ending = ending_text w (length here.part.lines) here.part.ending ++ here.left in
          let told = tree_begun tree here.part.lines rest ending (taken_spellable (program_at w parts) tree limits stops.taken) (part_spellable w set here.part here.accepted here.fit)
          (begins_result w (length here.part.lines) here.part.ending here.left) here.text_is in
          next_not w set before tree fault file text rest here.left here.part told.0 known limits here.accepted here.fit told.1 told.2 begun.1 on)
    ]

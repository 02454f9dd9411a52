-- Parts that were read are the first of those of a plan whose text begins with theirs.
use Rattle.std.proofs.Common.{◌≡◌, ℕ, suc, ◌+◌, ◌^◌, ◌<◌, ◌≤◌, List, [], ◌∷◌, ◌++◌, length, Option, Some, None, refl, sym, ap, subst, ◌∙◌, append_assoc, arith, lit<, lit≤, codes, slice_index}
use Rattle.std.specs.Prelude.{All}
use Rattle.std.specs.List.{flat_map}
use Rattle.std.specs.Fmt.{decimal}
use Rattle.std.proofs.lemmas.List.Elements.{All-head, All-tail}
use Rattle.std.proofs.Math.Nat.{lt_of_lt_of_le}
use Rattle.span_base.specs.declared.policy.Policy.{Policy}
use Rattle.bound_cert.specs.Reading.{IsSpellable}
use Rattle.workload.specs.World.{Lists, IsComplete, IsNamed}
use Rattle.slo_rules.specs.Rules.{IsAllowed}
use Rattle.slo_rules.specs.PolicyText.{policy_lines, policy_text, ended}
use Rattle.slo_rules.specs.PolicyReading.{blank}
use Rattle.slo_rules.specs.PolicyLaws.{policy_from}
use Rattle.slo_rules.proofs.ToldApart.{OneLine, cut, cut_line, lines_one, same_after}
use Rattle.slo_rules.proofs.AllowedPolicies.{allowed_names}
use Rattle.slo_rules.proofs.ReadBack.{reads_back}
use Rattle.placement.specs.Placement.{program_of}
use Rattle.plan_text.specs.Parts.{Ending, complete, none_allowed, cut_off, Part}
use Rattle.plan_text.specs.PlanText.{set_line, tree_text, ending_text, part_text, parts_text}
use Rattle.plan_text.specs.Plans.{IsAcceptedPart, FitsSet}
use Rattle.plan_text.specs.PlanLaws.{FitsEnding, FitsPart}
use Rattle.plan_text.proofs.PlanTexts.{heads, number_one, differ, one_cost, complete_first, apart, tree_told, begins_result, part_first, part_spellable, EachFrom}
use Rattle.plan_check.specs.Places.{IsReadBack}
use Rattle.plan_check.specs.Checks.{IsEndingRead, IsShownPart}
use Rattle.plan_check.proofs.Taking.{proof_taken, taken_spellable}

-- lines with their line feeds are cut into these lines
pub cut_lines : (lines : List (List ℕ)) (rest : List ℕ) → All OneLine lines → cut (flat_map ended lines ++ rest) ≡ lines ++ cut rest
cut_lines [] rest one = refl
cut_lines (line ∷ lines) rest one =
    ap cut (append_assoc (ended line) (flat_map ended lines) rest ∙ append_assoc line (codes "\n") (flat_map ended lines ++ rest))
    ∙ cut_line line (flat_map ended lines ++ rest) (All-head OneLine line lines one)
    ∙ ap (λ ls. line ∷ ls) (cut_lines lines rest (All-tail OneLine line lines one))

-- the text of an allowed policy, cut at its line feeds
pub policy_cut : (w : Lists) (set : ℕ) (p : Policy) (rest : List ℕ) → IsComplete w → IsNamed w → set < length w.sets → IsAllowed w set p → cut (policy_text w p ++ rest) ≡ policy_lines w p ++ cut rest
policy_cut w set p rest whole named there allowed = cut_lines (policy_lines w p) rest (lines_one w p named (allowed_names w set p whole there allowed))

first_or : Policy → Option (Policy × List (List ℕ)) → Policy
first_or d (Some pair) = pair.0
first_or d None = d

-- policies that are read back from their lines are told apart by their texts
policy_same : (w : Lists) (set : ℕ) (p q : Policy) → IsComplete w → IsNamed w → set < length w.sets → IsAllowed w set p → IsAllowed w set q → IsReadBack w set p → IsReadBack w set q
    → (a b : List ℕ) → policy_text w p ++ a ≡ policy_text w q ++ b → (p ≡ q) × (a ≡ b)
unfolding first_or
policy_same w set p q whole named there ok ok' back back' a b e =
    let lines : policy_lines w p ++ cut a ≡ policy_lines w q ++ cut b = sym (policy_cut w set p a whole named there ok) ∙ ap cut e ∙ policy_cut w set q b whole named there ok' in
    let read : Some (p, cut a) ≡ Some (q, cut b) = sym (back (cut a)) ∙ ap (policy_from w (blank set)) lines ∙ back' (cut b) in
    let same : p ≡ q = ap (first_or p) read in
    (same, same_after (policy_text w q) a b (ap (λ r. policy_text w r ++ a) (sym same) ∙ e))

-- an allowed policy of numbers that fit is read back
pub fit_read : (w : Lists) (set : ℕ) (cost : ℕ) (p : Policy) → IsComplete w → IsNamed w → set < length w.sets → FitsSet w set (complete cost p) → FitsEnding (complete cost p) → IsReadBack w set p
fit_read w set cost p whole named there fits fit more = reads_back w whole named set p (record { there = there; allowed = fits.0; sets = fit.1 }) more

pub cost_below : (a : ℕ) → a < 10 ^ 38 → a < 2 ^ 128
cost_below a low = lt_of_lt_of_le low (lit≤ tt)

ending_same : (w : Lists) (set n m : ℕ) (x y : Ending) → IsComplete w → IsNamed w → set < length w.sets → FitsSet w set x → FitsSet w set y → IsEndingRead w set x → FitsEnding y
    → (a b : List ℕ) → ending_text w n x ++ a ≡ ending_text w m y ++ b → (x ≡ y) × (a ≡ b)
ending_same w set n m (complete c p) (complete d q) whole named there ok ok' read fit a b e =
    let texts : decimal c ++ 10 ∷ (policy_text w p ++ a) ≡ decimal d ++ 10 ∷ (policy_text w q ++ b) =
    same_after (codes "result complete ") _ _ (sym (complete_first w n c p a) ∙ e ∙ complete_first w m d q b) in
    let first = heads (decimal c) (decimal d) (policy_text w p ++ a) (policy_text w q ++ b) (number_one c (lt_of_lt_of_le read.0 (lit≤ tt))) (number_one d (lt_of_lt_of_le fit.0 (lit≤ tt))) texts in
    let same : (p ≡ q) × (a ≡ b) = policy_same w set p q whole named there ok.0 ok'.0 read.1 (fit_read w set d q whole named there ok' fit) a b first.1 in
    let costs : c ≡ d = one_cost c d (cost_below c read.0) fit.0 first.0 in
    ((λ i. complete (costs i) (same.0 i)), same.1)
ending_same w set n m (complete c p) none_allowed whole named there ok ok' read fit a b e = absurd (apart w n m c p a b e)
ending_same w set n m none_allowed (complete d q) whole named there ok ok' read fit a b e = absurd (apart w m n d q b a (sym e))
ending_same w set n m none_allowed none_allowed whole named there ok ok' read fit a b e = (refl, same_after (codes "result none\n") a b e)
ending_same w set n m (cut_off found) y whole named there ok ok' read fit a b e = absurd ok
ending_same w set n m (complete c p) (cut_off found) whole named there ok ok' read fit a b e = absurd ok'
ending_same w set n m none_allowed (cut_off found) whole named there ok ok' read fit a b e = absurd ok'

part_same : (w : Lists) (set : ℕ) (x y : Part) → IsComplete w → IsNamed w → set < length w.sets → IsShownPart w set x → IsAcceptedPart w set y → FitsPart y
    → (a b : List ℕ) → part_text w set x ++ a ≡ part_text w set y ++ b → (x ≡ y) × (a ≡ b)
part_same w set x y whole named there shown ok fit a b e =
    let behind : tree_text x.lines ++ (ending_text w (length x.lines) x.ending ++ a) ≡ tree_text y.lines ++ (ending_text w (length y.lines) y.ending ++ b) =
    same_after (set_line w set (length (program_of w set).costs)) _ _ (sym (part_first w set x a) ∙ e ∙ part_first w set y b) in
    let spelled : All IsSpellable x.lines = taken_spellable (program_of w set) x.lines shown.limits (proof_taken (program_of w set) _ x.lines shown.accepted.shown) in
    let trees = tree_told x.lines y.lines (ending_text w (length x.lines) x.ending ++ a) (ending_text w (length y.lines) y.ending ++ b) spelled (part_spellable w set y ok fit) (begins_result w (length x.lines) x.ending a) (begins_result w (length y.lines) y.ending b) behind in
    let ends : (x.ending ≡ y.ending) × (a ≡ b) = ending_same w set (length x.lines) (length y.lines) x.ending y.ending whole named there shown.accepted.ending ok.ending shown.read fit.ending a b trees.1 in
    ((λ i. record { lines = trees.0 i; ending = ends.0 i }), ends.1)

-- the parts that come behind some, and the text that is left of a plan
pub record AreBehind (w : Lists) (set : ℕ) (all first : List Part) (rest : List ℕ) : Type 0 where
  pub more : List Part
  pub all_is : all ≡ first ++ more
  pub rest_is : rest ≡ parts_text w (set + length first) more ++ codes "end\n"
  pub accepted : EachFrom (IsAcceptedPart w) (set + length first) more
  pub fit : EachFrom (λ n part. FitsPart part) (set + length first) more

set_not_end : (w : Lists) (set : ℕ) (x : Part) (rest : List ℕ) → codes "end\n" ≡ part_text w set x ++ rest → ⊥
set_not_end w set x rest e =
    let first : slice_index (part_text w set x ++ rest) 0 ≡ 115 = ap (λ (t : List ℕ). slice_index t 0) (part_first w set x rest) in
    differ 101 115 (ap (λ (t : List ℕ). slice_index t 0) e ∙ first) (lit< tt)

pub parts_behind : (w : Lists) (set : ℕ) (first all : List Part) (rest : List ℕ) → IsComplete w → IsNamed w → set + length first ≤ length w.sets
    → EachFrom (IsShownPart w) set first → EachFrom (IsAcceptedPart w) set all → EachFrom (λ n part. FitsPart part) set all
    → parts_text w set all ++ codes "end\n" ≡ parts_text w set first ++ rest → AreBehind w set all first rest
parts_behind w set [] all rest whole named few shown ok fit e =
    let here : set ≡ set + 0 = omega arith in
    record {
      more = all;
      all_is = refl;
      rest_is = sym e ∙ ap (λ n. parts_text w n all ++ codes "end\n") here;
      accepted = subst (λ (n : ℕ). EachFrom (IsAcceptedPart w) n all) here ok;
      fit = subst (λ (n : ℕ). EachFrom (λ k part. FitsPart part) n all) here fit;
    }
parts_behind w set (x ∷ first) [] rest whole named few shown ok fit e =
    absurd (set_not_end w set x (parts_text w (set + 1) first ++ rest) (e ∙ append_assoc (part_text w set x) (parts_text w (set + 1) first) rest))
parts_behind w set (x ∷ first) (y ∷ all) rest whole named few shown ok fit e =
    let both = part_same w set x y whole named (omega arith) shown.0 ok.0 fit.0 (parts_text w (set + 1) first ++ rest) (parts_text w (set + 1) all ++ codes "end\n")
    (sym (append_assoc (part_text w set x) (parts_text w (set + 1) first) rest) ∙ sym e ∙ append_assoc (part_text w set y) (parts_text w (set + 1) all) (codes "end\n")) in
    let on = parts_behind w (set + 1) first all rest whole named (omega arith) shown.1 ok.1 fit.1 (sym both.1) in
    let there : (set + 1) + length first ≡ set + suc (length first) = omega arith in
    record {
      more = on.more;
      all_is = ap (λ ps. y ∷ ps) on.all_is ∙ ap (λ p. p ∷ (first ++ on.more)) (sym both.0);
      rest_is = on.rest_is ∙ ap (λ n. parts_text w n on.more ++ codes "end\n") there;
      accepted = subst (λ (n : ℕ). EachFrom (IsAcceptedPart w) n on.more) there on.accepted;
      fit = subst (λ (n : ℕ). EachFrom (λ k part. FitsPart part) n on.more) there on.fit;
    }

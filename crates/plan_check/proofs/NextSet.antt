-- The part that comes next in the file of an accepted plan: no other set's line is met.
use Rattle.std.proofs.Common.{◌≡◌, ℕ, ◌+◌, ◌^◌, ◌<◌, ◌⊎◌, inl, inr, true, false, ◌==◌, ◌&&◌, if◌then◌else◌, List, [], ◌∷◌, ◌++◌, length, refl, sym, ap, subst, ◌∙◌, append_assoc, length-append, arith, lit≤, codes}
use Rattle.std.specs.Prelude.{Some}
use Rattle.std.specs.List.{list_all}
use Rattle.std.specs.Fmt.{decimal}
use Rattle.std.proofs.lemmas.Bool.{and_parts, ne_eqb}
use Rattle.std.proofs.Math.Nat.{lt_of_lt_of_le}
use Rattle.span_base.specs.Files.{Files}
use Rattle.span_base.specs.Name.{IsName, is_name_byte}
use Rattle.workload.specs.World.{Lists, IsComplete, IsNamed, set_of, rule_of}
use Rattle.workload.specs.Modes.{word_of}
use Rattle.workload.specs.declared.rules.Mode.{Mode}
use Rattle.workload.specs.declared.rules.Mode.TheVariants.{Direct, Relay, Strong}
use Rattle.placement.specs.Placement.{program_of}
use Rattle.slo_rules.proofs.ToldApart.{OneLine, one_append, no_feed}
use Rattle.plan_text.specs.Parts.{Part}
use Rattle.plan_text.specs.PlanText.{plan_text, parts_text, part_text, tree_text, ending_text}
use Rattle.plan_text.specs.Plans.{EachPart, IsAcceptedPart}
use Rattle.plan_text.specs.PlanLaws.{FitsPart}
use Rattle.plan_text.proofs.PlanTexts.{number_one, part_first, EachFrom}
use Rattle.plan_check.specs.declared.fault.CheckFault.{CheckFault}
use Rattle.plan_check.specs.Reading.{line_count}
use Rattle.plan_check.specs.Places.{parts_read, program_at}
use Rattle.plan_check.specs.Checks.{IsShownPart, IsOtherSet, StopsAtSet, due_at}
use Rattle.plan_check.proofs.Following.{IsOutsideFault, IsSoundFile, never_cut, IsCut, IsMet, meets_at, next_refused, behind_text}
use Rattle.plan_check.proofs.Complete.{behind_parts}

-- a part comes next, and then the text that is left
pub record NextPart (w : Lists) (set : ℕ) (rest : List ℕ) : Type 0 where
  pub part : Part
  pub left : List ℕ
  pub accepted : IsAcceptedPart w set part
  pub fit : FitsPart part
  pub rest_is : rest ≡ part_text w set part ++ left

next_in : (w : Lists) (set : ℕ) (more : List Part) (rest : List ℕ) → EachFrom (IsAcceptedPart w) set more → EachFrom (λ n part. FitsPart part) set more
    → rest ≡ parts_text w set more ++ codes "end\n" → 0 < length more → NextPart w set rest
next_in w set [] rest ok fit is some = absurd (omega arith)
next_in w set (part ∷ more) rest ok fit is some = record {
  part = part;
  left = parts_text w (set + 1) more ++ codes "end\n";
  accepted = ok.0;
  fit = fit.0;
  rest_is = is ∙ append_assoc (part_text w set part) (parts_text w (set + 1) more) (codes "end\n");
}

pub next_part : (w : Lists) (files : Files) (name : List ℕ) (all parts : List Part) (rest : List ℕ) → IsComplete w → IsNamed w → IsSoundFile w files name all
    → length parts < length w.sets → EachPart (IsShownPart w) parts → plan_text w all ≡ parts_read w parts ++ rest → NextPart w (length parts) rest
next_part w files name all parts rest whole named plan there shown e =
    let behind = behind_parts w files name all parts rest whole named plan (omega (arith, there)) shown e in
    let size : length all ≡ length parts + length behind.more = ap length behind.all_is ∙ length-append parts behind.more in
    let z : 0 + length parts ≡ length parts = omega arith in
    subst (λ (n : ℕ). NextPart w n rest) z (next_in w (0 + length parts) behind.more rest behind.accepted behind.fit behind.rest_is (omega (arith, size, there, plan.sound.one_each)))

-- the words of a set's line are in one line
bytes_one : (name : List ℕ) → list_all is_name_byte name ≡ true → OneLine name
bytes_one [] h = refl
bytes_one (c ∷ name) h =
    let parts = and_parts (is_name_byte c) (list_all is_name_byte name) h in
    let other : (c == 10) ≡ false = ne_eqb c 10 (λ e. let f : is_name_byte 10 ≡ true = ap is_name_byte (sym e) ∙ parts.0 in cc) in
    ap (λ b. (if b then false else true) && list_all no_feed name) other ∙ bytes_one name parts.1

name_one : (name : List ℕ) → IsName name → OneLine name
name_one name is = bytes_one name (and_parts (list_all is_name_byte name) _ is).0

word_one : (mode : Mode) → OneLine (word_of mode)
word_one Direct = refl
word_one Relay = refl
word_one Strong = refl

set_name : (w : Lists) (set : ℕ) → IsNamed w → set < length w.sets → IsName (set_of w set).name
set_name w set named there = (named.sets.each set _ there).name

abbrev pub set_words : Lists → ℕ → ℕ → List ℕ
set_words w set variables = codes "set " ++ (set_of w set).name ++ codes " " ++ word_of (rule_of w set).mode ++ codes " " ++ decimal variables

words_one : (w : Lists) (set variables : ℕ) → IsNamed w → set < length w.sets → variables < 2 ^ 64 → OneLine (set_words w set variables)
words_one w set variables named there few =
    let name = (set_of w set).name in
    let word = word_of (rule_of w set).mode in
    one_append (codes "set " ++ name ++ codes " " ++ word ++ codes " ") (decimal variables)
    (one_append (codes "set " ++ name ++ codes " " ++ word) (codes " ")
    (one_append (codes "set " ++ name ++ codes " ") word
    (one_append (codes "set " ++ name) (codes " ") (one_append (codes "set ") name refl (name_one name (set_name w set named there))) refl)
    (word_one (rule_of w set).mode)) refl)
    (number_one variables (lt_of_lt_of_le few (lit≤ tt)))

-- a part's first line, and what follows it
pub set_first : (w : Lists) (set : ℕ) (part : Part) (rest : List ℕ)
    → part_text w set part ++ rest ≡ set_words w set (length (program_of w set).costs) ++ 10 ∷ (tree_text part.lines ++ (ending_text w (length part.lines) part.ending ++ rest))
set_first w set part rest =
    part_first w set part rest ∙ append_assoc (set_words w set (length (program_of w set).costs)) (codes "\n") (tree_text part.lines ++ (ending_text w (length part.lines) part.ending ++ rest))

-- so no other set's line is met
pub stops_set : (w : Lists) (files : Files) (name : List ℕ) (all parts : List Part) (fault : CheckFault) → IsComplete w → IsNamed w → IsSoundFile w files name all
    → length parts < length w.sets → EachPart (IsShownPart w) parts → StopsAtSet w (Some files) name parts fault → IsOutsideFault fault
stops_set w files name all parts fault whole named plan there shown met =
    let text = parts_read w parts in
    let variables = length (program_at w parts).costs in
    let R = IsOtherSet variables (due_at w parts) (line_count text + 1) in
    elim (meets_at files name (plan_text w all) text R fault plan.file plan.within met) [
      | inl failing ↦ failing
      | inr on ↦ absurd (
          let begun = behind_text (plan_text w all) text R fault on in
          let next = next_part w files name all parts begun.0 whole named plan there shown begun.1 in
          let words = set_words w (length parts) variables in
          let more = tree_text next.part.lines ++ (ending_text w (length next.part.lines) next.part.ending ++ next.left) in
          let is : plan_text w all ≡ text ++ (words ++ 10 ∷ more) = begun.1 ∙ ap (λ (t : List ℕ). text ++ t) (next.rest_is ∙ set_first w (length parts) next.part next.left) in
          refused_not (plan_text w all) text words more is on (words_one w (length parts) variables named there))
    ]
  where
    refused_not : (file text words more : List ℕ) → file ≡ text ++ (words ++ 10 ∷ more)
        → IsCut file text ⊎ IsMet file text (IsOtherSet (length (program_at w parts).costs) (words ++ codes "\n") (line_count text + 1)) fault
        → (length (program_at w parts).costs < 2 ^ 64 → OneLine words) → ⊥
    refused_not file text words more is (inl off) one = never_cut file text words more is off
    refused_not file text words more is (inr met) one =
        let refused = next_refused file text words more (IsOtherSet (length (program_at w parts).costs) (words ++ codes "\n") (line_count text + 1)) fault is (one met.refuses.few) (inr met) in
        refused.other refl

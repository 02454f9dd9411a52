-- No line of an accepted plan is too long.
use Rattle.std.proofs.Common.{◌≡◌, ◌≢◌, ℕ, ◌+◌, ◌^◌, ◌<◌, ◌≤◌, List, [], ◌∷◌, ◌++◌, length, sym, ap, ◌∙◌, append_assoc, arith, lit<, lit≤, codes, slice_index}
use Rattle.std.specs.Prelude.{All}
use Rattle.std.specs.List.{flat_map}
use Rattle.std.specs.Fmt.{decimal}
use Rattle.std.proofs.lemmas.List.Elements.{All-head, All-tail}
use Rattle.std.proofs.Math.Nat.{lt_of_le_of_lt}
use Rattle.zero_one.specs.Program.{IsWithinLimits}
use Rattle.bound_cert.specs.declared.leaves.Line.{Line}
use Rattle.bound_cert.specs.Text.{line_text}
use Rattle.workload.specs.World.{Lists, IsComplete, IsNamed}
use Rattle.slo_rules.specs.PolicyText.{ended, policy_lines, policy_text}
use Rattle.shelf_lines.specs.Lines.{IsLine}
use Rattle.placement.specs.Placement.{IsSet, program_of}
use Rattle.plan_text.specs.Parts.{Part, Ending, complete, none_allowed, cut_off}
use Rattle.plan_text.specs.PlanText.{plan_text, tree_text, ending_text, part_text, parts_text}
use Rattle.plan_text.specs.Plans.{EachPart, IsAcceptedPart, FitsSet, goal_of}
use Rattle.plan_text.proofs.PlanTexts.{line_first, complete_first, EachFrom, each_all}
use Rattle.plan_check.proofs.Complete.{plan_split}
use Rattle.plan_check.proofs.NextSet.{set_words, set_first}
use Rattle.plan_check.proofs.NextNode.{cost_small}
use Rattle.plan_check.proofs.Taking.{proof_taken, taken_each}
use Rattle.plan_check.proofs.ProgramLimits.{set_within}
use Rattle.plan_check.proofs.ShortLines.{IsShort, set_short, cost_short, policy_short, line_short}

-- no run of bytes without a line feed is longer than a line may be
abbrev pub HasShortRuns : List ℕ → Type 0
HasShortRuns text = (before run rest : List ℕ) → text ≡ before ++ (run ++ rest) → IsLine run → length run ≤ 1048576

-- a run that begins with a line ends with it
within_line : (line more run rest : List ℕ) → line ++ 10 ∷ more ≡ run ++ rest → IsLine run → length run ≤ length line
within_line line more [] rest e one = omega arith
within_line [] more (c ∷ run) rest e one =
    let first : 10 ≡ c = ap (λ (t : List ℕ). slice_index t 0) e in
    absurd (All-head (λ byte. byte ≢ 10) c run one (sym first))
within_line (d ∷ line) more (c ∷ run) rest e one =
    let behind : line ++ 10 ∷ more ≡ run ++ rest = cc in
    omega (arith, within_line line more run rest behind (All-tail (λ byte. byte ≢ 10) c run one))

-- a short line, and a text behind it
short_line : (line more : List ℕ) → IsShort line → HasShortRuns more → HasShortRuns (line ++ 10 ∷ more)
short_line line more short runs [] run rest e one = omega (arith, within_line line more run rest e one, short)
short_line [] more short runs (b ∷ before) run rest e one = let behind : more ≡ before ++ (run ++ rest) = cc in runs before run rest behind one
short_line (d ∷ line) more short runs (b ∷ before) run rest e one =
    let behind : line ++ 10 ∷ more ≡ before ++ (run ++ rest) = cc in
    short_line line more (omega (arith, short)) runs before run rest behind one

no_runs : HasShortRuns []
no_runs [] [] rest e one = omega arith
no_runs [] (c ∷ run) rest e one = absurd (cc)
no_runs (b ∷ before) run rest e one = absurd (cc)

same_runs : (a b : List ℕ) → a ≡ b → HasShortRuns b → HasShortRuns a
same_runs a b same runs before run rest e one = runs before run rest (sym same ∙ e) one

lines_runs : (lines : List (List ℕ)) (more : List ℕ) → All IsShort lines → HasShortRuns more → HasShortRuns (flat_map ended lines ++ more)
lines_runs [] more short runs = runs
lines_runs (line ∷ lines) more short runs =
    same_runs _ _ (append_assoc (ended line) (flat_map ended lines) more ∙ append_assoc line (codes "\n") (flat_map ended lines ++ more))
    (short_line line (flat_map ended lines ++ more) (All-head IsShort line lines short) (lines_runs lines more (All-tail IsShort line lines short) runs))

-- a tree
abbrev HasShortText : Line → Type 0
HasShortText line = IsShort (line_text line)

tree_runs : (lines : List Line) (more : List ℕ) → All HasShortText lines → HasShortRuns more → HasShortRuns (tree_text lines ++ more)
tree_runs [] more short runs = runs
tree_runs (line ∷ lines) more short runs =
    same_runs _ _ (line_first line lines more)
    (short_line (line_text line) (tree_text lines ++ more) (All-head HasShortText line lines short) (tree_runs lines more (All-tail HasShortText line lines short) runs))

-- the result of a set, and its policy
ending_runs : (w : Lists) (set n : ℕ) (ending : Ending) (more : List ℕ) → IsSet w set → IsWithinLimits (program_of w set) → FitsSet w set ending → HasShortRuns more → HasShortRuns (ending_text w n ending ++ more)
ending_runs w set n (complete c p) more known limits fits runs =
    let behind = policy_text w p ++ more in
    same_runs _ _ (complete_first w n c p more ∙ sym (append_assoc (codes "result complete ") (decimal c) (10 ∷ behind)))
    (short_line (codes "result complete " ++ decimal c) behind (cost_short c (cost_small w set c p known limits fits)) (lines_runs (policy_lines w p) more (policy_short w p known.named) runs))
ending_runs w set n none_allowed more known limits fits runs = short_line (codes "result none") more (lit≤ tt) runs
ending_runs w set n (cut_off found) more known limits fits runs = absurd fits

-- a part, of a set that is there
abbrev pub IsPartThere : Lists → ℕ → Part → Type 0
IsPartThere w set part = (set < length w.sets) × IsAcceptedPart w set part

part_runs : (w : Lists) (set : ℕ) (part : Part) (more : List ℕ) → IsSet w set → IsAcceptedPart w set part → HasShortRuns more → HasShortRuns (part_text w set part ++ more)
part_runs w set part more known accepted runs =
    let program = program_of w set in
    let limits : IsWithinLimits program = set_within w set known in
    let ending = ending_text w (length part.lines) part.ending ++ more in
    let variables : length program.costs < 10 ^ 20 = lt_of_le_of_lt limits.variables (lit< tt) in
    let tree = taken_each HasShortText program part.lines (λ path line taken. line_short program path line limits taken) (proof_taken program (goal_of part.ending) part.lines accepted.shown) in
    same_runs _ _ (set_first w set part more)
    (short_line (set_words w set (length program.costs)) (tree_text part.lines ++ ending) (set_short w set (length program.costs) known.named variables)
    (tree_runs part.lines ending tree (ending_runs w set (length part.lines) part.ending more known limits accepted.ending runs)))

parts_runs : (w : Lists) (set : ℕ) (parts : List Part) (more : List ℕ) → IsComplete w → IsNamed w → EachFrom (IsPartThere w) set parts → HasShortRuns more → HasShortRuns (parts_text w set parts ++ more)
parts_runs w set [] more whole named each runs = runs
parts_runs w set (part ∷ parts) more whole named each runs =
    let known : IsSet w set = record { complete = whole; named = named; there = each.0.0 } in
    same_runs _ _ (append_assoc (part_text w set part) (parts_text w (set + 1) parts) more)
    (part_runs w set part (parts_text w (set + 1) parts ++ more) known each.0.1 (parts_runs w (set + 1) parts more whole named each.1 runs))

pub plan_runs : (w : Lists) (parts : List Part) → IsComplete w → IsNamed w → EachPart (IsPartThere w) parts → HasShortRuns (plan_text w parts)
plan_runs w parts whole named each =
    same_runs _ _ (plan_split w parts)
    (short_line (codes "span-plan 1") (parts_text w 0 parts ++ codes "end\n") (lit≤ tt)
    (parts_runs w 0 parts (codes "end\n") whole named (each_all (IsPartThere w) parts each) (short_line (codes "end") [] (lit≤ tt) no_runs)))

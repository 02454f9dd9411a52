-- How a plan is written.
use Rattle.std.specs.Prelude.{ℕ, ◌+◌, List, [], ◌∷◌, ◌++◌, codes, length, Option, Some, None}
use Rattle.std.specs.List.{flat_map}
use Rattle.std.specs.Fmt.{decimal}
use Rattle.bound_cert.specs.declared.leaves.Line.{Line}
use Rattle.bound_cert.specs.Text.{line_text}
use Rattle.workload.specs.World.{Lists, set_of, rule_of}
use Rattle.workload.specs.Modes.{word_of}
use Rattle.placement.specs.Placement.{program_of}
use Rattle.slo_rules.specs.PolicyText.{policy_text}
use Rattle.plan_text.specs.Parts.{Priced, Ending, complete, none_allowed, cut_off, Part}

-- the line that begins the part of a set: its name, its mode and its number of variables
abbrev pub set_line : Lists → ℕ → ℕ → List ℕ
set_line w set variables =
    codes "set " ++ (set_of w set).name ++ codes " " ++ word_of (rule_of w set).mode ++ codes " " ++ decimal variables ++ codes "\n"

-- a line of a tree, with its line feed
abbrev pub tree_line : Line → List ℕ
tree_line line = line_text line ++ codes "\n"

-- the lines of a tree
abbrev pub tree_text : List Line → List ℕ
tree_text lines = flat_map tree_line lines

-- the line of a result that has the policy of least cost
abbrev pub cost_line : ℕ → List ℕ
cost_line cost = codes "result complete " ++ decimal cost ++ codes "\n"

-- the cost of the best policy found, or a hyphen where none was
abbrev pub found_cost : Option ℕ → List ℕ
found_cost None = codes "-"
found_cost (Some cost) = decimal cost

-- the first words of the line of a search cut off at this number of lines
unfoldable pub cut_words : ℕ → List ℕ
cut_words lines = codes "result budget " ++ decimal lines ++ codes " "

-- the line of a search cut off at this number of lines, with the cost of the best policy found
abbrev pub cut_line : ℕ → Option ℕ → List ℕ
cut_line lines cost = cut_words lines ++ found_cost cost ++ codes "\n"

-- the cost of a policy that was found, if one was
abbrev pub cost_of : Option Priced → Option ℕ
cost_of None = None
cost_of (Some found) = Some found.cost

-- the lines of a policy that was found, if one was
abbrev pub found_text : Lists → Option Priced → List ℕ
found_text w None = []
found_text w (Some found) = policy_text w found.policy

-- the result of a set behind this number of lines, with the lines of its policy
abbrev pub ending_text : Lists → ℕ → Ending → List ℕ
ending_text w lines (complete cost policy) = cost_line cost ++ policy_text w policy
ending_text w lines none_allowed = codes "result none\n"
ending_text w lines (cut_off found) = cut_line lines (cost_of found) ++ found_text w found

-- the part of a set as far as its tree has these lines
abbrev pub begun_text : Lists → ℕ → List Line → List ℕ
begun_text w set lines = set_line w set (length (program_of w set).costs) ++ tree_text lines

-- the part of a set
abbrev pub part_text : Lists → ℕ → Part → List ℕ
part_text w set part = begun_text w set part.lines ++ ending_text w (length part.lines) part.ending

-- the parts of the sets from one on
abbrev pub parts_text : Lists → ℕ → List Part → List ℕ
parts_text w set [] = []
parts_text w set (part ∷ parts) = part_text w set part ++ parts_text w (set + 1) parts

-- the text of a plan: its first line, the part of every set in order, its last line
abbrev pub plan_text : Lists → List Part → List ℕ
plan_text w parts = codes "span-plan 1\n" ++ parts_text w 0 parts ++ codes "end\n"

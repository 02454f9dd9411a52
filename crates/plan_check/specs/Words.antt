-- What a line says in the place of a tree's line or of a result. A line is told without its line feed.
use Rattle.std.specs.Prelude.{◌≡◌, ◌<◌, ◌^◌, ℕ, ◌⊎◌, List, ◌++◌, codes, Option, Some, None, Result, Ok, Err, ⊤}
use Rattle.span_base.specs.Name.{IsName}
use Rattle.span_base.specs.Number.{IsNumber, number_of}
use Rattle.workload.specs.Modes.{word_of}
use Rattle.workload.specs.declared.rules.Mode.TheVariants.{Direct, Relay, Strong}
use Rattle.shelf_lines.specs.Lines.{fed}
use Rattle.bound_cert.specs.Text.{line_text}
use Rattle.bound_cert.specs.Reading.{IsFirstFault, IsSpellable}
use Rattle.plan_text.specs.PlanText.{cost_line}
use Rattle.plan_check.specs.declared.word.TreeWord.{TreeWord}
use Rattle.plan_check.specs.declared.word.TreeWord.TheVariants.{Node, Complete, Nothing, Budget}
use Rattle.plan_check.specs.declared.word.Unread.{Unread}
use Rattle.plan_check.specs.declared.word.Unread.TheVariants.{Syntax, NoMemory}

-- the result of a whole search: a number is its cost
abbrev pub IsCompleteForm : List ℕ → Type 0
IsCompleteForm text = (digits : List ℕ) × (text ≡ codes "result complete " ++ digits) × IsNumber digits

-- a hyphen where nothing was found, or the number that is its cost
abbrev pub IsFoundForm : List ℕ → Type 0
IsFoundForm text = (text ≡ codes "-") ⊎ IsNumber text

-- one form, a space, and another form
abbrev pub IsPairOf : (List ℕ → Type 0) → (List ℕ → Type 0) → List ℕ → Type 0
IsPairOf First Second text = (first : List ℕ) × (second : List ℕ) × (text ≡ first ++ codes " " ++ second) × First first × Second second

-- a number of lines, and what was found up to it
abbrev pub IsCutForm : List ℕ → Type 0
IsCutForm text = IsPairOf IsNumber IsFoundForm text

-- the result of a search cut off
abbrev pub IsBudgetForm : List ℕ → Type 0
IsBudgetForm text = (rest : List ℕ) × (text ≡ codes "result budget " ++ rest) × IsCutForm rest

-- the line is none of a tree, and none of the three results
pub record HasNoForm (text : List ℕ) : Type 0 where
  pub place : ℕ
  pub not_node : IsFirstFault text place
  pub not_complete : ¬ IsCompleteForm text
  pub not_none : ¬ (text ≡ codes "result none")
  pub not_budget : ¬ IsBudgetForm text

abbrev pub SaysWord : List ℕ → Result TreeWord Unread → Type 0
SaysWord text (Ok (Node line)) = (line_text line ≡ text) × IsSpellable line
SaysWord text (Ok (Complete cost)) = (fed text ≡ cost_line cost) × (cost < 10 ^ 38)
SaysWord text (Ok Nothing) = fed text ≡ codes "result none\n"
SaysWord text (Ok Budget) = IsBudgetForm text
SaysWord text (Err Syntax) = HasNoForm text
SaysWord text (Err NoMemory) = ⊤

-- the cost that a result of a whole search tells; none where the line is none
abbrev pub SaysComplete : List ℕ → Option ℕ → Type 0
SaysComplete text None = ¬ IsCompleteForm text
SaysComplete text (Some cost) = (fed text ≡ cost_line cost) × (cost < 10 ^ 38)

-- the number that a text is; none where it is no number
abbrev pub IsNumberIn : List ℕ → Option ℕ → Type 0
IsNumberIn text None = ¬ IsNumber text
IsNumberIn text (Some number) = IsNumber text × (number ≡ number_of text)

-- which result a line tells
abbrev pub SaysResult : List ℕ → Result TreeWord Unread → Type 0
SaysResult text (Ok (Node line)) = ⊥
SaysResult text (Ok (Complete cost)) = (fed text ≡ cost_line cost) × (cost < 10 ^ 38)
SaysResult text (Ok Nothing) = fed text ≡ codes "result none\n"
SaysResult text (Ok Budget) = IsBudgetForm text
SaysResult text (Err Syntax) = (¬ IsCompleteForm text) × (¬ (text ≡ codes "result none")) × (¬ IsBudgetForm text)
SaysResult text (Err NoMemory) = ⊥

-- the word of a mode
abbrev pub IsModeWord : List ℕ → Type 0
IsModeWord text = (text ≡ word_of Direct) ⊎ ((text ≡ word_of Relay) ⊎ (text ≡ word_of Strong))

-- a line of the form that begins the part of some set, whether or not the world has it
abbrev pub IsSetForm : List ℕ → Type 0
IsSetForm text = (rest : List ℕ) × (text ≡ codes "set " ++ rest) × IsPairOf IsName (IsPairOf IsModeWord IsNumber) rest

-- The words of the command line.
use Rattle.std.specs.Prelude.{ℕ, Bool, ◌&&◌, if◌then◌else◌, nat_lt, nat_le, List, [], ◌∷◌, length, codes, Option, Some, None}
use Rattle.std.specs.Str.{bytes_eq}
use Rattle.span_base.specs.Number.{is_number, number_of}
use Rattle.span_top.specs.declared.command.Command.{Command}
use Rattle.span_top.specs.declared.command.Command.TheVariants as command

-- what the words ask for: a plan of the world in a named file, with at most so many tree lines a set;
-- the check of a plan of a world, both in named files; the run of the schedule in a named file, and the one whose replicas crash; the audit of the log in a named file;
-- the run of the script in a named file over a link; or a run of so many calls
pub data Asked : Type 0 where
  a_plan : List ℕ → ℕ → Asked
  a_check : List ℕ → List ℕ → Asked
  a_replay : List ℕ → Asked
  a_kept_replay : List ℕ → Asked
  an_audit : List ℕ → Asked
  a_loop : List ℕ → Asked
  a_run_of : ℕ → Asked

-- a file's name is any word that isn't empty
abbrev pub is_file : List ℕ → Bool
is_file word = nat_lt 0 (length word)

-- a word is a number from the one to the other
abbrev pub is_between : ℕ → ℕ → List ℕ → Bool
is_between low high word = is_number word && (nat_le low (number_of word) && nat_le (number_of word) high)

-- the number that a word is, where it is one from the one to the other
abbrev pub number_between : ℕ → ℕ → List ℕ → Option ℕ
number_between low high word = if is_between low high word then Some (number_of word) else None

-- this is asked, where the words are right
abbrev pub asked_where : Bool → Asked → Option Asked
asked_where right asked = if right then Some asked else None

-- a run of so many calls, where it is one
abbrev pub run_within : Option ℕ → Option Asked
run_within None = None
run_within (Some calls) = Some (a_run_of calls)

-- what two words ask for: `plan WORLD`, with 1,000,000 tree lines a set, `replay SCHEDULE`, `replay-kept SCHEDULE`, `audit LOG`, `gen N` with at most 20,000 calls, or
-- `loop SCRIPT`
abbrev pub short_command : List ℕ → List ℕ → Option Asked
short_command word last =
    if bytes_eq word (codes "plan") then asked_where (is_file last) (a_plan last 1000000)
    else if bytes_eq word (codes "replay") then asked_where (is_file last) (a_replay last)
    else if bytes_eq word (codes "replay-kept") then asked_where (is_file last) (a_kept_replay last)
    else if bytes_eq word (codes "audit") then asked_where (is_file last) (an_audit last)
    else if bytes_eq word (codes "gen") then run_within (number_between 0 20000 last)
    else asked_where (bytes_eq word (codes "loop") && is_file last) (a_loop last)

-- a plan with this budget, where it is one
abbrev pub plan_within : List ℕ → Option ℕ → Option Asked
plan_within world None = None
plan_within world (Some budget) = Some (a_plan world budget)

-- what three words ask for: `plan WORLD BUDGET` with a budget of 1 to 1,000,000,000, or `check WORLD PLAN`
abbrev pub long_command : List ℕ → List ℕ → List ℕ → Option Asked
long_command word world last =
    if bytes_eq word (codes "plan") then (if is_file world then plan_within world (number_between 1 1000000000 last) else None)
    else asked_where (bytes_eq word (codes "check") && (is_file world && is_file last)) (a_check world last)

-- what the words ask for, or None where they are those of no command
abbrev pub command_of : List (List ℕ) → Option Asked
command_of [] = None
command_of (word ∷ []) = None
command_of (word ∷ last ∷ []) = short_command word last
command_of (word ∷ world ∷ last ∷ []) = long_command word world last
command_of (word ∷ world ∷ last ∷ next ∷ more) = None

-- what a command asks for
abbrev pub asked_by : Command → Asked
asked_by (command.Plan world budget) = a_plan world.now budget
asked_by (command.Audit log) = an_audit log.now
asked_by (command.Check world plan) = a_check world.now plan.now
asked_by (command.Replay schedule) = a_replay schedule.now
asked_by (command.ReplayKept schedule) = a_kept_replay schedule.now
asked_by (command.Gen calls) = a_run_of calls
asked_by (command.Loop script) = a_loop script.now

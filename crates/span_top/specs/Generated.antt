-- What `gen` does with a sink.
use Rattle.std.specs.Prelude.{ℕ, ◌+◌, ◌-◌, ◌⊎◌, ◌++◌, codes, List, Option}
use Rattle.std.specs.Fmt.{decimal}
use Rattle.span_base.specs.Taken.{Appends, AppendsFront}
use Rattle.run_marks.specs.Text.{messages_line}
use Rattle.run_generator.specs.declared.generated.Generated.{Generated}
use Rattle.run_generator.specs.Told.{IsGenerated}
use Rattle.span_top.specs.declared.status.Status.{Status}
use Rattle.span_top.specs.declared.status.Status.TheVariants.{Done, NoMemory, WriteFault}
use Rattle.span_top.specs.Planned.{TakesNothing}

-- how many calls have no end
abbrev pub waiting : ℕ → Generated → ℕ
waiting calls g = calls - (g.ok + g.ended)

-- the lines that tell how many calls there were, and how many wait
unfoldable pub calls_line : ℕ → List ℕ
calls_line calls = codes "calls " ++ decimal calls ++ codes "\n"

unfoldable pub waiting_line : ℕ → List ℕ
waiting_line calls = codes "waiting " ++ decimal calls ++ codes "\n"

-- the lines that tell how many ended, and how
abbrev pub ends_text : Generated → List ℕ
ends_text g = codes "ok " ++ decimal g.ok ++ codes "\nended " ++ decimal g.ended ++ codes "\n"

-- the lines that tell of a generated run of so many calls
abbrev pub generated_text : ℕ → Generated → List ℕ
generated_text calls g = calls_line calls ++ ends_text g ++ waiting_line (waiting calls g) ++ messages_line g.messages

-- this was taken of the text on the run of so many calls
abbrev pub IsGenTold : ℕ → (List ℕ → Type 0) → Type 0
IsGenTold calls Took = (g : Generated) × IsGenerated calls g × Took (generated_text calls g)

-- how `gen` ends, and what the sink took
abbrev pub GenEnds : ℕ → Option (List ℕ) → Option (List ℕ) → Status → Type 0
GenEnds calls old new Done = IsGenTold calls (Appends old new)
GenEnds calls old new NoMemory = TakesNothing old new ⊎ IsGenTold calls (AppendsFront old new)
GenEnds calls old new WriteFault = IsGenTold calls (AppendsFront old new)
GenEnds calls old new other = ⊥

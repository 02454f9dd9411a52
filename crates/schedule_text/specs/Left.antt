-- What is left of a text that is read line by line.
use Rattle.std.specs.Prelude.{ℕ, List, drop}
use Rattle.schedule_text.specs.declared.lines.Lines.{Lines}
use Rattle.schedule_text.specs.Words.{lines_of}

-- the lines that are left
abbrev pub lines_left : Lines → List (List ℕ)
lines_left lines = lines_of (drop lines.at lines.text.now)

-- Where the reading of a tree stops, and how it goes on.
use Rattle.std.proofs.Common.{◌≡◌, ℕ, List, ◌++◌, subst, inl, inr}
use Rattle.std.specs.Prelude.{Option}
use Rattle.span_base.specs.Files.{Files}
use Rattle.zero_one.specs.Contents.{Contents}
use Rattle.bound_cert.specs.declared.leaves.Line.{Line}
use Rattle.cert_checker.specs.Kept.{Kept, StandsFor}
use Rattle.shelf_lines.specs.Lines.{fed, Begins}
use Rattle.shelf_lines.proofs.Bytes.{Begins-front}
use Rattle.plan_text.specs.PlanText.{tree_text}
use Rattle.plan_check.specs.declared.fault.CheckFault.{CheckFault}
use Rattle.plan_check.specs.declared.lines.PlanLines.{PlanLines}
use Rattle.plan_check.specs.Reading.{HasRead, IsLineRead, Lacks, line_count}
use Rattle.plan_check.specs.Places.{StopsAmong, RefusesInTree}

-- the file begins with what was read, and a line read comes behind it
pub line_there : (files : Option Files) (name text : List ℕ) (reader : PlanLines) → IsLineRead files name text reader → Begins files name (text ++ fed reader.lines.line)
line_there files name text reader next = Begins-front files name (text ++ fed reader.lines.line) reader.lines.ahead next.read.given.front

-- the lines of a tree that were taken, and so many lines of the file before them
pub record IsIn (program : Contents) (front : List ℕ) (tree : List Line) (before : ℕ) (kept : Kept) : Type 0 where
  pub before_is : before ≡ line_count front
  pub stands : StandsFor program tree kept

pub stops_lacking : (files : Option Files) (name : List ℕ) (program : Contents) (front : List ℕ) (tree : List Line) (before : ℕ) (kept : Kept) (fault : CheckFault)
    → IsIn program front tree before kept → Lacks files name (front ++ tree_text tree) fault → StopsAmong program files name front tree fault
stops_lacking files name program front tree before kept fault here lacks = record {
  taken = here.stands.taken;
  met = inl lacks;
}

pub stops_refused : (files : Option Files) (name : List ℕ) (program : Contents) (front : List ℕ) (tree : List Line) (before : ℕ) (kept : Kept) (reader : PlanLines) (fault : CheckFault)
    → IsIn program front tree before kept → IsLineRead files name (front ++ tree_text tree) reader
    → RefusesInTree program before tree reader.lines.line fault → StopsAmong program files name front tree fault
stops_refused files name program front tree before kept reader fault here next refuses = record {
  taken = here.stands.taken;
  met = inr (
    reader.lines.line,
    next.line,
    line_there files name (front ++ tree_text tree) reader next,
    subst (λ (n : ℕ). RefusesInTree program n tree reader.lines.line fault) here.before_is refuses,
  );
}

-- a reader that has read one text has read an equal one
pub read_as : (files : Option Files) (name a b : List ℕ) (reader : PlanLines) → a ≡ b → HasRead files name a reader → HasRead files name b reader
read_as files name a b reader same read = subst (λ (t : List ℕ). HasRead files name t reader) same read

-- what the next line is, over the files that the shelf told at first
pub next_line : (files now : Option Files) (name text : List ℕ) (old new : PlanLines) → now ≡ files
    → ((t : List ℕ) → HasRead now name t old → IsLineRead now name t new) → HasRead files name text old → IsLineRead files name text new
next_line files now name text old new same reads =
    subst (λ (f : Option Files). HasRead f name text old → IsLineRead f name text new) same (reads text)

pub next_lacks : (files now : Option Files) (name text : List ℕ) (old : PlanLines) (fault : CheckFault) → now ≡ files
    → ((t : List ℕ) → HasRead now name t old → Lacks now name t fault) → HasRead files name text old → Lacks files name text fault
next_lacks files now name text old fault same reads =
    subst (λ (f : Option Files). HasRead f name text old → Lacks f name text fault) same (reads text)

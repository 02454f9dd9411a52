-- Which of several flaws of a line is told: the one that is tried first, and of two of one kind the left one.
use Rattle.std.specs.Prelude.{◌≡◌, ℕ, nat_le, nat_lt, if◌then◌else◌, List, [], ◌∷◌, ◌++◌, Option, Some, None, Result, Ok, Err}
use Rattle.span_base.specs.declared.words.Cause.TheVariants as cause
use Rattle.span_base.specs.declared.words.What.{What}
use Rattle.schedule_text.specs.declared.flaw.Flaw.{Flaw}
use Rattle.schedule_text.specs.declared.flaw.Flaw.TheVariants.{Syntax, Number, Limit, Range, Policy}
use Rattle.schedule_text.specs.declared.fault.ScheduleFault.{ScheduleFault}
use Rattle.schedule_text.specs.declared.fault.ScheduleFault.TheVariants as fault

-- in which turn a flaw is tried
abbrev pub turn_of : Flaw → ℕ
turn_of Syntax = 0
turn_of Number = 1
turn_of (Limit what number) = 2
turn_of Range = 3
turn_of Policy = 4

abbrev pub first_flaw : Flaw → Flaw → Flaw
first_flaw left right = if nat_lt (turn_of right) (turn_of left) then right else left

-- the fault of a line with this flaw
abbrev pub at_line : ℕ → Flaw → ScheduleFault
at_line line Syntax = fault.Bad line cause.Syntax
at_line line Number = fault.Bad line cause.Number
at_line line (Limit what number) = fault.Limit line what number
at_line line Range = fault.Bad line cause.Range
at_line line Policy = fault.Bad line cause.Policy

-- two parts of a line, from left to right: both, or the flaw that is told
abbrev pub both : {A B : Type 0} → Result A Flaw → Result B Flaw → Result (A × B) Flaw
both (Ok a) (Ok b) = Ok (a, b)
both (Ok a) (Err flaw) = Err flaw
both (Err flaw) (Ok b) = Err flaw
both (Err left) (Err right) = Err (first_flaw left right)

-- what a part makes, where it has no flaw
abbrev pub made : {A B : Type 0} → (A → B) → Result A Flaw → Result B Flaw
made f (Ok a) = Ok (f a)
made f (Err flaw) = Err flaw

-- what a part makes or is refused for, where it has no flaw itself
abbrev pub judged : {A B : Type 0} → Result A Flaw → (A → Result B Flaw) → Result B Flaw
judged (Ok a) f = f a
judged (Err flaw) f = Err flaw

-- a part of some form, where it has that form
abbrev pub formed : {A B : Type 0} → Option A → (A → Result B Flaw) → Result B Flaw
formed None f = Err Syntax
formed (Some a) f = f a

-- no more than so many
abbrev pub within : What → ℕ → ℕ → Result Unit Flaw
within what most number = if nat_le number most then Ok tt else Err (Limit what number)

-- what is tried first, and then the part itself
abbrev pub after : {A : Type 0} → Result Unit Flaw → Result A Flaw → Result A Flaw
after (Ok done) (Ok a) = Ok a
after (Ok done) (Err flaw) = Err flaw
after (Err flaw) (Ok a) = Err flaw
after (Err left) (Err right) = Err (first_flaw left right)

-- one part more
abbrev pub listed : {A : Type 0} → Result (List A) Flaw → Result A Flaw → Result (List A) Flaw
listed (Ok items) (Ok item) = Ok (items ++ item ∷ [])
listed (Ok items) (Err flaw) = Err flaw
listed (Err flaw) (Ok item) = Err flaw
listed (Err left) (Err right) = Err (first_flaw left right)

-- what a line was read to, but for want of memory
abbrev pub Gives : {A E : Type 0} → Result A Flaw → Result (Result A Flaw) E → Type 0
Gives says (Ok said) = said ≡ says
Gives says (Err error) = Unit {0}

-- The exit status of each ending.
use Rattle.std.specs.Prelude.{ℕ}
use Rattle.span_top.specs.declared.status.Status.{Status}
use Rattle.span_top.specs.declared.status.Status.TheVariants.{Done, NoMemory, Usage, Absent, BadInput, NoPolicy, Budget, Refused, BadEvent, ReadFault, WriteFault, LinkFault, TooLarge, Strange}

-- the number with which the program ends
abbrev pub code_of : Status → ℕ
code_of Done = 0
code_of NoMemory = 1
code_of Usage = 2
code_of (Absent file) = 3
code_of (BadInput file line cause) = 4
code_of (NoPolicy set) = 5
code_of (Budget set) = 6
code_of (Refused line cause) = 7
code_of (BadEvent line cause) = 8
code_of ReadFault = 9
code_of WriteFault = 10
code_of LinkFault = 11
code_of (TooLarge file line what number) = 12
code_of (Strange to frame) = 13

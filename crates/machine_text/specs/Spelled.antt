-- What the records of a machine file spell, each by itself: first the number of its fields is
-- looked at, then the fields from left to right.
use Rattle.std.specs.Prelude.{ℕ, ◌^◌, ◌==◌, ◌&&◌, nat_lt, nat_le, nat_eq, if◌then◌else◌, List, [], length, slice_index_or, codes, Result, Ok, Err}
use Rattle.std.specs.Cmp.Lexicographic.{pointwise}
use Rattle.span_base.specs.Number.{is_number, number_of}
use Rattle.span_base.specs.declared.words.What.{What}
use Rattle.span_base.specs.declared.words.What.TheVariants as what
use Rattle.machine_text.specs.declared.fault.Fault.{Fault}
use Rattle.machine_text.specs.declared.fault.Fault.TheVariants.{Bad, Limit}
use Rattle.machine_text.specs.declared.machines.Machine.{Machine}

-- a record: its fields, each a list of bytes
abbrev pub Record : Type 0
Record = List (List ℕ)

-- a step and what follows it, unless it is refused
infixl 10 ◌>>=◌
abbrev pub ◌>>=◌ : {A B F : Type 0} → Result A F → (A → Result B F) → Result B F
(Ok x) >>= f = f x
(Err e) >>= f = Err e

-- the field of a number
abbrev pub field : Record → ℕ → List ℕ
field r i = slice_index_or r i []

-- the text is this word
unfoldable pub told : List ℕ → List ℕ → Result (Unit {0}) Fault
told word text = if pointwise nat_eq text word then Ok tt else Err Bad

-- the text as a number from `least` to `most`: one below isn't of the form, one above passes the limit
unfoldable pub number_in : ℕ → ℕ → What → List ℕ → Result ℕ Fault
number_in least most what text =
    if is_number text && nat_le least (number_of text) then (if nat_lt most (number_of text) then Err (Limit what (number_of text)) else Ok (number_of text))
    else Err Bad

-- the record that begins a machine file
unfoldable pub opening_of : Record → Result (Unit {0}) Fault
opening_of r =
    if length r == 2 then (do
      _ ← told (codes "span-machines") (field r 0)
      told (codes "1") (field r 1))
    else Err Bad

-- the record of the unit
unfoldable pub unit_of : Record → Result ℕ Fault
unit_of r =
    if length r == 2 then (do
      _ ← told (codes "unit") (field r 0)
      number_in 1 (10 ^ 9) what.Unit (field r 1))
    else Err Bad

-- the record of the machines of the centre of this name
unfoldable pub machine_of : List ℕ → Record → Result Machine Fault
machine_of name r =
    if length r == 5 then (do
      _ ← told (codes "machine") (field r 0)
      _ ← told name (field r 1)
      price ← number_in 0 (10 ^ 9) what.Price (field r 2)
      capacity ← number_in 1 (10 ^ 6) what.Capacity (field r 3)
      digits ← number_in 1 10 what.Digits (field r 4)
      Ok (record { price = price; capacity = capacity; digits = digits }))
    else Err Bad

-- How a number is spelled in every format.
use Rattle.std.specs.Prelude.{◌≡◌, ℕ, ◌<◌, ◌≤◌, Bool, false, ◌&&◌, ◌==◌, nat_lt, if◌then◌else◌, List, [], ◌∷◌, length, Result, Ok, Err, IsTrue}
use Rattle.std.specs.List.{list_all}
use Rattle.std.specs.Char.{is_ascii_digit}
use Rattle.std.specs.Str.Parse.{digits_value}
use Rattle.span_base.specs.Grammar.{BreaksAt}
use Rattle.span_base.specs.declared.number.NumberFault.{NumberFault}
use Rattle.span_base.specs.declared.number.NumberFault.TheVariants.{Bad, Limit}

-- the text is 0, or 1 to 38 digits of which the first isn't 0
abbrev pub is_number : List ℕ → Bool
is_number [] = false
is_number (c ∷ cs) = if c == 48 then length cs == 0 else (is_ascii_digit c && (list_all is_ascii_digit cs && nat_lt (length cs) 38))

abbrev pub IsNumber : List ℕ → Type 0
IsNumber text = IsTrue (is_number text)

-- the number that the digits spell
abbrev pub number_of : List ℕ → ℕ
number_of text = digits_value 10 text

-- what reading a number of at most this limit gives
abbrev pub ReadsNumber : List ℕ → ℕ → Result ℕ NumberFault → Type 0
ReadsNumber text limit (Ok n) = IsNumber text × (n ≡ number_of text) × (n ≤ limit)
ReadsNumber text limit (Err (Limit n)) = IsNumber text × (n ≡ number_of text) × (limit < n)
ReadsNumber text limit (Err (Bad place)) = BreaksAt IsNumber text place

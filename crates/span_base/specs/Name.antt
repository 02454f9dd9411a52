-- How a name is spelled.
use Rattle.std.specs.Prelude.{ℕ, Bool, ◌&&◌, ◌||◌, ◌==◌, nat_lt, nat_le, List, length, Result, Ok, Err, IsTrue}
use Rattle.std.specs.List.{list_all}
use Rattle.std.specs.Char.{is_ascii_alphanumeric}
use Rattle.span_base.specs.Grammar.{BreaksAt}
use Rattle.span_base.specs.declared.name.BadName.{BadName}

-- the byte is an ASCII letter, a digit, '-', '_' or '.'
abbrev pub is_name_byte : ℕ → Bool
is_name_byte b = is_ascii_alphanumeric b || (b == 45 || (b == 95 || b == 46))

-- the text is a name: 1 to 32 such bytes
abbrev pub is_name : List ℕ → Bool
is_name text = list_all is_name_byte text && (nat_lt 0 (length text) && nat_le (length text) 32)

abbrev pub IsName : List ℕ → Type 0
IsName text = IsTrue (is_name text)

-- what reading a name gives
abbrev pub ReadsName : List ℕ → Result (Unit {0}) BadName → Type 0
ReadsName text (Ok _) = IsName text
ReadsName text (Err fault) = BreaksAt IsName text fault.at

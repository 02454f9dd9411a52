-- What the words of a line spell: numbers, and values.
use Rattle.std.specs.Prelude.{ℕ, ◌==◌, Bool, true, ◌&&◌, nat_lt, nat_le, if◌then◌else◌, List, [], ◌∷◌, length, codes, Option, Some, None, Result, Ok, Err}
use Rattle.std.specs.List.{list_all}
use Rattle.hex.specs.declared.error.FromHexError.{FromHexError}
use Rattle.hex.specs.Hex.{decode_of}
use Rattle.span_base.specs.DcSet.{no_centre, insert}
use Rattle.span_base.specs.declared.dc_set.DcSet.{DcSet}
use Rattle.span_base.specs.Number.{is_number, number_of}
use Rattle.span_base.specs.declared.ids.DcId.{DcId}
use Rattle.span_base.specs.declared.words.What.{What}
use Rattle.span_base.specs.declared.words.What.TheVariants as what
use Rattle.schedule_text.specs.declared.flaw.Flaw.{Flaw}
use Rattle.schedule_text.specs.declared.flaw.Flaw.TheVariants.{Syntax, Number, Limit, Range}
use Rattle.schedule_text.specs.Flaws.{both, made, judged}
use Rattle.schedule_text.specs.Words.{split_at, is_word}

-- the number that a text spells, if it spells one
unfoldable pub spelled : List ℕ → Option ℕ
spelled text = if is_number text then Some (number_of text) else None

-- a number of at most so much, by what its text spells
abbrev pub number_by : What → ℕ → List ℕ → Option ℕ → Result ℕ Flaw
number_by what most text None = if length text == 0 then Err Syntax else Err Number
number_by what most text (Some number) = if nat_le number most then Ok number else Err (Limit what number)

-- a number of at most so much
unfoldable pub number_says : What → ℕ → List ℕ → Result ℕ Flaw
number_says what most text = number_by what most text (spelled text)

-- a number of which nothing else is asked: it fits 32 bits
abbrev pub count_says : List ℕ → Result ℕ Flaw
count_says text = number_says what.Number 4294967295 text

-- a centre
unfoldable pub centre_says : List ℕ → Result DcId Flaw
centre_says text = made (λ n. record { 0 = n }) (number_says what.Centres 15 text)

-- one of so many, counted from 0
abbrev pub one_of : ℕ → ℕ → Result ℕ Flaw
one_of count number = if nat_lt number count then Ok number else Err Range

-- one of so many replicas
unfoldable pub replica_says : ℕ → List ℕ → Result DcId Flaw
replica_says replicas text = judged (centre_says text) (λ centre. if nat_lt centre.0 replicas then Ok centre else Err Range)

-- two neighbours in a list rise, where both are spelled right
abbrev pub rises : Option ℕ → Option ℕ → Bool
rises (Some number) (Some next) = nat_lt number next
rises _ _ = true

-- a replica behind its neighbour in a list
abbrev pub next_replica : ℕ → Option ℕ → List ℕ → Result DcId Flaw
next_replica replicas before text = if rises before (spelled text) then replica_says replicas text else Err Syntax

abbrev pub with_replica : Result DcSet Flaw → Result DcId Flaw → Result DcSet Flaw
with_replica set replica = made (λ it. insert it.0 it.1.0) (both set replica)

-- the set with these replicas too, the first of which follows its neighbour
unfoldable pub replicas_from : ℕ → Option ℕ → Result DcSet Flaw → List (List ℕ) → Result DcSet Flaw
replicas_from replicas before set [] = set
replicas_from replicas before set (text ∷ texts) = replicas_from replicas (spelled text) (with_replica set (next_replica replicas before text)) texts

-- strictly rising replicas joined by commas
unfoldable pub replicas_say : ℕ → List ℕ → Result DcSet Flaw
replicas_say replicas text = replicas_from replicas None (Ok no_centre) (split_at 44 text)

-- a hexadecimal digit, in lower case
abbrev pub is_lower_digit : ℕ → Bool
is_lower_digit c = if nat_le c 57 then nat_le 48 c else (nat_le 97 c && nat_le c 102)

-- the value, where there is one
abbrev pub decoded : Result (List ℕ) FromHexError → Result (List ℕ) Flaw
decoded (Ok bytes) = Ok bytes
decoded (Err fault) = Err Syntax

-- a value: a hyphen for the empty one, else 2 to 8,192 hexadecimal digits, two for each byte
unfoldable pub value_says : List ℕ → Result (List ℕ) Flaw
value_says text =
    if is_word text (codes "-") then Ok []
    else if nat_le 2 (length text) && (nat_le (length text) 8192 && list_all is_lower_digit text) then decoded (decode_of text)
    else Err Syntax

-- What the words of a log's line spell: a text that spells nothing, or a number above its limit, is None.
use Rattle.std.specs.Prelude.{◌≡◌, ℕ, ◌==◌, Bool, ◌&&◌, nat_le, nat_eq, if◌then◌else◌, List, [], ◌∷◌, length, codes, Option, Some, None, option_map, Result, Ok, Err}
use Rattle.std.specs.List.{list_all}
use Rattle.std.specs.Cmp.Lexicographic.{pointwise}
use Rattle.hex.specs.declared.error.FromHexError.{FromHexError}
use Rattle.hex.specs.Hex.{decode_of}
use Rattle.span_base.specs.declared.ids.Call.{Call}
use Rattle.span_base.specs.Number.{is_number, number_of}
use Rattle.ticket_rules.specs.declared.stamp.Stamp.{Stamp}
use Rattle.history_audit.specs.declared.words.LineFault.{LineFault}
use Rattle.history_audit.specs.declared.words.LineFault.TheVariants.{Bad, NoMemory}

-- a step and what follows it, unless it gave nothing
infixl 10 ◌>>=◌
abbrev pub ◌>>=◌ : {A B : Type 0} → Option A → (A → Option B) → Option B
None >>= f = None
(Some x) >>= f = f x

-- what a text says was given, but for want of memory
abbrev pub Gives : {X : Type 0} → Option X → Result X LineFault → Type 0
Gives says (Ok x) = says ≡ Some x
Gives says (Err Bad) = says ≡ None
Gives says (Err (NoMemory error)) = Unit {0}

-- what stands before the first such byte, and what after it
unfoldable pub cut : ℕ → List ℕ → Option (List ℕ × List ℕ)
cut byte [] = None
cut byte (c ∷ cs) = if c == byte then Some ([], cs) else option_map (λ parts. (c ∷ parts.0, parts.1)) (cut byte cs)

-- the text is this word
abbrev pub is_word : List ℕ → List ℕ → Bool
is_word text word = pointwise nat_eq text word

-- a number of at most so much
unfoldable pub number_up_to : ℕ → List ℕ → Option ℕ
number_up_to most text = if is_number text && nat_le (number_of text) most then Some (number_of text) else None

-- a number of a proxy, one of 64
unfoldable pub proxy_says : List ℕ → Option ℕ
proxy_says text = number_up_to 63 text

-- a count, a number of a call or of an epoch
unfoldable pub count_says : List ℕ → Option ℕ
count_says text = number_up_to 4294967295 text

-- a call: P.SEQ
unfoldable pub call_says : List ℕ → Option Call
call_says text = do
  parts ← cut 46 text
  proxy ← proxy_says parts.0
  seq ← count_says parts.1
  Some (record { proxy = proxy; seq = seq })

-- a stamp: EPOCH.NUMBER.PROXY.SEQ
unfoldable pub stamp_says : List ℕ → Option Stamp
stamp_says text = do
  one ← cut 46 text
  two ← cut 46 one.1
  epoch ← count_says one.0
  number ← number_up_to 18446744073709551615 two.0
  call ← call_says two.1
  Some (record { epoch = epoch; number = number; proxy = call.proxy; seq = call.seq })

-- a hexadecimal digit, in lower case
abbrev pub is_lower_digit : ℕ → Bool
is_lower_digit c = if nat_le c 57 then nat_le 48 c else (nat_le 97 c && nat_le c 102)

-- the value, where there is one
abbrev pub decoded : Result (List ℕ) FromHexError → Option (List ℕ)
decoded (Ok bytes) = Some bytes
decoded (Err fault) = None

-- a value: a hyphen for the empty one, else 2 to 8,192 hexadecimal digits, two for each byte
unfoldable pub value_says : List ℕ → Option (List ℕ)
value_says text =
    if is_word text (codes "-") then Some []
    else if nat_le 2 (length text) && (nat_le (length text) 8192 && list_all is_lower_digit text) then decoded (decode_of text)
    else None

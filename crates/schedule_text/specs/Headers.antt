-- What the lines of a header say.
use Rattle.std.specs.Prelude.{◌≡◌, ℕ, ◌+◌, ◌==◌, ◌≤◌, Bool, true, false, ◌&&◌, not, if◌then◌else◌, List, [], ◌∷◌, ◌++◌, length, codes, Result, Ok, Err}
use Rattle.span_base.specs.declared.words.What.TheVariants as what
use Rattle.span_base.specs.declared.policy.Policy.{Policy}
use Rattle.wire_msg.specs.Sound.{is_sound_policy}
use Rattle.world_core.specs.declared.event.Header.{Header}
use Rattle.schedule_text.specs.declared.flaw.Flaw.{Flaw}
use Rattle.schedule_text.specs.declared.flaw.Flaw.TheVariants.{Syntax, Number}
use Rattle.schedule_text.specs.declared.flaw.Flaw.TheVariants as flaw
use Rattle.schedule_text.specs.declared.fault.ScheduleFault.{ScheduleFault}
use Rattle.schedule_text.specs.declared.fault.ScheduleFault.TheVariants as fault
use Rattle.schedule_text.specs.Flaws.{at_line, made, judged, formed, within, after}
use Rattle.schedule_text.specs.Words.{words_of, is_word, one}
use Rattle.schedule_text.specs.Numbers.{number_says, count_says, one_of, centre_says}
use Rattle.schedule_text.specs.Policies.{policy_says}

-- no line but the first was read
abbrev pub blank : Header
blank = record { replicas = 0; sets = []; keys = []; proxies = [] }

abbrev pub is_none : {A : Type 0} → List A → Bool
is_none items = length items == 0

-- what may come next, by what was read
abbrev pub takes_replicas : Header → Bool
takes_replicas header = header.replicas == 0

abbrev pub takes_sets : Header → Bool
takes_sets header = not (header.replicas == 0) && is_none header.keys

abbrev pub takes_keys : Header → Bool
takes_keys header = not (is_none header.sets) && is_none header.proxies

abbrev pub takes_proxies : Header → Bool
takes_proxies header = not (is_none header.keys)

abbrev pub may_begin : Header → Bool
may_begin header = not (is_none header.proxies)

abbrev pub not_none : ℕ → Result ℕ Flaw
not_none number = if number == 0 then Err Number else Ok number

abbrev pub sound : Policy → Result Policy Flaw
sound policy = if is_sound_policy policy then Ok policy else Err flaw.Policy

unfoldable pub replicas_line : Header → List (List ℕ) → Result Header Flaw
replicas_line header words =
    formed (one words) (λ text. made (λ n. record header { replicas = n }) (judged (number_says what.Replicas 16 text) not_none))

unfoldable pub set_line : Header → List (List ℕ) → Result Header Flaw
set_line header words =
    made (λ policy. record header { sets = header.sets ++ policy ∷ [] })
    (judged (after (within what.Sets 64 (length header.sets + 1)) (policy_says header.replicas words)) sound)

unfoldable pub key_line : Header → List (List ℕ) → Result Header Flaw
key_line header words =
    formed (one words) (λ text. made (λ set. record header { keys = header.keys ++ record { 0 = set } ∷ [] })
    (after (within what.Keys 1000 (length header.keys + 1)) (judged (count_says text) (one_of (length header.sets)))))

unfoldable pub proxy_line : Header → List (List ℕ) → Result Header Flaw
proxy_line header words =
    formed (one words) (λ text. made (λ at. record header { proxies = header.proxies ++ at ∷ [] })
    (after (within what.Proxies 64 (length header.proxies + 1)) (centre_says text)))

-- the line of this word, where it may come next
unfoldable pub line_by : Header → List ℕ → List (List ℕ) → Result Header Flaw
line_by header word words =
    if is_word word (codes "replicas") && takes_replicas header then replicas_line header words
    else if is_word word (codes "set") && takes_sets header then set_line header words
    else if is_word word (codes "key") && takes_keys header then key_line header words
    else if is_word word (codes "proxy") && takes_proxies header then proxy_line header words
    else Err Syntax

abbrev pub by_words : Header → List (List ℕ) → Result Header Flaw
by_words header [] = Err Syntax
by_words header (word ∷ words) = line_by header word words

-- the header with what a line says
unfoldable pub header_line : Header → List ℕ → Result Header Flaw
header_line header text = by_words header (words_of text)

-- a header, and the lines behind it
pub record Opened : Type 0 where
  pub header : Header
  pub lines : List (List ℕ)

abbrev pub is_begin : Header → List ℕ → Bool
is_begin header text = is_word text (codes "begin") && may_begin header

-- what follows a line, where the line has no flaw
abbrev pub go_on : ℕ → Result Header Flaw → (Header → Result Opened ScheduleFault) → Result Opened ScheduleFault
go_on line (Ok next) more = more next
go_on line (Err flaw) more = Err (at_line line flaw)

-- the header with what the lines up to `begin` say, the first of which is this line of the text
unfoldable pub header_from : ℕ → Header → List (List ℕ) → Result Opened ScheduleFault
header_from line header [] = Err (at_line line Syntax)
header_from line header (text ∷ texts) =
    if is_begin header text then Ok (record { header = header; lines = texts })
    else go_on line (header_line header text) (λ next. header_from (line + 1) next texts)

-- the header that the first lines of a schedule say
unfoldable pub header_says : List (List ℕ) → Result Opened ScheduleFault
header_says [] = Err (at_line 1 Syntax)
header_says (text ∷ texts) = if is_word text (codes "span-schedule 1") then header_from 2 blank texts else Err (at_line 1 Syntax)

-- no part of a header passes its limit
pub record IsSmall (header : Header) : Type 0 where
  pub sets : length header.sets ≤ 64
  pub keys : length header.keys ≤ 1000
  pub proxies : length header.proxies ≤ 64

-- a line was taken: the header is what it says now
abbrev pub Grows : Header → Result Header Flaw → Result Unit Flaw → Type 0
Grows header says (Ok done) = says ≡ Ok header
Grows header says (Err flaw) = says ≡ Err flaw

-- what a line at the start of a text says, and what is left behind it
abbrev pub Starts : List (List ℕ) → List (List ℕ) → Bool → Type 0
Starts lines left true = lines ≡ codes "span-schedule 1" ∷ left
Starts lines left false = header_says lines ≡ Err (at_line 1 Syntax)

-- what was read of a header, with these lines left, is what its lines say
abbrev pub ReadsHeader : List (List ℕ) → Result Opened ScheduleFault → Result Header ScheduleFault → Type 0
ReadsHeader left says (Ok header) = says ≡ Ok (record { header = header; lines = left })
ReadsHeader left says (Err (fault.NoMemory error)) = Unit {0}
ReadsHeader left says (Err told) = says ≡ Err told

-- the number of the line `begin`: a line for the version, one for the replicas, and one for each set, key and proxy come before it
abbrev pub begin_line : Header → ℕ
begin_line header = 3 + (length header.sets + (length header.keys + length header.proxies))

-- What the fields of a record spell, or why they are refused.
use Rattle.std.specs.Prelude.{ℕ, ◌^◌, ◌==◌, Bool, nat_lt, nat_eq, if◌then◌else◌, List, [], ◌∷◌, codes, Result, Ok, Err}
use Rattle.std.specs.Cmp.Lexicographic.{pointwise}
use Rattle.span_base.specs.Name.{is_name}
use Rattle.span_base.specs.Number.{is_number, number_of}
use Rattle.span_base.specs.declared.words.What.{What}
use Rattle.span_base.specs.declared.words.What.TheVariants as what
use Rattle.span_base.specs.declared.words.Cause.TheVariants as cause
use Rattle.price_tables.specs.declared.prices.DcPrice.{DcPrice}
use Rattle.price_tables.specs.declared.prices.Fare.{Fare}
use Rattle.workload.specs.declared.rules.Mode.{Mode}
use Rattle.workload.specs.declared.rules.Mode.TheVariants as mode
use Rattle.workload.specs.declared.rules.SetRule.{SetRule}
use Rattle.world_text.specs.declared.fault.Fault.{Fault}
use Rattle.world_text.specs.declared.fault.Fault.TheVariants.{Bad, Limit}
use Rattle.world_text.specs.declared.kinds.Kind.{Kind}
use Rattle.world_text.specs.declared.kinds.Kind.TheVariants as kind
use Rattle.world_text.specs.declared.kinds.Version.{Version}
use Rattle.world_text.specs.declared.kinds.Version.TheVariants as version
use Rattle.world_text.specs.Records.{Record}
use Rattle.world_text.specs.Steps.{◌>>=◌}

-- the text is this word
abbrev pub is_word : List ℕ → List ℕ → Bool
is_word text word = pointwise nat_eq text word

-- the text as a name
unfoldable pub name_of : List ℕ → Result (List ℕ) Fault
name_of text = if is_name text then Ok text else Err (Bad cause.Name)

-- the text as a number of at most so much
unfoldable pub number_up_to : ℕ → What → List ℕ → Result ℕ Fault
number_up_to most what text =
    if is_number text then (if nat_lt most (number_of text) then Err (Limit what (number_of text)) else Ok (number_of text))
    else Err (Bad cause.Number)

-- the text as a number of providers, at least 1
unfoldable pub providers_of : List ℕ → Result ℕ Fault
providers_of text = do
  n ← number_up_to 16 what.Providers text
  if n == 0 then Err (Bad cause.Number) else Ok n

-- the text as a mode
unfoldable pub mode_of : List ℕ → Result Mode Fault
mode_of text =
    if is_word text (codes "direct") then Ok mode.Direct
    else if is_word text (codes "relay") then Ok mode.Relay
    else if is_word text (codes "strong") then Ok mode.Strong
    else Err (Bad cause.Mode)

-- the text as a kind of record
unfoldable pub kind_of : List ℕ → Result Kind Fault
kind_of text =
    if is_word text (codes "dc") then Ok kind.Centre
    else if is_word text (codes "link") then Ok kind.Link
    else if is_word text (codes "set") then Ok kind.Set
    else if is_word text (codes "use") then Ok kind.Use
    else Err (Bad cause.Kind)

-- the first record: `span` and the version
unfoldable pub version_of : Record → Result Version Fault
version_of (word ∷ number ∷ []) =
    if is_word word (codes "span") then (
    if is_word number (codes "1") then Ok version.One
    else if is_word number (codes "2") then Ok version.Two
    else Err (Bad cause.Version))
    else Err (Bad cause.Version)
version_of _ = Err (Bad cause.Version)

-- the prices of a centre
unfoldable pub price_of : (store get put : List ℕ) → Result DcPrice Fault
price_of store get put = do
  s ← number_up_to (10 ^ 9) what.Price store
  g ← number_up_to (10 ^ 9) what.Price get
  p ← number_up_to (10 ^ 9) what.Price put
  Ok (record { store = s; get = g; put = p })

-- the fare of a link
unfoldable pub fare_of : (transfer latency : List ℕ) → Result Fare Fault
fare_of transfer latency = do
  t ← number_up_to (10 ^ 9) what.Price transfer
  l ← number_up_to (10 ^ 6) what.Latency latency
  Ok (record { transfer = t; latency = l })

-- the rule of a set
unfoldable pub rule_of : (mode f read write stored object providers : List ℕ) → Result SetRule Fault
rule_of mode f read write stored object providers = do
  m ← mode_of mode
  n ← number_up_to 3 what.F f
  r ← number_up_to (10 ^ 6) what.Latency read
  w ← number_up_to (10 ^ 6) what.Latency write
  s ← number_up_to (10 ^ 12) what.Stored stored
  o ← number_up_to (10 ^ 5) what.Object object
  p ← providers_of providers
  Ok (record { mode = m; f = n; read_slo = r; write_slo = w; stored = s; object = o; providers = p })

-- how much a member asks for: gets and puts
unfoldable pub counts_of : (gets puts : List ℕ) → Result (ℕ × ℕ) Fault
counts_of gets puts = do
  g ← number_up_to (10 ^ 9) what.Count gets
  p ← number_up_to (10 ^ 9) what.Count puts
  Ok (g, p)

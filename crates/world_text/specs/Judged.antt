-- What each record of a world adds to what was read before it, or why it is refused.
use Rattle.std.specs.Prelude.{ℕ, List, [], ◌∷◌, ◌++◌, codes, Option, Some, None, Result, Ok, Err}
use Rattle.span_base.specs.declared.words.Cause.TheVariants as cause
use Rattle.price_tables.specs.Tables.{nothing_tabled, number_of}
use Rattle.world_text.specs.declared.fault.Fault.{Fault}
use Rattle.world_text.specs.declared.fault.Fault.TheVariants.{Bad}
use Rattle.world_text.specs.declared.kinds.Kind.{Kind}
use Rattle.world_text.specs.declared.kinds.Kind.TheVariants as kind
use Rattle.world_text.specs.declared.kinds.Version.{Version}
use Rattle.world_text.specs.declared.kinds.Version.TheVariants as version
use Rattle.world_text.specs.declared.draft.Draft.{Draft}
use Rattle.world_text.specs.Records.{Record}
use Rattle.world_text.specs.Steps.{◌>>=◌}
use Rattle.world_text.specs.Spelled.{name_of, kind_of, version_of, price_of, fare_of, rule_of, counts_of}
use Rattle.world_text.specs.Added.{known, centre_added, link_added, set_added, member_added}

-- no record was read
abbrev pub nothing_read : Draft
nothing_read = record { version = None; tables = nothing_tabled; load = [] }

-- what is made of a record of four fields, of five, and of eight
abbrev pub of_four : {X : Type 0} → (List ℕ → List ℕ → List ℕ → List ℕ → Result X Fault) → Record → Result X Fault
of_four make (a ∷ b ∷ c ∷ d ∷ []) = make a b c d
of_four make _ = Err (Bad cause.Fields)

abbrev pub of_five : {X : Type 0} → (List ℕ → List ℕ → List ℕ → List ℕ → List ℕ → Result X Fault) → Record → Result X Fault
of_five make (a ∷ b ∷ c ∷ d ∷ e ∷ []) = make a b c d e
of_five make _ = Err (Bad cause.Fields)

abbrev pub of_eight : {X : Type 0} → (List ℕ → List ℕ → List ℕ → List ℕ → List ℕ → List ℕ → List ℕ → List ℕ → Result X Fault) → Record → Result X Fault
of_eight make (a ∷ b ∷ c ∷ d ∷ e ∷ f ∷ g ∷ h ∷ []) = make a b c d e f g h
of_eight make _ = Err (Bad cause.Fields)

-- a set of version 1 asks for one provider
abbrev pub with_providers : Version → Record → Record
with_providers version.One fields = fields ++ codes "1" ∷ []
with_providers version.Two fields = fields

-- the fields of a centre after its kind
unfoldable pub dc_judged : Draft → Record → Result Draft Fault
dc_judged d = of_five (λ name provider store get put. do
  n ← name_of name
  p ← name_of provider
  price ← price_of store get put
  tables ← centre_added d.tables (record { name = n; provider = p; price = price })
  Ok (record d { tables = tables }))

-- those of a link
unfoldable pub link_judged : Draft → Record → Result Draft Fault
link_judged d = of_four (λ from to transfer latency. do
  a ← name_of from
  b ← name_of to
  fare ← fare_of transfer latency
  tables ← link_added d.tables a b fare
  Ok (record d { tables = tables }))

-- those of a set
unfoldable pub set_judged : Version → Draft → Record → Result Draft Fault
set_judged version d fields = of_eight (λ name mode f read write stored object providers. do
  n ← name_of name
  rule ← rule_of mode f read write stored object providers
  sets ← set_added d.load n rule
  Ok (record d { load = sets })) (with_providers version fields)

-- those of a member of a set
unfoldable pub use_judged : Draft → Record → Result Draft Fault
use_judged d = of_four (λ set centre gets puts. do
  s ← name_of set
  c ← name_of centre
  counts ← counts_of gets puts
  dc ← known (number_of d.tables c)
  sets ← member_added d.load s (record { dc = record { 0 = dc }; gets = counts.0; puts = counts.1 })
  Ok (record d { load = sets }))

-- a record of a kind
abbrev pub kind_judged : Version → Draft → Kind → Record → Result Draft Fault
kind_judged version d kind.Centre fields = dc_judged d fields
kind_judged version d kind.Link fields = link_judged d fields
kind_judged version d kind.Set fields = set_judged version d fields
kind_judged version d kind.Use fields = use_judged d fields

-- a record after the first
abbrev pub later_judged : Version → Draft → Record → Result Draft Fault
later_judged version d [] = Err (Bad cause.Kind)
later_judged version d (word ∷ fields) = kind_of word >>= λ k. kind_judged version d k fields

-- the first record
abbrev pub first_judged : Draft → Record → Result Draft Fault
first_judged d fields = version_of fields >>= λ v. Ok (record d { version = Some v })

-- any record
abbrev pub judged_in : Option Version → Draft → Record → Result Draft Fault
judged_in None d fields = first_judged d fields
judged_in (Some version) d fields = later_judged version d fields

unfoldable pub judged : Draft → Record → Result Draft Fault
judged d fields = judged_in d.version d fields

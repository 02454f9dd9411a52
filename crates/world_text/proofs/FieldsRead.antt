-- What the fields of a printed record spell.
use Rattle.std.proofs.Common.{◌≡◌, ℕ, ◌<◌, ◌≤◌, ◌^◌, ◌==◌, false, List, [], ◌∷◌, Ok, arith, refl, sym, ap, ◌∙◌}
use Rattle.std.specs.Prelude.{codes}
use Rattle.std.specs.Fmt.{decimal}
use Rattle.std.proofs.lemmas.Bool.{le-ltb, ne_eqb}
use Rattle.span_base.specs.Name.{IsName}
use Rattle.span_base.specs.declared.words.What.{What}
use Rattle.span_base.specs.declared.words.What.TheVariants as what
use Rattle.span_base.proofs.Spelling.{decimal_reads}
use Rattle.price_tables.specs.declared.prices.DcPrice.{DcPrice}
use Rattle.price_tables.specs.declared.prices.Fare.{Fare}
use Rattle.price_tables.specs.Limits.{IsPriceWithin, IsFareWithin}
use Rattle.workload.specs.declared.rules.Mode.{Mode}
use Rattle.workload.specs.declared.rules.Mode.TheVariants as mode
use Rattle.workload.specs.declared.rules.SetRule.{SetRule}
use Rattle.workload.specs.declared.rules.Demand.{Demand}
use Rattle.workload.specs.Limits.{IsRuleWithin, AreCountsWithin}
use Rattle.world_text.specs.declared.kinds.Kind.TheVariants as kind
use Rattle.world_text.specs.declared.kinds.Version.{Version}
use Rattle.world_text.specs.declared.kinds.Version.TheVariants as version
use Rattle.workload.specs.Modes.{word_of}
use Rattle.world_text.specs.Records.{version_record, providers_field}
use Rattle.world_text.specs.Spelled.{name_of, number_up_to, providers_of, mode_of, kind_of, version_of, price_of, fare_of, rule_of, counts_of}
use Rattle.world_text.specs.Judged.{with_providers}

pub name_read : (name : List ℕ) → IsName name → name_of name ≡ Ok name
unfolding name_of
name_read name h = rw h refl

pub number_read : (most : ℕ) (w : What) (n : ℕ) → n ≤ most → most < 10 ^ 38 → number_up_to most w (decimal n) ≡ Ok n
unfolding number_up_to
number_read most w n within low =
    let d = decimal_reads n (omega arith) in
    rw (d.0, d.1, le-ltb most n within) refl

pub price_read : (p : DcPrice) → IsPriceWithin p → price_of (decimal p.store) (decimal p.get) (decimal p.put) ≡ Ok p
unfolding price_of
price_read p h =
    rw (number_read (10 ^ 9) what.Price p.store h.store (omega arith), number_read (10 ^ 9) what.Price p.get h.get (omega arith), number_read (10 ^ 9) what.Price p.put h.put (omega arith)) refl

pub fare_read : (f : Fare) → IsFareWithin f → fare_of (decimal f.transfer) (decimal f.latency) ≡ Ok f
unfolding fare_of
fare_read f h =
    rw (number_read (10 ^ 9) what.Price f.transfer h.transfer (omega arith), number_read (10 ^ 6) what.Latency f.latency h.latency (omega arith)) refl

pub counts_read : (m : Demand) → AreCountsWithin m → counts_of (decimal m.gets) (decimal m.puts) ≡ Ok (m.gets, m.puts)
unfolding counts_of
counts_read m h =
    rw (number_read (10 ^ 9) what.Count m.gets h.gets (omega arith), number_read (10 ^ 9) what.Count m.puts h.puts (omega arith)) refl

mode_read : (m : Mode) → mode_of (word_of m) ≡ Ok m
unfolding mode_of
mode_read mode.Direct = refl
mode_read mode.Relay = refl
mode_read mode.Strong = refl

providers_read : (n : ℕ) → 1 ≤ n → n ≤ 16 → providers_of (decimal n) ≡ Ok n
unfolding providers_of
providers_read n some few =
    let zero_not : (n == 0) ≡ false = ne_eqb n 0 (λ e. absurd (omega arith)) in
    rw (number_read 16 what.Providers n few (omega arith), zero_not) refl

one_read : providers_of (codes "1") ≡ Ok 1
unfolding providers_of number_up_to
one_read = refl

-- the rule of a set whose field of providers says how many the set asks for
rule_by : (r : SetRule) (field : List ℕ) → IsRuleWithin r → providers_of field ≡ Ok r.providers
    → rule_of (word_of r.mode) (decimal r.f) (decimal r.read_slo) (decimal r.write_slo) (decimal r.stored) (decimal r.object) field ≡ Ok r
unfolding rule_of
rule_by r field h last =
    rw (
      mode_read r.mode,
      number_read 3 what.F r.f h.f (omega arith),
      number_read (10 ^ 6) what.Latency r.read_slo h.read_slo (omega arith),
      number_read (10 ^ 6) what.Latency r.write_slo h.write_slo (omega arith),
      number_read (10 ^ 12) what.Stored r.stored h.stored (omega arith),
      number_read (10 ^ 5) what.Object r.object h.object (omega arith),
      last,
    ) refl

-- the field that says how many providers a set asks for: in version 1 the one that is added
abbrev pub providers_text : Version → ℕ → List ℕ
providers_text version.One n = codes "1"
providers_text version.Two n = decimal n

pub set_fields_are : (v : Version) (a b c d e f g : List ℕ) (n : ℕ)
    → with_providers v (a ∷ b ∷ c ∷ d ∷ e ∷ f ∷ g ∷ providers_field v n) ≡ a ∷ b ∷ c ∷ d ∷ e ∷ f ∷ g ∷ providers_text v n ∷ []
set_fields_are version.One a b c d e f g n = refl
set_fields_are version.Two a b c d e f g n = refl

-- a version that tells how many providers a rule asks for
abbrev pub TellsProviders : Version → ℕ → Type 0
TellsProviders version.One n = n ≡ 1
TellsProviders version.Two n = Unit {0}

pub rule_read : (v : Version) (r : SetRule) → IsRuleWithin r → TellsProviders v r.providers
    → rule_of (word_of r.mode) (decimal r.f) (decimal r.read_slo) (decimal r.write_slo) (decimal r.stored) (decimal r.object) (providers_text v r.providers) ≡ Ok r
rule_read version.One r h one = rule_by r (codes "1") h (one_read ∙ ap Ok (sym one))
rule_read version.Two r h one = rule_by r (decimal r.providers) h (providers_read r.providers h.some_provider h.providers)

pub version_read : (v : Version) → version_of (version_record v) ≡ Ok v
unfolding version_of
version_read version.One = refl
version_read version.Two = refl

pub kind_dc : kind_of (codes "dc") ≡ Ok kind.Centre
unfolding kind_of
kind_dc = refl

pub kind_link : kind_of (codes "link") ≡ Ok kind.Link
unfolding kind_of
kind_link = refl

pub kind_set : kind_of (codes "set") ≡ Ok kind.Set
unfolding kind_of
kind_set = refl

pub kind_use : kind_of (codes "use") ≡ Ok kind.Use
unfolding kind_of
kind_use = refl

-- What the fields of a record spell is spelled as a name, or within its limits.
use Rattle.std.proofs.Common.{◌≡◌, ℕ, zero, suc, ◌≤◌, ◌^◌, Bool, true, false, List, Result, Ok, Err, refl, sym, subst, arith}
use Rattle.std.specs.Prelude.{nat_lt, if◌then◌else◌, ◌==◌}
use Rattle.std.proofs.lemmas.Bool.{ltb-false}
use Rattle.span_base.specs.Name.{is_name, IsName}
use Rattle.span_base.specs.Number.{is_number, number_of}
use Rattle.span_base.specs.declared.words.What.{What}
use Rattle.span_base.specs.declared.words.What.TheVariants as what
use Rattle.span_base.specs.declared.words.Cause.TheVariants as cause
use Rattle.price_tables.specs.declared.prices.DcPrice.{DcPrice}
use Rattle.price_tables.specs.declared.prices.Fare.{Fare}
use Rattle.price_tables.specs.Limits.{IsPriceWithin, IsFareWithin}
use Rattle.workload.specs.declared.rules.Mode.{Mode}
use Rattle.workload.specs.declared.rules.SetRule.{SetRule}
use Rattle.workload.specs.Limits.{IsRuleWithin}
use Rattle.world_text.specs.declared.fault.Fault.{Fault}
use Rattle.world_text.specs.declared.fault.Fault.TheVariants.{Bad, Limit}
use Rattle.world_text.specs.Steps.{◌>>=◌}
use Rattle.world_text.specs.Spelled.{name_of, number_up_to, providers_of, price_of, fare_of, mode_of, rule_of, counts_of}

pub name_within : (text n : List ℕ) → name_of text ≡ Ok n → IsName n
unfolding name_of
name_within text n h = by (is_name text) refl h
  where
    by : (b : Bool) → is_name text ≡ b → (if b then Ok text else Err (Bad cause.Name)) ≡ Ok n → IsName n
    by true is e = let same : text ≡ n = cc in subst IsName same is
    by false is e = absurd (cc e)

number_within : (most : ℕ) (w : What) (text : List ℕ) (n : ℕ) → number_up_to most w text ≡ Ok n → n ≤ most
unfolding number_up_to
number_within most w text n h = by (is_number text) h
  where
    within : (b : Bool) → nat_lt most (number_of text) ≡ b → (if b then Err (Limit w (number_of text)) else Ok (number_of text)) ≡ Ok n → n ≤ most
    within true is e = absurd (cc e)
    within false is e = let same : number_of text ≡ n = cc in omega (arith, same, ltb-false most (number_of text) is)

    by : (b : Bool) → (if b then (if nat_lt most (number_of text) then Err (Limit w (number_of text)) else Ok (number_of text)) else Err (Bad cause.Number)) ≡ Ok n → n ≤ most
    by true e = within (nat_lt most (number_of text)) refl e
    by false e = absurd (cc e)

-- what a number is known to be at most
abbrev IsUpTo : ℕ → Result ℕ Fault → Type 0
IsUpTo most r = (n : ℕ) → r ≡ Ok n → n ≤ most

positive : (m : ℕ) → (m == 0) ≡ false → 1 ≤ m
positive zero is = absurd (cc is)
positive (suc m) is = omega arith

providers_within : (text : List ℕ) (n : ℕ) → providers_of text ≡ Ok n → (1 ≤ n) × (n ≤ 16)
unfolding providers_of
providers_within text n h = by (number_up_to 16 what.Providers text) (number_within 16 what.Providers text) h
  where
    some : (m : ℕ) (b : Bool) → (m == 0) ≡ b → m ≤ 16 → (if b then Err (Bad cause.Number) else Ok m) ≡ Ok n → (1 ≤ n) × (n ≤ 16)
    some m true is most e = absurd (cc e)
    some m false is most e =
        let same : m ≡ n = cc in
        (omega (arith, same, positive m is), omega (arith, same, most))

    by : (r : Result ℕ Fault) → IsUpTo 16 r → (r >>= λ m. if m == 0 then Err (Bad cause.Number) else Ok m) ≡ Ok n → (1 ≤ n) × (n ≤ 16)
    by (Ok m) most e = some m (m == 0) refl (most m refl) e
    by (Err f) most e = absurd (cc e)

pub price_within : (store get put : List ℕ) (price : DcPrice) → price_of store get put ≡ Ok price → IsPriceWithin price
unfolding price_of
price_within store get put price h =
    by (number_up_to (10 ^ 9) what.Price store) (number_up_to (10 ^ 9) what.Price get) (number_up_to (10 ^ 9) what.Price put)
    (number_within (10 ^ 9) what.Price store) (number_within (10 ^ 9) what.Price get) (number_within (10 ^ 9) what.Price put) h
  where
    by : (a b c : Result ℕ Fault) → IsUpTo (10 ^ 9) a → IsUpTo (10 ^ 9) b → IsUpTo (10 ^ 9) c
        → (a >>= λ s. b >>= λ g. c >>= λ p. Ok (record { store = s; get = g; put = p })) ≡ Ok price → IsPriceWithin price
    by (Ok s) (Ok g) (Ok p) a b c e =
        let same : price ≡ record { store = s; get = g; put = p } = cc in
        subst IsPriceWithin (sym same) (record { store = a s refl; get = b g refl; put = c p refl })
    by (Ok s) (Ok g) (Err f) a b c e = absurd (cc e)
    by (Ok s) (Err f) r a b c e = absurd (cc e)
    by (Err f) q r a b c e = absurd (cc e)

pub fare_within : (transfer latency : List ℕ) (fare : Fare) → fare_of transfer latency ≡ Ok fare → IsFareWithin fare
unfolding fare_of
fare_within transfer latency fare h =
    by (number_up_to (10 ^ 9) what.Price transfer) (number_up_to (10 ^ 6) what.Latency latency)
    (number_within (10 ^ 9) what.Price transfer) (number_within (10 ^ 6) what.Latency latency) h
  where
    by : (a b : Result ℕ Fault) → IsUpTo (10 ^ 9) a → IsUpTo (10 ^ 6) b
        → (a >>= λ t. b >>= λ l. Ok (record { transfer = t; latency = l })) ≡ Ok fare → IsFareWithin fare
    by (Ok t) (Ok l) a b e =
        let same : fare ≡ record { transfer = t; latency = l } = cc in
        subst IsFareWithin (sym same) (record { transfer = a t refl; latency = b l refl })
    by (Ok t) (Err f) a b e = absurd (cc e)
    by (Err f) r a b e = absurd (cc e)

pub counts_within : (gets puts : List ℕ) (counts : ℕ × ℕ) → counts_of gets puts ≡ Ok counts → (counts.0 ≤ 10 ^ 9) × (counts.1 ≤ 10 ^ 9)
unfolding counts_of
counts_within gets puts counts h =
    by (number_up_to (10 ^ 9) what.Count gets) (number_up_to (10 ^ 9) what.Count puts)
    (number_within (10 ^ 9) what.Count gets) (number_within (10 ^ 9) what.Count puts) h
  where
    by : (a b : Result ℕ Fault) → IsUpTo (10 ^ 9) a → IsUpTo (10 ^ 9) b
        → (a >>= λ g. b >>= λ p. Ok (g, p)) ≡ Ok counts → (counts.0 ≤ 10 ^ 9) × (counts.1 ≤ 10 ^ 9)
    by (Ok g) (Ok p) a b e =
        let same : counts ≡ (g, p) = cc in
        let P : ℕ × ℕ → Type 0 = λ c. (c.0 ≤ 10 ^ 9) × (c.1 ≤ 10 ^ 9) in
        subst P (sym same) (a g refl, b p refl)
    by (Ok g) (Err f) a b e = absurd (cc e)
    by (Err f) r a b e = absurd (cc e)

pub rule_within : (mode f read write stored object providers : List ℕ) (rule : SetRule) → rule_of mode f read write stored object providers ≡ Ok rule → IsRuleWithin rule
unfolding rule_of
rule_within mode f read write stored object providers rule h =
    by (mode_of mode) (number_up_to 3 what.F f) (number_up_to (10 ^ 6) what.Latency read) (number_up_to (10 ^ 6) what.Latency write)
    (number_up_to (10 ^ 12) what.Stored stored) (number_up_to (10 ^ 5) what.Object object) (providers_of providers)
    (number_within 3 what.F f) (number_within (10 ^ 6) what.Latency read) (number_within (10 ^ 6) what.Latency write)
    (number_within (10 ^ 12) what.Stored stored) (number_within (10 ^ 5) what.Object object) (providers_within providers) h
  where
    by : (m : Result Mode Fault) (a b c d e g : Result ℕ Fault)
        → IsUpTo 3 a → IsUpTo (10 ^ 6) b → IsUpTo (10 ^ 6) c → IsUpTo (10 ^ 12) d → IsUpTo (10 ^ 5) e → ((n : ℕ) → g ≡ Ok n → (1 ≤ n) × (n ≤ 16))
        → (m >>= λ x. a >>= λ n. b >>= λ r. c >>= λ w. d >>= λ s. e >>= λ o. g >>= λ p. Ok (record { mode = x; f = n; read_slo = r; write_slo = w; stored = s; object = o; providers = p })) ≡ Ok rule
        → IsRuleWithin rule
    by (Err x) a b c d e g A B C D E G h = absurd (cc h)
    by (Ok x) (Err f) b c d e g A B C D E G h = absurd (cc h)
    by (Ok x) (Ok n) (Err f) c d e g A B C D E G h = absurd (cc h)
    by (Ok x) (Ok n) (Ok r) (Err f) d e g A B C D E G h = absurd (cc h)
    by (Ok x) (Ok n) (Ok r) (Ok w) (Err f) e g A B C D E G h = absurd (cc h)
    by (Ok x) (Ok n) (Ok r) (Ok w) (Ok s) (Err f) g A B C D E G h = absurd (cc h)
    by (Ok x) (Ok n) (Ok r) (Ok w) (Ok s) (Ok o) (Err f) A B C D E G h = absurd (cc h)
    by (Ok x) (Ok n) (Ok r) (Ok w) (Ok s) (Ok o) (Ok p) A B C D E G h =
        let same : rule ≡ record { mode = x; f = n; read_slo = r; write_slo = w; stored = s; object = o; providers = p } = cc in
        subst IsRuleWithin (sym same) (record {
          f = A n refl;
          read_slo = B r refl;
          write_slo = C w refl;
          stored = D s refl;
          object = E o refl;
          some_provider = (G p refl).0;
          providers = (G p refl).1;
        })

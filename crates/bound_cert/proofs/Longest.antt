-- The longest front of a text that is a number.
use Rattle.std.proofs.Common.{Err, ◌≡◌, ◌≢◌, ℕ, zero, suc, ◌+◌, ◌<◌, ◌≤◌, ◌⊎◌, inl, inr, true, false, List, [], ◌∷◌, length, take, slice_index, refl, sym, ap, ◌∙◌, subst, arith}
use Rattle.std.proofs.lemmas.List.{take_more, length-take-le}
use Rattle.std.proofs.lemmas.List.Folds.{list_all_more}
use Rattle.std.proofs.lemmas.Bool.{and_from}
use Rattle.std.specs.List.{list_all}
use Rattle.std.specs.Char.{is_ascii_digit}
use Rattle.span_base.specs.declared.number.NumberFault.{NumberFault}
use Rattle.span_base.specs.declared.number.NumberFault.TheVariants.{Bad, Limit}
use Rattle.span_base.specs.Number.{is_number, IsNumber, number_of, ReadsNumber}
use Rattle.span_base.proofs.Spelling.{digits_are_number}
use Rattle.bound_cert.specs.Reading.{IsLongestNumber, BeginsAbove}
use Rattle.bound_cert.proofs.Numbers.{HasDigits, number_digits, number_ends}

-- the bytes below the place are at most 38 digits
pub record DigitsBelow (text : List ℕ) (place : ℕ) : Type 0 where
  pub few : place ≤ 38
  pub digits : list_all is_ascii_digit (take place text) ≡ true

pub digits_more : (text : List ℕ) (place : ℕ) → DigitsBelow text place → place < length text → place ≢ 38 → is_ascii_digit (slice_index text place) ≡ true → DigitsBelow text (place + 1)
digits_more text place below inside ne digit =
    let few : place ≤ 38 = below.few in
    record {
      few = omega arith;
      digits = list_all_more is_ascii_digit text place 0 inside ∙ and_from _ _ below.digits digit;
    }

front_lead : (text : List ℕ) (k : ℕ) → slice_index (take (suc k) text) 0 ≡ slice_index text 0
front_lead [] k = refl
front_lead (c ∷ cs) k = refl

front_number : (text : List ℕ) (place : ℕ) → slice_index text 0 ≢ 48 → place ≤ length text → DigitsBelow text place → 0 < place → IsNumber (take place text)
front_number text zero lead within below some = absurd (omega arith)
front_number text (suc k) lead within below some =
    let long : length (take (suc k) text) ≡ suc k = length-take-le (suc k) text within in
    let few : suc k ≤ 38 = below.few in
    digits_are_number (take (suc k) text) (omega arith) (λ e. lead (sym (front_lead text k) ∙ e)) below.digits (omega arith)

no_more : (text : List ℕ) (place : ℕ) → place < length text → (is_ascii_digit (slice_index text place) ≡ false) ⊎ (place ≡ 38) → ¬ IsNumber (take (place + 1) text)
no_more text place inside (inl other) h =
    let e : is_number (take (place + 1) text) ≡ false = ap is_number (take_more text place 0 inside) ∙ number_ends (take place text) (slice_index text place) other in
    cc
no_more text place inside (inr full) h =
    let d : HasDigits (take (place + 1) text) = number_digits (take (place + 1) text) h in
    let few : length (take (place + 1) text) ≤ 38 = d.few in
    let long : length (take (place + 1) text) ≡ place + 1 = length-take-le (place + 1) text (omega arith) in
    omega arith

-- digits up to the end, a byte that is none, or the 39th
pub longest_at : (text : List ℕ) (place : ℕ) → slice_index text 0 ≢ 48 → place ≤ length text → DigitsBelow text place → (place < length text → (is_ascii_digit (slice_index text place) ≡ false) ⊎ (place ≡ 38)) → IsLongestNumber text place
longest_at text place lead within below stop = record {
  within = within;
  number = front_number text place lead within below;
  longest = λ inside. no_more text place inside (stop inside);
}

-- why the longest number is refused: there is none, or it is above the limit
pub refused : (rest front : List ℕ) (count limit : ℕ) (fault : NumberFault) → front ≡ take count rest → IsLongestNumber rest count → ReadsNumber front limit (Err fault) → ¬ IsNumber (take 1 rest) ⊎ BeginsAbove limit rest
refused rest front count limit (Limit n) same longest h =
    let value : n ≡ number_of front = h.1 in
    let above : limit < n = h.2 in
    let both : IsNumber (take count rest) × (limit < number_of (take count rest)) =
    subst (λ (t : List ℕ). IsNumber t × (limit < number_of t)) same (h.0, omega arith) in
    inr (count, longest.within, both.0, both.1)
refused rest front zero limit (Bad place) same longest h = inl (none rest longest)
  where
    none : (rest : List ℕ) → IsLongestNumber rest 0 → ¬ IsNumber (take 1 rest)
    none [] longest n = cc n
    none (c ∷ cs) longest n = longest.longest (omega arith) n
refused rest front (suc k) limit (Bad place) same longest h =
    absurd (h.faulty (subst IsNumber (sym same) (longest.number (omega arith))))

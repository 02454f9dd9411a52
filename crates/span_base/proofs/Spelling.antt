-- How far a text can go on as a number or as a name.
use Rattle.std.proofs.Common.{◌/◌, ◌%◌, ◌≡◌, ◌≢◌, ℕ, ◌<◌, ◌≤◌, ◌+◌, ◌⊎◌, inl, inr, zero, suc, Bool, true, false, cond, ◌&&◌, ◌==◌, nat_lt, nat_le, List, [], ◌∷◌, ◌++◌, length, take, arith, subst, sym, refl, ap, ◌∙◌, slice_index, length-append, ◌^◌, ◌*◌, ◌-◌, add-one}
use Rattle.std.proofs.lemmas.List.{append-nil, length-take-le}
use Rattle.std.proofs.lemmas.List.Folds.{list_all-append, list_all_more}
use Rattle.std.proofs.lemmas.Bool.{and_parts, and_from, and_right, lt-ltb, le-leb, leb-true, ne_eqb, eqb-true, le-ltb}
use Rattle.std.specs.List.{list_all}
use Rattle.std.specs.Char.{is_ascii_digit}
use Rattle.std.specs.Str.Parse.{digits_value}
use Rattle.std.proofs.lemmas.Int.Digits.{digits_value_more}
use Rattle.std.specs.Char.{digit_value}
use Rattle.std.proofs.Math.Nat.{pow-suc, pow-le-pow_right, lt_of_lt_of_le}
use Rattle.span_base.specs.Grammar.{CanGoOn, BreaksAt}
use Rattle.std.specs.Fmt.{decimal}
use Rattle.std.proofs.lemmas.Fmt.{decimal_by_steps_wide, decimal_digit, decimal_is_IsNumeral_wide, length-decimal-le_wide}
use Rattle.span_base.specs.Number.{is_number, IsNumber, number_of}
use Rattle.span_base.specs.Name.{is_name_byte, IsName}
use Rattle.span_base.proofs.Breaks.{breaks_inside, breaks_at_end}

and_assoc : (a b c : Bool) → (a && (b && c)) ≡ ((a && b) && c)
and_assoc true b c = refl
and_assoc false b c = refl

-- a text that doesn't begin with 0 is a number where it is 1 to 38 digits
plain : (xs : List ℕ) → 0 < length xs → slice_index xs 0 ≢ 48 → is_number xs ≡ (list_all is_ascii_digit xs && nat_le (length xs) 38)
plain [] h lead = absurd (omega arith)
plain (c ∷ cs) h lead =
    ap (λ b. cond b (length cs == 0) (is_ascii_digit c && (list_all is_ascii_digit cs && nat_lt (length cs) 38))) (ne_eqb c 48 lead)
    ∙ and_assoc (is_ascii_digit c) (list_all is_ascii_digit cs) (nat_lt (length cs) 38)

lead-take : (xs : List ℕ) (k : ℕ) → slice_index (take (suc k) xs) 0 ≡ slice_index xs 0
lead-take [] k = refl
lead-take (x ∷ xs) k = refl

lead-append : (xs ys : List ℕ) → 0 < length xs → slice_index (xs ++ ys) 0 ≡ slice_index xs 0
lead-append [] ys h = absurd (omega arith)
lead-append (x ∷ xs) ys h = refl

-- 1 to 38 digits of which the first isn't 0 are a number
pub digits_are_number : (xs : List ℕ) → 0 < length xs → slice_index xs 0 ≢ 48 → list_all is_ascii_digit xs ≡ true → length xs ≤ 38 → IsNumber xs
digits_are_number xs some lead digits few =
    plain xs some lead ∙ and_from (list_all is_ascii_digit xs) (nat_le (length xs) 38) digits (le-leb (length xs) 38 few)

whole_can_go : (Grammar : List ℕ → Type 0) (xs : List ℕ) → Grammar xs → CanGoOn Grammar xs
whole_can_go Grammar xs h = ([], subst Grammar (sym (append-nil xs)) h)

-- where a byte is no digit, or there are more than 38, a text can't go on
number_stops : (xs : List ℕ) → 0 < length xs → slice_index xs 0 ≢ 48 → (list_all is_ascii_digit xs ≡ false) ⊎ (38 < length xs) → ¬ CanGoOn IsNumber xs
number_stops xs some lead why more =
    let lead' : slice_index (xs ++ more.0) 0 ≢ 48 = λ e. lead (sym (lead-append xs more.0 some) ∙ e) in
    let both : (list_all is_ascii_digit (xs ++ more.0) && nat_le (length (xs ++ more.0)) 38) ≡ true =
    sym (plain (xs ++ more.0) (omega (arith, length-append xs more.0)) lead') ∙ more.1 in
    let parts : (list_all is_ascii_digit (xs ++ more.0) ≡ true) × (nat_le (length (xs ++ more.0)) 38 ≡ true) = and_parts _ _ both in
    let digits : (list_all is_ascii_digit xs ≡ true) × (list_all is_ascii_digit more.0 ≡ true) =
    and_parts _ _ (sym (list_all-append is_ascii_digit xs more.0) ∙ parts.0) in
    elim why [
      | inl other ↦ (let t : list_all is_ascii_digit xs ≡ true = digits.0 in cc)
      | inr long ↦ absurd (omega (arith, length-append xs more.0, leb-true _ _ parts.1))
    ]

number_front : (text : List ℕ) (place : ℕ) → place ≤ length text → slice_index text 0 ≢ 48 → place ≤ 38 → list_all is_ascii_digit (take place text) ≡ true → CanGoOn IsNumber (take place text)
number_front text zero within lead few digits = (48 ∷ [], refl)
number_front text (suc k) within lead few digits =
    let long : length (take (suc k) text) ≡ suc k = length-take-le (suc k) text within in
    whole_can_go IsNumber (take (suc k) text) (digits_are_number (take (suc k) text) (omega arith) (λ e. lead (sym (lead-take text k) ∙ e)) digits (omega arith))

-- the first byte that is no digit, or the 39th digit, is where a text stops
pub number_breaks : (text : List ℕ) (place : ℕ) → place < length text → slice_index text 0 ≢ 48 → place ≤ 38 → list_all is_ascii_digit (take place text) ≡ true → (is_ascii_digit (slice_index text place) ≡ false) ⊎ (place ≡ 38) → BreaksAt IsNumber text place
number_breaks text place inside lead few digits why =
    let long : length (take (place + 1) text) ≡ place + 1 = length-take-le (place + 1) text (omega arith) in
    let at_suc : place + 1 ≡ suc place = omega arith in
    let lead' : slice_index (take (place + 1) text) 0 ≢ 48 = λ e. lead (sym (lead-take text place) ∙ ap (λ k. slice_index (take k text) 0) (sym at_suc) ∙ e) in
    let reason : (list_all is_ascii_digit (take (place + 1) text) ≡ false) ⊎ (38 < length (take (place + 1) text)) =
    elim why [
      | inl other ↦ inl (list_all_more is_ascii_digit text place 0 inside ∙ and_right _ _ other)
      | inr end ↦ inr (omega arith)
    ] in
    breaks_inside IsNumber text place inside (number_front text place (omega arith) lead few digits)
    (number_stops (take (place + 1) text) (omega arith) lead' reason)

-- nothing is no number, and could become one
pub no_number_breaks : (text : List ℕ) → length text < 1 → BreaksAt IsNumber text 0
no_number_breaks [] h = breaks_at_end IsNumber [] (λ h. cc) (48 ∷ [], refl)
no_number_breaks (c ∷ cs) h = absurd (omega arith)

-- after a leading 0 no byte can follow
pub zero_breaks : (c : ℕ) (cs : List ℕ) → BreaksAt IsNumber (48 ∷ c ∷ cs) 1
zero_breaks c cs = breaks_inside IsNumber (48 ∷ c ∷ cs) 1 (omega arith) ([], refl) (λ more. let e : length (c ∷ more.0) ≡ 0 = eqb-true _ _ more.1 in omega arith)

names_are : (xs : List ℕ) → 0 < length xs → length xs ≤ 32 → list_all is_name_byte xs ≡ true → IsName xs
names_are xs some few fit =
    and_from (list_all is_name_byte xs) _ fit (and_from (nat_lt 0 (length xs)) (nat_le (length xs) 32) (lt-ltb 0 (length xs) some) (le-leb (length xs) 32 few))

-- bytes of names that are at most 32 can go on
name_front : (text : List ℕ) (place : ℕ) → place ≤ length text → place ≤ 32 → list_all is_name_byte (take place text) ≡ true → CanGoOn IsName (take place text)
name_front text zero within few fit = (97 ∷ [], refl)
name_front text (suc k) within few fit =
    let long : length (take (suc k) text) ≡ suc k = length-take-le (suc k) text within in
    whole_can_go IsName (take (suc k) text) (names_are (take (suc k) text) (omega arith) (omega arith) fit)

name_stops : (xs : List ℕ) → (list_all is_name_byte xs ≡ false) ⊎ (32 < length xs) → ¬ CanGoOn IsName xs
name_stops xs why more =
    let parts : (list_all is_name_byte (xs ++ more.0) ≡ true) × ((nat_lt 0 (length (xs ++ more.0)) && nat_le (length (xs ++ more.0)) 32) ≡ true) = and_parts _ _ more.1 in
    let lengths : (nat_lt 0 (length (xs ++ more.0)) ≡ true) × (nat_le (length (xs ++ more.0)) 32 ≡ true) = and_parts _ _ parts.1 in
    let fits : (list_all is_name_byte xs ≡ true) × (list_all is_name_byte more.0 ≡ true) =
    and_parts _ _ (sym (list_all-append is_name_byte xs more.0) ∙ parts.0) in
    elim why [
      | inl other ↦ (let t : list_all is_name_byte xs ≡ true = fits.0 in cc)
      | inr long ↦ absurd (omega (arith, length-append xs more.0, leb-true _ _ lengths.1))
    ]

-- the first byte that is of no name, or the 33rd, is where a text stops
pub name_breaks : (text : List ℕ) (place : ℕ) → place < length text → place ≤ 32 → list_all is_name_byte (take place text) ≡ true → (is_name_byte (slice_index text place) ≡ false) ⊎ (place ≡ 32) → BreaksAt IsName text place
name_breaks text place inside few fit why =
    let long : length (take (place + 1) text) ≡ place + 1 = length-take-le (place + 1) text (omega arith) in
    let reason : (list_all is_name_byte (take (place + 1) text) ≡ false) ⊎ (32 < length (take (place + 1) text)) =
    elim why [
      | inl other ↦ inl (list_all_more is_name_byte text place 0 inside ∙ and_right _ _ other)
      | inr end ↦ inr (omega arith)
    ] in
    breaks_inside IsName text place inside (name_front text place (omega arith) few fit) (name_stops (take (place + 1) text) reason)

pub no_name_breaks : (text : List ℕ) → length text ≡ 0 → BreaksAt IsName text 0
no_name_breaks [] h = breaks_at_end IsName [] (λ h. cc) (97 ∷ [], refl)
no_name_breaks (c ∷ cs) h = absurd (omega arith)

-- the bytes below the place could begin a name
pub record NameSoFar (text : List ℕ) (place : ℕ) : Type 0 where
  pub few : place ≤ 32
  pub fit : list_all is_name_byte (take place text) ≡ true

-- the bytes below the place are the digits of this number
pub record DigitsSoFar (text : List ℕ) (place number : ℕ) : Type 0 where
  pub few : place ≤ 38
  pub digits : list_all is_ascii_digit (take place text) ≡ true
  pub value : number ≡ digits_value 10 (take place text)
  pub small : number < 10 ^ place

digit_value_is : (c : ℕ) → 48 ≤ c → c ≤ 57 → digit_value c ≡ c - 48
digit_value_is c low high =
    let first : nat_lt c 48 ≡ false = le-ltb c 48 low in
    let second : nat_lt c 58 ≡ true = lt-ltb c 58 (omega arith) in
    rw (first, second) refl

-- a number of at most 37 digits has room for one more
pub DigitsSoFar-small : (text : List ℕ) (place number : ℕ) → DigitsSoFar text place number → place ≢ 38 → number < 10 ^ 37
DigitsSoFar-small text place number so_far ne =
    let few : place ≤ 38 = so_far.few in
    let low : place ≤ 37 = omega arith in
    let small : number < 10 ^ place = so_far.small in
    let power : 10 ^ place ≤ 10 ^ 37 = pow-le-pow_right {n = 10} (omega arith) low in
    lt_of_lt_of_le small power

-- one digit more
pub DigitsSoFar-more : (text : List ℕ) (place number : ℕ) → DigitsSoFar text place number → place < length text → place ≢ 38 → is_ascii_digit (slice_index text place) ≡ true → 48 ≤ slice_index text place → slice_index text place ≤ 57 → DigitsSoFar text (place + 1) (number * 10 + (slice_index text place - 48))
DigitsSoFar-more text place number so_far inside ne digit low high =
    let few : place ≤ 38 = so_far.few in
    let small : number < 10 ^ place = so_far.small in
    let power : 10 ^ (place + 1) ≡ 10 ^ place * 10 = ap (λ k. 10 ^ k) (add-one place) ∙ pow-suc 10 place in
    record {
      few = omega arith;
      digits = list_all_more is_ascii_digit text place 0 inside ∙ and_from _ _ so_far.digits digit;
      value =
          ap (λ n. n * 10 + (slice_index text place - 48)) so_far.value
          ∙ ap (λ d. digits_value 10 (take place text) * 10 + d) (sym (digit_value_is (slice_index text place) low high))
          ∙ sym (digits_value_more 10 text place inside);
      small = rw power (omega arith);
    }

digit_is : (d : ℕ) → d < 10 → is_ascii_digit (48 + d) ≡ true
digit_is d low = and_from _ _ (le-leb 48 (48 + d) (omega arith)) (le-leb (48 + d) 57 (omega arith))

-- digits, the first of which is 0 only where the number is
record Spells (n : ℕ) (ds : List ℕ) : Type 0 where
  pub some : 0 < length ds
  pub digits : list_all is_ascii_digit ds ≡ true
  pub lead : 0 < n → slice_index ds 0 ≢ 48

decimal_spells : (n : ℕ) → n < 10 ^ 64 → Spells n (decimal n)
decimal_spells = decimal_by_steps_wide Spells
    (λ n low. record { some = omega arith; digits = and_from _ _ (digit_is n low) refl; lead = λ above e. absurd (omega arith) })
    (λ n ds high before. record {
      some = omega (arith, length-append ds ((48 + n % 10) ∷ []));
      digits = list_all-append is_ascii_digit ds ((48 + n % 10) ∷ []) ∙ and_from _ _ before.digits (and_from _ _ (digit_is (n % 10) (omega arith)) refl);
      lead = λ above e.
          let positive : 0 < n / 10 = omega arith in
          before.lead positive (sym (lead-append ds ((48 + n % 10) ∷ []) before.some) ∙ e);
    })

-- the decimal digits of a number below 10 ^ 38 are read back as the number
pub decimal_reads : (n : ℕ) → n < 10 ^ 38 → IsNumber (decimal n) × (number_of (decimal n) ≡ n)
decimal_reads zero low = (ap is_number (decimal_digit 0 (omega arith)), (decimal_is_IsNumeral_wide 0 (omega arith)).1)
decimal_reads (suc n) low =
    let spelled : Spells (suc n) (decimal (suc n)) = decimal_spells (suc n) (omega arith) in (
      digits_are_number (decimal (suc n)) spelled.some (spelled.lead (omega arith)) spelled.digits
          (length-decimal-le_wide 38 (suc n) (omega arith) low (omega arith)),
      (decimal_is_IsNumeral_wide (suc n) (omega arith)).1,
    )

-- The numbers of a line: their one spelling, their fronts, and the bytes that end them.
use Rattle.std.proofs.Common.{◌≡◌, ℕ, ◌+◌, ◌*◌, ◌/◌, ◌%◌, ◌^◌, ◌<◌, ◌≤◌, Bool, true, false, cond, ◌&&◌, ◌==◌, nat_lt, List, [], ◌∷◌, ◌++◌, length, get_or, take, refl, sym, ap, ◌∙◌, subst, arith, append_assoc, length-append}
use Rattle.std.proofs.lemmas.List.{append-nil, take_at}
use Rattle.std.proofs.lemmas.List.Folds.{list_all-append}
use Rattle.std.proofs.lemmas.Bool.{and_parts, and_from, eqb-true, eq-eqb, ltb-true, lt-ltb, leb-true, false_from_ne_true}
use Rattle.std.specs.List.{list_all}
use Rattle.std.specs.Char.{is_ascii_digit, digit_value}
use Rattle.std.specs.Str.Parse.{AllDigits, digits_value, digits_value_after}
use Rattle.std.proofs.lemmas.Int.Digits.{digits_value-lt}
use Rattle.std.proofs.lemmas.Str.{digit_value_digit}
use Rattle.std.proofs.lemmas.Str.Parse.{digits_value-take-le}
use Rattle.std.specs.Fmt.{decimal}
use Rattle.std.proofs.lemmas.Fmt.{decimal_step_wide, decimal_digit}
use Rattle.std.proofs.Math.Nat.{pow-le-pow_right, lt_of_lt_of_le}
use Rattle.span_base.specs.Number.{is_number, IsNumber, number_of}

digit_range : (c : ℕ) → is_ascii_digit c ≡ true → (48 ≤ c) × (c ≤ 57)
digit_range c h = let parts = and_parts _ _ h in (leb-true 48 c parts.0, leb-true c 57 parts.1)

digit_value_of : (c : ℕ) → is_ascii_digit c ≡ true → (digit_value c + 48 ≡ c) × (digit_value c < 10)
digit_value_of c h =
    let r : (48 ≤ c) × (c ≤ 57) = digit_range c h in
    let v : digit_value c + 48 ≡ c = digit_value_digit c r in
    (v, omega arith)

all_digits : (ds : List ℕ) → list_all is_ascii_digit ds ≡ true → AllDigits 10 ds
all_digits [] h = tt
all_digits (c ∷ cs) h =
    let parts : (is_ascii_digit c ≡ true) × (list_all is_ascii_digit cs ≡ true) = and_parts _ _ h in
    ((digit_value_of c parts.0).1, all_digits cs parts.1)

-- a number is 1 to 38 digits, and only 0 begins with 0
pub record HasDigits (text : List ℕ) : Type 0 where
  pub digits : list_all is_ascii_digit text ≡ true
  pub some : 0 < length text
  pub few : length text ≤ 38
  pub lead : get_or text 0 0 ≡ 48 → length text ≡ 1

only_zero : (c : ℕ) (cs : List ℕ) → c ≡ 48 → length cs ≡ 0 → HasDigits (c ∷ cs)
only_zero c [] is none = record { digits = rw is refl; some = omega arith; few = omega arith; lead = λ e. refl }
only_zero c (d ∷ ds) is none = absurd (omega arith)

pub number_digits : (text : List ℕ) → IsNumber text → HasDigits text
number_digits [] h = absurd (cc h)
number_digits (c ∷ cs) h = by (c == 48) refl h
  where
    by : (b : Bool) → (c == 48) ≡ b → cond b (length cs == 0) (is_ascii_digit c && (list_all is_ascii_digit cs && nat_lt (length cs) 38)) ≡ true → HasDigits (c ∷ cs)
    by true e h' = only_zero c cs (eqb-true c 48 e) (eqb-true (length cs) 0 h')
    by false e h' =
        let parts : (is_ascii_digit c ≡ true) × ((list_all is_ascii_digit cs && nat_lt (length cs) 38) ≡ true) = and_parts (is_ascii_digit c) _ h' in
        let more : (list_all is_ascii_digit cs ≡ true) × (nat_lt (length cs) 38 ≡ true) = and_parts (list_all is_ascii_digit cs) _ parts.1 in
        let short : length cs < 38 = ltb-true _ _ more.1 in
        record {
          digits = and_from (is_ascii_digit c) (list_all is_ascii_digit cs) parts.0 more.0;
          some = omega arith;
          few = omega arith;
          lead = λ z. absurd (let t : (c == 48) ≡ true = eq-eqb c 48 z in cc);
        }

-- a text with such digits is a number
pub digits_number : (text : List ℕ) → HasDigits text → IsNumber text
digits_number [] h = absurd (let some : 0 < length {A = ℕ} [] = h.some in omega arith)
digits_number (c ∷ cs) h = by (c == 48) refl
  where
    by : (b : Bool) → (c == 48) ≡ b → cond b (length cs == 0) (is_ascii_digit c && (list_all is_ascii_digit cs && nat_lt (length cs) 38)) ≡ true
    by true e = let one : length (c ∷ cs) ≡ 1 = h.lead (eqb-true c 48 e) in eq-eqb (length cs) 0 (omega arith)
    by false e =
        let parts : (is_ascii_digit c ≡ true) × (list_all is_ascii_digit cs ≡ true) = and_parts _ _ h.digits in
        let few : length (c ∷ cs) ≤ 38 = h.few in
        and_from _ _ parts.0 (and_from _ _ parts.1 (lt-ltb (length cs) 38 (omega arith)))

first_of : (xs ys : List ℕ) → 0 < length xs → get_or (xs ++ ys) 0 0 ≡ get_or xs 0 0
first_of [] ys some = absurd (omega arith)
first_of (x ∷ xs) ys some = refl

-- each front of a number that isn't empty is a number
pub number_front : (xs ys : List ℕ) → 0 < length xs → IsNumber (xs ++ ys) → IsNumber xs
number_front xs ys some h =
    let d : HasDigits (xs ++ ys) = number_digits (xs ++ ys) h in
    let few : length (xs ++ ys) ≤ 38 = d.few in
    let lengths : length (xs ++ ys) ≡ length xs + length ys = length-append xs ys in
    digits_number xs (record {
      digits = (and_parts _ _ (sym (list_all-append is_ascii_digit xs ys) ∙ d.digits)).0;
      some = some;
      few = omega arith;
      lead = λ e. let one : length (xs ++ ys) ≡ 1 = d.lead (first_of xs ys some ∙ e) in omega arith;
    })

-- no number ends in a byte that is no digit
pub number_ends : (xs : List ℕ) (c : ℕ) → is_ascii_digit c ≡ false → is_number (xs ++ c ∷ []) ≡ false
number_ends xs c other = false_from_ne_true _ (λ h.
    let d : HasDigits (xs ++ c ∷ []) = number_digits (xs ++ c ∷ []) h in
    let parts : (list_all is_ascii_digit xs ≡ true) × (list_all is_ascii_digit (c ∷ []) ≡ true) = and_parts _ _ (sym (list_all-append is_ascii_digit xs (c ∷ [])) ∙ d.digits) in
    let digit : is_ascii_digit c ≡ true = (and_parts _ _ parts.1).0 in
    cc)

-- a number is below 10 ^ 38
pub number_low : (text : List ℕ) → IsNumber text → number_of text < 10 ^ 38
number_low text h =
    let d : HasDigits text = number_digits text h in
    let power : 10 ^ length text ≤ 10 ^ 38 = pow-le-pow_right {n = 10} (omega arith) d.few in
    lt_of_lt_of_le (digits_value-lt 10 text (all_digits text d.digits)) power

le_after : (n : ℕ) (ds : List ℕ) → n ≤ digits_value_after 10 n ds
le_after n [] = omega arith
le_after n (c ∷ cs) = omega (arith, le_after (n * 10 + digit_value c) cs)

decimal_after : (n : ℕ) (ds : List ℕ) → 0 < n → list_all is_ascii_digit ds ≡ true → digits_value_after 10 n ds < 10 ^ 64 → decimal (digits_value_after 10 n ds) ≡ decimal n ++ ds
decimal_after n [] some d small = sym (append-nil (decimal n))
decimal_after n (c ∷ cs) some d small =
    let m : ℕ = n * 10 + digit_value c in
    let parts : (is_ascii_digit c ≡ true) × (list_all is_ascii_digit cs ≡ true) = and_parts _ _ d in
    let v : (digit_value c + 48 ≡ c) × (digit_value c < 10) = digit_value_of c parts.0 in
    let front : m / 10 ≡ n = omega arith in
    let end : 48 + m % 10 ≡ c = omega arith in
    decimal_after m cs (omega arith) parts.1 small
    ∙ ap (λ x. x ++ cs) (decimal_step_wide m (omega arith) (omega (arith, le_after m cs)) ∙ (λ i. decimal (front i) ++ (end i ∷ [])))
    ∙ append_assoc (decimal n) (c ∷ []) cs

decimal_first : (c : ℕ) → is_ascii_digit c ≡ true → decimal (0 * 10 + digit_value c) ≡ c ∷ []
decimal_first c h =
    let v : (digit_value c + 48 ≡ c) × (digit_value c < 10) = digit_value_of c h in
    let is : 48 + (0 * 10 + digit_value c) ≡ c = omega arith in
    decimal_digit (0 * 10 + digit_value c) (omega arith) ∙ ap (λ x. x ∷ []) is

digits_decimal : (ds : List ℕ) → HasDigits ds → digits_value 10 ds < 10 ^ 64 → decimal (digits_value 10 ds) ≡ ds
digits_decimal [] h small = absurd (let some : 0 < length {A = ℕ} [] = h.some in omega arith)
digits_decimal (c ∷ []) h small = decimal_first c (and_parts _ _ h.digits).0
digits_decimal (c ∷ e ∷ cs) h small =
    let parts : (is_ascii_digit c ≡ true) × (list_all is_ascii_digit (e ∷ cs) ≡ true) = and_parts _ _ h.digits in
    let v : (digit_value c + 48 ≡ c) × (digit_value c < 10) = digit_value_of c parts.0 in
    let no_zero : c ≡ 48 → ⊥ = λ z. let one : length (c ∷ e ∷ cs) ≡ 1 = h.lead z in omega arith in
    decimal_after (0 * 10 + digit_value c) (e ∷ cs) (omega arith) parts.1 small
    ∙ ap (λ x. x ++ (e ∷ cs)) (decimal_first c parts.0)

-- a number has one spelling
pub decimal-number_of : (text : List ℕ) → IsNumber text → decimal (number_of text) ≡ text
decimal-number_of text h =
    digits_decimal text (number_digits text h) (let low : number_of text < 10 ^ 38 = number_low text h in omega arith)

-- a front of digits spells no more than all of them
pub front_low : (xs ys : List ℕ) → number_of xs ≤ number_of (xs ++ ys)
front_low xs ys =
    let e : take (length xs) (xs ++ ys) ≡ xs = take_at xs ys (length xs) refl in
    subst (λ t. number_of t ≤ number_of (xs ++ ys)) e (digits_value-take-le 10 (xs ++ ys) (length xs) (omega arith))

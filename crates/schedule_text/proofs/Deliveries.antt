-- The line of a delivery, read by itself.
use Rattle.std.proofs.Common.{◌≡◌, ◌≢◌, ℕ, zero, suc, ◌+◌, ◌<◌, ◌≤◌, ◌^◌, true, List, [], ◌∷◌, ◌++◌, length, take, drop, slice_index, Ok, refl, sym, ap, ◌∙◌, arith, append_assoc, append-nil}
use Rattle.std.specs.Prelude.{codes, nat_le}
use Rattle.std.specs.List.{list_all}
use Rattle.std.specs.Char.{is_ascii_digit}
use Rattle.std.proofs.lemmas.Bool.{and_parts, le-leb, leb-true}
use Rattle.std.proofs.lemmas.List.{drop-drop, length-take-le}
use Rattle.std.proofs.Math.Nat.{pow-le-pow_right, lt_of_lt_of_le}
use Rattle.span_base.proofs.Spelling.{DigitsSoFar, digits_are_number}
use Rattle.world_core.specs.declared.event.Event.TheVariants.{Deliver}
use Rattle.schedule_text.specs.declared.setting.Setting.{Setting}
use Rattle.schedule_text.specs.Words.{lines_of}
use Rattle.schedule_text.specs.Numbers.{spelled, number_says, count_says}
use Rattle.schedule_text.specs.Events.{delivers, deliver_says, event_by, by_words, event_says}
use Rattle.schedule_text.specs.Printed.{joined, line_text}
use Rattle.schedule_text.specs.Schedules.{first_fault, numbered, events_of}
use Rattle.schedule_text.specs.Deliveries.{BeginsWithNumber, BeginsWithDelivery, IsNextDelivery}
use Rattle.schedule_text.proofs.Bytes.{AllHave, have_more, is_inked, line_free, lines_next}
use Rattle.schedule_text.proofs.EventsBack.{words_say}
use Rattle.schedule_text.proofs.Reading.{passed, event_first}

-- ---- the number

lead_take : (xs : List ℕ) (k : ℕ) → 0 < k → slice_index (take k xs) 0 ≡ slice_index xs 0
lead_take xs zero some = absurd (omega (arith, some))
lead_take [] (suc k) some = refl
lead_take (x ∷ xs) (suc k) some = refl

-- up to nine digits of which the first isn't 0 are a number that fits
pub short_says : (text : List ℕ) (at number : ℕ) → DigitsSoFar text at number → 0 < at → at ≤ 9 → at ≤ length text → slice_index text 0 ≢ 48 → count_says (take at text) ≡ Ok number
unfolding number_says spelled
short_says text at number so_far some few within lead =
    let long = length-take-le at text within in
    let is = digits_are_number (take at text) (omega (arith, long, some)) (λ e. lead (sym (lead_take text at some) ∙ e)) so_far.digits (omega (arith, long, few)) in
    let power : 10 ^ at ≤ 10 ^ 9 = pow-le-pow_right {n = 10} (omega arith) few in
    let small : number < 10 ^ 9 = lt_of_lt_of_le so_far.small power in
    rw is (rw (sym so_far.value) (rw (le-leb number 4294967295 (omega (arith, small))) refl))

pub number_there : (text : List ℕ) (at number : ℕ) → DigitsSoFar text at number → 0 < at → at ≤ 9 → at < length text → slice_index text 0 ≢ 48 → slice_index text at ≡ 10 → BeginsWithNumber text at number
number_there text at number so_far some few within lead feed =
    record { ends = within; feed = feed; are_digits = so_far.digits; says = short_says text at number so_far some few (omega (arith, within)) lead }

-- nine digits have room for one more
pub nine_small : (text : List ℕ) (at number : ℕ) → DigitsSoFar text at number → at ≤ 9 → at ≢ 9 → number < 10 ^ 8
nine_small text at number so_far few ne =
    let low : at ≤ 8 = omega (arith, few, ne) in
    lt_of_lt_of_le so_far.small (pow-le-pow_right {n = 10} (omega arith) low)

-- ---- the line

digit_inked : (c : ℕ) → is_ascii_digit c ≡ true → is_inked c ≡ true
digit_inked c h = let a = leb-true 48 c (and_parts (nat_le 48 c) (nat_le c 57) h).0 in le-leb 33 c (omega (arith, a))

abbrev words_with : List ℕ → List (List ℕ)
words_with digits = codes "deliver" ∷ digits ∷ []

words_inked : (digits : List ℕ) → list_all is_ascii_digit digits ≡ true → AllHave is_inked (words_with digits)
words_inked digits are = (refl, (have_more is_ascii_digit is_inked digits digit_inked are, tt))

line_is : (digits : List ℕ) → line_text (words_with digits) ≡ codes "deliver " ++ digits
unfolding joined
line_is digits = ap (λ (t : List ℕ). codes "deliver " ++ t) (append-nil digits)

by_delivery : (setting : Setting) (digits : List ℕ) (message : ℕ) → delivers setting.form ≡ true → count_says digits ≡ Ok message → by_words setting (words_with digits) ≡ Ok (Deliver message)
unfolding event_by deliver_says
by_delivery setting digits message delivered says = rw delivered (rw says refl)

delivery_says : (setting : Setting) (digits : List ℕ) (message : ℕ) → delivers setting.form ≡ true → list_all is_ascii_digit digits ≡ true → count_says digits ≡ Ok message
    → event_says setting (codes "deliver " ++ digits) ≡ Ok (Deliver message)
delivery_says setting digits message delivered are says =
    ap (event_says setting) (sym (line_is digits)) ∙ words_say setting (words_with digits) (Deliver message) (words_inked digits are) (by_delivery setting digits message delivered says)

-- the first eight bytes of such a line
pub begins : (text : List ℕ) → 8 ≤ length text → slice_index text 0 ≡ 100 → slice_index text 1 ≡ 101 → slice_index text 2 ≡ 108 → slice_index text 3 ≡ 105 → slice_index text 4 ≡ 118 → slice_index text 5 ≡ 101 → slice_index text 6 ≡ 114 → slice_index text 7 ≡ 32
    → text ≡ codes "deliver " ++ drop 8 text
begins (a ∷ b ∷ c ∷ d ∷ e ∷ f ∷ g ∷ h ∷ rest) few a-is b-is c-is d-is e-is f-is g-is h-is = rw (a-is, b-is, c-is, d-is, e-is, f-is, g-is, h-is) refl
begins [] few a-is b-is c-is d-is e-is f-is g-is h-is = absurd (omega (arith, few))
begins (a ∷ []) few a-is b-is c-is d-is e-is f-is g-is h-is = absurd (omega (arith, few))
begins (a ∷ b ∷ []) few a-is b-is c-is d-is e-is f-is g-is h-is = absurd (omega (arith, few))
begins (a ∷ b ∷ c ∷ []) few a-is b-is c-is d-is e-is f-is g-is h-is = absurd (omega (arith, few))
begins (a ∷ b ∷ c ∷ d ∷ []) few a-is b-is c-is d-is e-is f-is g-is h-is = absurd (omega (arith, few))
begins (a ∷ b ∷ c ∷ d ∷ e ∷ []) few a-is b-is c-is d-is e-is f-is g-is h-is = absurd (omega (arith, few))
begins (a ∷ b ∷ c ∷ d ∷ e ∷ f ∷ []) few a-is b-is c-is d-is e-is f-is g-is h-is = absurd (omega (arith, few))
begins (a ∷ b ∷ c ∷ d ∷ e ∷ f ∷ g ∷ []) few a-is b-is c-is d-is e-is f-is g-is h-is = absurd (omega (arith, few))

-- a text at the byte that stands at a place
falls : (text : List ℕ) (at : ℕ) → at < length text → slice_index text at ≡ 10 → text ≡ take at text ++ 10 ∷ drop (at + 1) text
falls [] at within is = absurd (omega (arith, within))
falls (c ∷ cs) zero within is = ap (λ (d : ℕ). d ∷ cs) is
falls (c ∷ cs) (suc at) within is = let e : suc at + 1 ≡ suc (at + 1) = omega arith in rw e (ap (λ (t : List ℕ). c ∷ t) (falls cs at (omega (arith, within)) is))

pub delivery_there : (text rest : List ℕ) (digits message : ℕ) → text ≡ codes "deliver " ++ rest → BeginsWithNumber rest digits message → BeginsWithDelivery text (8 + digits + 1) message
delivery_there text rest digits message is number = record {
  some = omega arith;
  within = rw is (let h = number.ends in omega (arith, h));
  line = codes "deliver " ++ take digits rest;
  lines = rw is lines;
  says = λ setting delivered. delivery_says setting (take digits rest) message delivered number.are_digits number.says;
}
  where
    left : List ℕ
    left = drop (digits + 1) rest

    behind : left ≡ drop (8 + digits + 1) (codes "deliver " ++ rest)
    behind = let e : 8 + (digits + 1) ≡ 8 + digits + 1 = omega arith in drop-drop (digits + 1) 8 (codes "deliver " ++ rest) ∙ ap (λ (n : ℕ). drop n (codes "deliver " ++ rest)) e

    lines : lines_of (codes "deliver " ++ rest) ≡ (codes "deliver " ++ take digits rest) ∷ lines_of (drop (8 + digits + 1) (codes "deliver " ++ rest))
    lines =
        ap (λ (t : List ℕ). lines_of (codes "deliver " ++ t)) (falls rest digits number.ends number.feed)
        ∙ ap lines_of (sym (append_assoc (codes "deliver ") (take digits rest) (10 ∷ left)))
        ∙ ap (λ (t : List ℕ). lines_of (t ++ 10 ∷ left)) (sym (line_is (take digits rest)))
        ∙ lines_next (line_text (words_with (take digits rest))) left (line_free (words_with (take digits rest)) (words_inked (take digits rest) number.are_digits))
        ∙ ap (λ (t : List ℕ). t ∷ lines_of left) (line_is (take digits rest))
        ∙ ap (λ (t : List ℕ). (codes "deliver " ++ take digits rest) ∷ lines_of t) behind

-- ---- the next line

pub next_there : (setting : Setting) (text rest : List ℕ) (at len message : ℕ) → delivers setting.form ≡ true → rest ≡ drop at text → BeginsWithDelivery rest len message
    → IsNextDelivery setting message (lines_of (drop at text)) (lines_of (drop (at + len) text))
next_there setting text rest at len message delivered is it = record {
  line = it.line;
  first = ap lines_of (sym is) ∙ it.lines ∙ ap (λ (t : List ℕ). it.line ∷ lines_of t) (ap (λ (t : List ℕ). drop len t) is ∙ drop-drop len at text);
  says = it.says setting delivered;
}

pub next_passed : (setting : Setting) (line number message : ℕ) (lines left : List (List ℕ)) → number ≤ 1000000 → IsNextDelivery setting message lines left
    → first_fault setting line number lines ≡ first_fault setting (line + 1) (number + 1) left
next_passed setting line number message lines left few it =
    sym (passed setting line number (Deliver message) it.line lines left (first_fault setting line number lines) it.first numbered_so refl)
  where
    numbered_so : numbered setting number it.line ≡ Ok (Deliver message)
    numbered_so = rw (le-leb number 1000000 few) (rw it.says refl)

pub next_event : (setting : Setting) (message : ℕ) (lines left : List (List ℕ)) → IsNextDelivery setting message lines left → events_of setting lines ≡ Deliver message ∷ events_of setting left
next_event setting message lines left it = event_first setting (Deliver message) it.line lines left it.first it.says

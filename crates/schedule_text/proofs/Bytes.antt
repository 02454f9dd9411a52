-- The bytes of printed texts: where one of them is missing, and where a text falls apart.
use Rattle.std.proofs.Common.{◌≡◌, ℕ, ◌+◌, ◌<◌, ◌≤◌, ◌/◌, ◌%◌, ◌^◌, ◌==◌, Bool, true, false, cond, ◌&&◌, ◌||◌, List, [], ◌∷◌, ◌++◌, refl, sym, ap, subst, ◌∙◌, arith}
use Rattle.std.specs.Prelude.{nat_le, not, map, slice_index}
use Rattle.std.specs.List.{list_all, flat_map}
use Rattle.std.specs.Fmt.{decimal}
use Rattle.std.specs.Char.{is_ascii_digit}
use Rattle.std.proofs.lemmas.Bool.{and_from, eqb-true, false_from_ne_true, le-leb, leb-true}
use Rattle.std.proofs.lemmas.Fmt.{decimal_by_steps_wide}
use Rattle.std.proofs.lemmas.List.Folds.{list_all-append}
use Rattle.std.proofs.lemmas.List.Sums.{AllPass-from_list_all}
use Rattle.hex.specs.Hex.{encode_lower, encode_with, lower_digits, IsBytes}
use Rattle.run_marks.specs.Text.{value_text}
use Rattle.schedule_text.specs.Words.{is_joint, lines_of}
use Rattle.schedule_text.specs.Printed.{joined, commas}
use Rattle.schedule_text.proofs.Joining.{AreFree, AllFree}

-- each byte of a text passes
abbrev pub Has : (ℕ → Bool) → List ℕ → Type 0
Has p text = list_all p text ≡ true

abbrev pub AllHave : (ℕ → Bool) → List (List ℕ) → Type 0
AllHave p [] = Unit {0}
AllHave p (text ∷ texts) = Has p text × AllHave p texts

pub have_append : (p : ℕ → Bool) (xs ys : List ℕ) → Has p xs → Has p ys → Has p (xs ++ ys)
have_append p xs ys h i = list_all-append p xs ys ∙ and_from _ _ h i

pub have_joined : (p : ℕ → Bool) (byte : ℕ) (texts : List (List ℕ)) → p byte ≡ true → AllHave p texts → Has p (joined byte texts)
unfolding joined
have_joined p byte [] is have = refl
have_joined p byte (text ∷ texts) is have = have_append p text (flat_map (λ next. byte ∷ next) texts) have.0 (later texts have.1)
  where
    later : (texts : List (List ℕ)) → AllHave p texts → Has p (flat_map (λ next. byte ∷ next) texts)
    later [] have = refl
    later (text ∷ texts) have = have_append p (byte ∷ text) (flat_map (λ next. byte ∷ next) texts) (and_from _ _ is have.0) (later texts have.1)

pub have_more : (p q : ℕ → Bool) (text : List ℕ) → ((c : ℕ) → p c ≡ true → q c ≡ true) → Has p text → Has q text
have_more p q [] wider have = refl
have_more p q (c ∷ cs) wider have = let it = both (p c) (list_all p cs) have in and_from _ _ (wider c it.0) (have_more p q cs wider it.1)
  where
    both : (a b : Bool) → (a && b) ≡ true → (a ≡ true) × (b ≡ true)
    both true b h = (refl, h)
    both false b h = absurd (cc)

-- a byte that doesn't pass isn't in the text
pub free_of : (p : ℕ → Bool) (byte : ℕ) (text : List ℕ) → p byte ≡ false → Has p text → AreFree (λ c. c == byte) text
free_of p byte [] isnt have = tt
free_of p byte (c ∷ cs) isnt have = (other, free_of p byte cs isnt (rest (p c) have))
  where
    rest : (a : Bool) → (a && list_all p cs) ≡ true → list_all p cs ≡ true
    rest true h = h
    rest false h = absurd (cc)

    first : (a b : Bool) → (a && b) ≡ true → a ≡ true
    first true b h = refl
    first false b h = absurd (cc)

    other : (c == byte) ≡ false
    other = false_from_ne_true (c == byte) (λ h. let e = eqb-true c byte h in let f = first (p c) (list_all p cs) have in cc)

pub all_free : (p : ℕ → Bool) (byte : ℕ) (texts : List (List ℕ)) → p byte ≡ false → AllHave p texts → AllFree (λ c. c == byte) texts
all_free p byte [] isnt have = tt
all_free p byte (text ∷ texts) isnt have = (free_of p byte text isnt have.0, all_free p byte texts isnt have.1)

-- ---- digits, lists of numbers, words, lines

digit_is : (d : ℕ) → d < 10 → is_ascii_digit (48 + d) ≡ true
digit_is d low = and_from _ _ (le-leb 48 (48 + d) (omega arith)) (le-leb (48 + d) 57 (omega arith))

pub digits : (n : ℕ) → n < 10 ^ 64 → Has is_ascii_digit (decimal n)
digits =
    decimal_by_steps_wide (λ n ds. Has is_ascii_digit ds) (λ n small. and_from _ _ (digit_is n small) refl)
    (λ n ds high have. have_append is_ascii_digit ds ((48 + n % 10) ∷ []) have (and_from _ _ (digit_is (n % 10) (omega arith)) refl))

-- digits and commas
abbrev pub is_listed : ℕ → Bool
is_listed c = is_ascii_digit c || c == 44

-- what the words of an entry are made of: no space, no line feed, no semicolon
abbrev pub is_print : ℕ → Bool
is_print c = nat_le 44 c && not (c == 59)

-- what words are made of: no space, no line feed
abbrev pub is_inked : ℕ → Bool
is_inked c = nat_le 33 c

-- what lines are made of
abbrev pub is_lined : ℕ → Bool
is_lined c = nat_le 32 c

pub digit_listed : (c : ℕ) → is_ascii_digit c ≡ true → is_listed c ≡ true
digit_listed c h = rw h refl

pub listed_print : (c : ℕ) → is_listed c ≡ true → is_print c ≡ true
listed_print c h = by_test (is_ascii_digit c) refl h
  where
    digit_print : nat_le 48 c ≡ true → nat_le c 57 ≡ true → is_print c ≡ true
    digit_print low high =
        let a = leb-true 48 c low in
        let b = leb-true c 57 high in
        and_from _ _ (le-leb 44 c (omega (arith, a))) (ap not (false_from_ne_true (c == 59) (λ e. let is = eqb-true c 59 e in omega (arith, is, b))))

    parts : (a b : Bool) → (a && b) ≡ true → (a ≡ true) × (b ≡ true)
    parts true b h = (refl, h)
    parts false b h = absurd (cc)

    by_test : (b : Bool) → is_ascii_digit c ≡ b → (b || c == 44) ≡ true → is_print c ≡ true
    by_test true is h = let it = parts (nat_le 48 c) (nat_le c 57) is in digit_print it.0 it.1
    by_test false is h = let e = eqb-true c 44 h in rw e refl

print_inked : (c : ℕ) → is_print c ≡ true → is_inked c ≡ true
print_inked c h = by_test (nat_le 44 c) refl h
  where
    by_test : (b : Bool) → nat_le 44 c ≡ b → (b && not (c == 59)) ≡ true → is_inked c ≡ true
    by_test true is h = let a = leb-true 44 c is in le-leb 33 c (omega (arith, a))
    by_test false is h = absurd (cc)

inked_lined : (c : ℕ) → is_inked c ≡ true → is_lined c ≡ true
inked_lined c h = let a = leb-true 33 c h in le-leb 32 c (omega (arith, a))

pub all_inked : (words : List (List ℕ)) → AllHave is_print words → AllHave is_inked words
all_inked [] have = tt
all_inked (word ∷ words) have = (have_more is_print is_inked word print_inked have.0, all_inked words have.1)

pub listed_digits : (n : ℕ) → n < 10 ^ 64 → Has is_listed (decimal n)
listed_digits n low = have_more is_ascii_digit is_listed (decimal n) digit_listed (digits n low)

pub print_digits : (n : ℕ) → n < 10 ^ 64 → Has is_print (decimal n)
print_digits n low = have_more is_listed is_print (decimal n) listed_print (listed_digits n low)

-- numbers below 16, or of 32 bits
abbrev pub AllBelow : ℕ → List ℕ → Type 0
AllBelow most [] = Unit {0}
AllBelow most (n ∷ ns) = (n < most) × AllBelow most ns

pub digits_of_each : (ns : List ℕ) → AllBelow 16 ns → AllHave is_ascii_digit (map decimal ns)
digits_of_each [] low = tt
digits_of_each (n ∷ ns) low = let l = low.0 in (digits n (omega (arith, l)), digits_of_each ns low.1)

pub listed_commas : (ns : List ℕ) → AllBelow 16 ns → Has is_listed (commas ns)
listed_commas ns low = have_joined is_listed 44 (map decimal ns) refl (each ns low)
  where
    each : (ns : List ℕ) → AllBelow 16 ns → AllHave is_listed (map decimal ns)
    each [] low = tt
    each (n ∷ ns) low = let l = low.0 in (listed_digits n (omega (arith, l)), each ns low.1)

-- the digits of a value
pub print_value : (value : List ℕ) → IsBytes value → Has is_print (value_text value)
unfolding encode_with
print_value [] bytes = refl
print_value (b ∷ bs) bytes = each (b ∷ bs) bytes
  where
    one : (d : ℕ) → d < 16 → is_print (slice_index lower_digits d) ≡ true
    one d small = AllPass-from_list_all is_print lower_digits refl d 0 small

    each : (bytes : List ℕ) → IsBytes bytes → Has is_print (encode_lower bytes)
    each [] h = refl
    each (b ∷ bs) h =
        let small : b < 256 = h 0 in
        and_from _ _ (one (b / 16) (omega arith)) (and_from _ _ (one (b % 16) (omega arith)) (each bs (λ i. h (Rattle.std.proofs.Common.suc i))))

-- no word is the joint of a table
pub no_joint : (word : List ℕ) → Has is_print word → is_joint word ≡ false
no_joint [] have = refl
no_joint (c ∷ cs) have = false_from_ne_true (is_joint (c ∷ cs)) (λ h. let e = eqb-true c 59 (first (c == 59) _ h) in absurd (let f = print (is_print c) (list_all is_print cs) have in (let g : is_print 59 ≡ true = subst (λ (d : ℕ). is_print d ≡ true) e f in cc)))
  where
    first : (a b : Bool) → (a && b) ≡ true → a ≡ true
    first true b h = refl
    first false b h = absurd (cc)

    print : (a b : Bool) → (a && b) ≡ true → a ≡ true
    print true b h = refl
    print false b h = absurd (cc)

pub no_joints : (words : List (List ℕ)) → AllHave is_print words → AreFree is_joint words
no_joints [] have = tt
no_joints (word ∷ words) have = (no_joint word have.0, no_joints words have.1)

-- ---- lines

pub lines_next : (line rest : List ℕ) → AreFree (λ c. c == 10) line → lines_of (line ++ 10 ∷ rest) ≡ line ∷ lines_of rest
unfolding lines_of
lines_next [] rest free = refl
lines_next (c ∷ cs) rest free = rw free.0 (rw (lines_next cs rest free.1) refl)

-- a line of words that are joined by spaces
pub line_free : (words : List (List ℕ)) → AllHave is_inked words → AreFree (λ c. c == 10) (joined 32 words)
line_free words have = free_of is_lined 10 (joined 32 words) refl (have_joined is_lined 32 words refl (each words have))
  where
    each : (words : List (List ℕ)) → AllHave is_inked words → AllHave is_lined words
    each [] have = tt
    each (word ∷ words) have = (have_more is_inked is_lined word inked_lined have.0, each words have.1)

pub have_both : (p : ℕ → Bool) (xs ys : List (List ℕ)) → AllHave p xs → AllHave p ys → AllHave p (xs ++ ys)
have_both p [] ys h i = i
have_both p (x ∷ xs) ys h i = (h.0, have_both p xs ys h.1 i)

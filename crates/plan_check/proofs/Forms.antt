-- The forms of a result.
use Rattle.std.proofs.Common.{◌^◌, ◌≡◌, ℕ, zero, suc, ◌+◌, ◌-◌, ◌<◌, Bool, true, List, [], ◌∷◌, ◌++◌, length, take, drop, get_or, refl, sym, ap, ◌∙◌, subst, arith, append_assoc, length-append, codes, take_all, false, not, inl, inr, ◌==◌}
use Rattle.std.proofs.lemmas.Bool.{and_parts, eqb-true, eq-eqb}
use Rattle.std.proofs.lemmas.List.{take-append-drop, take_more, length-drop}
use Rattle.std.proofs.Math.Seq.{take-append_seam, drop-append_seam}
use Rattle.std.specs.Prelude.{Option, Some, None, Result, Ok, Err, ◌↔◌, IsTrue}
use Rattle.std.specs.List.{list_all}
use Rattle.std.specs.Char.{is_ascii_digit}
use Rattle.std.specs.Fmt.{decimal}
use Rattle.memchr.specs.Find.{IsFirstByte, is_byte}
use Rattle.span_base.specs.Number.{IsNumber}
use Rattle.bound_cert.specs.Reading.{IsFirstFault}
use Rattle.bound_cert.proofs.Numbers.{number_low, number_digits, decimal-number_of}
use Rattle.shelf_lines.specs.Lines.{fed}
use Rattle.plan_check.specs.declared.word.TreeWord.{TreeWord}
use Rattle.plan_check.specs.declared.word.TreeWord.TheVariants.{Node, Complete, Nothing, Budget}
use Rattle.plan_check.specs.declared.word.Unread.{Unread}
use Rattle.plan_check.specs.declared.word.Unread.TheVariants.{Syntax, NoMemory}
use Rattle.workload.specs.Modes.{word_of}
use Rattle.workload.specs.declared.rules.Mode.TheVariants.{Direct, Relay, Strong}
use Rattle.span_base.specs.Name.{is_name_byte, IsName}
use Rattle.plan_check.specs.Words.{IsPairOf, IsModeWord, IsCompleteForm, IsCutForm, IsBudgetForm, IsNumberIn, SaysComplete, SaysWord, SaysResult}

-- a number behind the words tells the cost
pub complete_says : (text digits : List ℕ) (r : Option ℕ) → text ≡ codes "result complete " ++ digits → IsNumberIn digits r → SaysComplete text r
complete_says text digits None is faulty = (λ form.
    let same : digits ≡ form.0 = cc (is, form.1) in
    faulty (subst IsNumber (sym same) form.2))
complete_says text digits (Some n) is numbered =
    let spelled : digits ≡ decimal n = sym (ap decimal numbered.1 ∙ decimal-number_of digits numbered.0) in
    (ap fed (is ∙ ap (λ (d : List ℕ). codes "result complete " ++ d) spelled), subst (λ (k : ℕ). k < 10 ^ 38) (sym numbered.1) (number_low digits numbered.0))

pub complete_not : (text : List ℕ) → ((rest : List ℕ) → ¬ (text ≡ codes "result complete " ++ rest)) → SaysComplete text None
complete_not text none = (λ form. none form.0 form.1)

-- what reading words of a line gives, past a line that is none of a tree
pub result_says : (text : List ℕ) (place : ℕ) (r : Result TreeWord Unread) → IsFirstFault text place → SaysResult text r → SaysWord text r
result_says text place (Ok (Node line)) fault says = absurd says
result_says text place (Ok (Complete cost)) fault says = says
result_says text place (Ok Nothing) fault says = says
result_says text place (Ok Budget) fault says = says
result_says text place (Err Syntax) fault says = record { place = place; not_node = fault; not_complete = says.0; not_none = says.1; not_budget = says.2 }
result_says text place (Err NoMemory) fault says = absurd says

-- no space stands in the text
abbrev pub IsSpaceless : List ℕ → Type 0
IsSpaceless text = (k : ℕ) → k < length text → ¬ (get_or text k 0 ≡ 32)

byte_at : (f : ℕ → Bool) (xs : List ℕ) (k : ℕ) → list_all f xs ≡ true → k < length xs → f (get_or xs k 0) ≡ true
byte_at f [] k all lt = absurd (omega arith)
byte_at f (x ∷ xs) zero all lt = (and_parts (f x) (list_all f xs) all).0
byte_at f (x ∷ xs) (suc k) all lt = byte_at f xs k (and_parts (f x) (list_all f xs) all).1 (omega arith)

-- neither where all bytes pass a test that a space doesn't
spaceless_by : (f : ℕ → Bool) (xs : List ℕ) → f 32 ≡ false → list_all f xs ≡ true → IsSpaceless xs
spaceless_by f xs fails all k lt is =
    let here : f (get_or xs k 0) ≡ true = byte_at f xs k all lt in
    let e : f 32 ≡ true = subst (λ (n : ℕ). f n ≡ true) is here in
    cc

pub number_spaceless : (xs : List ℕ) → IsNumber xs → IsSpaceless xs
number_spaceless xs number = spaceless_by is_ascii_digit xs refl (number_digits xs number).digits

pub name_spaceless : (xs : List ℕ) → IsName xs → IsSpaceless xs
name_spaceless xs name = spaceless_by is_name_byte xs refl (and_parts (list_all is_name_byte xs) _ name).0

abbrev other_byte : ℕ → Bool
other_byte c = not (c == 32)

pub mode_spaceless : (xs : List ℕ) → IsModeWord xs → IsSpaceless xs
mode_spaceless xs (inl is) = subst IsSpaceless (sym is) (spaceless_by other_byte (word_of Direct) refl refl)
mode_spaceless xs (inr (inl is)) = subst IsSpaceless (sym is) (spaceless_by other_byte (word_of Relay) refl refl)
mode_spaceless xs (inr (inr is)) = subst IsSpaceless (sym is) (spaceless_by other_byte (word_of Strong) refl refl)

-- the byte behind a front
byte_behind : (xs ys : List ℕ) (b : ℕ) → get_or (xs ++ (b ∷ []) ++ ys) (length xs) 0 ≡ b
byte_behind [] ys b = refl
byte_behind (x ∷ xs) ys b = byte_behind xs ys b

byte_in : (xs ys : List ℕ) (k : ℕ) → k < length xs → get_or (xs ++ ys) k 0 ≡ get_or xs k 0
byte_in [] ys k lt = absurd (omega arith)
byte_in (x ∷ xs) ys zero lt = refl
byte_in (x ∷ xs) ys (suc k) lt = byte_in xs ys k (omega arith)

longer : (xs ys : List ℕ) (b : ℕ) → length xs < length (xs ++ (b ∷ []) ++ ys)
longer [] ys b = omega arith
longer (x ∷ xs) ys b = omega (arith, longer xs ys b)

-- the first space of a pair is the one behind its first form
first_space : (text lines found : List ℕ) (at : ℕ) → text ≡ lines ++ codes " " ++ found → IsSpaceless lines
    → IsFirstByte (is_byte 32) text (Some at) → length lines ≡ at
first_space text lines found at is spaceless first =
    let there : get_or text (length lines) 0 ≡ 32 = ap (λ (t : List ℕ). get_or t (length lines) 0) is ∙ byte_behind lines found 32 in
    let not_before : ¬ (length lines < at) = (λ lt. first.0.before (length lines) (omega arith) lt (eq-eqb _ 32 there)) in
    let here : get_or text at 0 ≡ 32 = eqb-true (get_or text at 0) 32 first.1 in
    let not_behind : ¬ (at < length lines) = (λ lt.
    spaceless at lt (sym (ap (λ (t : List ℕ). get_or t at 0) is ∙ ap (λ (t : List ℕ). get_or t at 0) (append_assoc lines (codes " ") found) ∙ byte_in lines (codes " " ++ found) at lt) ∙ here)) in
    same_size (length lines) at not_before not_behind
  where
    same_size : (a b : ℕ) → ¬ (a < b) → ¬ (b < a) → a ≡ b
    same_size zero zero p q = refl
    same_size zero (suc b) p q = absurd (p (omega arith))
    same_size (suc a) zero p q = absurd (q (omega arith))
    same_size (suc a) (suc b) p q = ap suc (same_size a b (λ h. p (omega arith)) (λ h. q (omega arith)))

-- a text is split at its first space
pub cut_there : (text : List ℕ) (at : ℕ) → IsFirstByte (is_byte 32) text (Some at) → text ≡ take at text ++ codes " " ++ drop (at + 1) text
cut_there text at first =
    let high : at < length text = first.0.high in
    let here : get_or text at 0 ≡ 32 = eqb-true (get_or text at 0) 32 first.1 in
    sym (take-append-drop (at + 1) text) ∙ ap (λ (t : List ℕ). t ++ drop (at + 1) text) (take_more text at 0 high ∙ ap (λ (b : ℕ). take at text ++ b ∷ []) here)

-- the rest as the code slices it
rest_is : (text : List ℕ) (n : ℕ) → take (length text - n) (drop n text) ≡ drop n text
rest_is text n = take_all _ _ (omega (arith, length-drop n text))

pub pair_form : (P Q : List ℕ → Type 0) (text : List ℕ) (at : ℕ) → ((xs : List ℕ) → P xs → IsSpaceless xs) → IsFirstByte (is_byte 32) text (Some at) → IsPairOf P Q text
    → P (take at text) × Q (drop (at + 1) text)
pair_form P Q text at spaceless first form =
    let size : length form.0 ≡ at = first_space text form.0 form.1 at form.2 (spaceless form.0 form.3) first in
    let front : take at text ≡ form.0 =
    ap (λ (n : ℕ). take n text) (sym size) ∙ ap (take (length form.0)) (form.2 ∙ append_assoc form.0 (codes " ") form.1) ∙ take-append_seam form.0 (codes " " ++ form.1) in
    let size_more : length (form.0 ++ codes " ") ≡ at + 1 = length-append form.0 (codes " ") ∙ ap (λ (n : ℕ). n + 1) size in
    let rest : drop (at + 1) text ≡ form.1 =
    ap (λ (n : ℕ). drop n text) (sym size_more) ∙ ap (drop (length (form.0 ++ codes " "))) form.2 ∙ drop-append_seam (form.0 ++ codes " ") form.1 in
    (subst P (sym front) form.3, subst Q (sym rest) form.4)

pub pair_nowhere : (P Q : List ℕ → Type 0) (text : List ℕ) → IsFirstByte (is_byte 32) text None → ¬ IsPairOf P Q text
pair_nowhere P Q text none form =
    let there : get_or text (length form.0) 0 ≡ 32 = ap (λ (t : List ℕ). get_or t (length form.0) 0) form.2 ∙ byte_behind form.0 form.1 32 in
    let inside : length form.0 < length text = subst (λ (t : List ℕ). length form.0 < length t) (sym form.2) (longer form.0 form.1 32) in
    none (length form.0) (omega arith) inside (eq-eqb _ 32 there)

-- a text with a space is a pair exactly where both its tests pass; the second text as the code slices it
pub pair_tests : (P Q : List ℕ → Type 0) (a b : Bool) (text : List ℕ) (at : ℕ) → ((xs : List ℕ) → P xs → IsSpaceless xs) → IsFirstByte (is_byte 32) text (Some at)
    → (IsTrue a ↔ P (take at text)) → (IsTrue b ↔ Q (take (length text - (at + 1)) (drop (at + 1) text)))
    → (IsTrue a → IsTrue b → IsPairOf P Q text) × (IsPairOf P Q text → IsTrue a × IsTrue b)
pair_tests P Q a b text at spaceless first one two = (
  (λ x y. (take at text, drop (at + 1) text, cut_there text at first, one.0 x, subst Q (rest_is text (at + 1)) (two.0 y))),
  (λ form. let parts = pair_form P Q text at spaceless first form in (one.1 parts.0, two.1 (subst Q (sym (rest_is text (at + 1))) parts.1))),
)

-- what is behind the words decides
pub budget_says : (text rest : List ℕ) (b : Bool) → text ≡ codes "result budget " ++ rest → (IsTrue b ↔ IsCutForm rest) → IsTrue b ↔ IsBudgetForm text
budget_says text rest b is cut = (
  (λ h. (rest, is, cut.0 h)),
  (λ form. let same : rest ≡ form.0 = cc (is, form.1) in cut.1 (subst IsCutForm (sym same) form.2)),
)

-- where no cost is told the line is none of a whole search
pub complete_none : (text : List ℕ) (r : Option ℕ) → SaysComplete text r → ((cost : ℕ) → ¬ (r ≡ Some cost)) → ¬ IsCompleteForm text
complete_none text None says not_some = says
complete_none text (Some cost) says not_some = absurd (not_some cost refl)

-- texts with the same byte behind them
pub same_front : (a b : List ℕ) (x y : ℕ) → a ++ x ∷ [] ≡ b ++ y ∷ [] → a ≡ b
same_front [] [] x y e = refl
same_front [] (b ∷ []) x y e = absurd (cc)
same_front [] (b ∷ c ∷ bs) x y e = absurd (cc)
same_front (a ∷ []) [] x y e = absurd (cc)
same_front (a ∷ c ∷ xs) [] x y e = absurd (cc)
same_front (a ∷ xs) (b ∷ ys) x y e =
    let head : a ≡ b = cc in
    let rest : xs ++ x ∷ [] ≡ ys ++ y ∷ [] = cc in
    let tails : xs ≡ ys = same_front xs ys x y rest in
    cc

-- The first line of a text.
use Rattle.std.proofs.Common.{◌≡◌, ℕ, ◌-◌, ◌<◌, ◌==◌, Bor, take, drop, Bool, true, false, cond, List, [], ◌∷◌, length, Option, Some, None, refl, sym, ap, ◌∙◌, arith}
use Rattle.std.specs.Prelude.{option_map, is_some, IfSome}
use Rattle.history_audit.specs.Words.{cut}
use Rattle.history_audit.specs.Texts.{led_by, lines_of, LinesAre}

abbrev one_more : ℕ → Option (List ℕ × List ℕ) → Option (List ℕ × List ℕ)
one_more c parts = option_map {T = List ℕ × List ℕ} {U = List ℕ × List ℕ} (λ p. (c ∷ p.0, p.1)) parts

-- what was cut from a longer text was cut from the shorter one
one_less : (c : ℕ) (parts : Option (List ℕ × List ℕ)) (line rest : List ℕ) → one_more c parts ≡ Some (line, rest)
    → (front : List ℕ) × (parts ≡ Some (front, rest)) × (line ≡ c ∷ front)
one_less c None line rest h = absurd (cc)
one_less c (Some parts) line rest h = grind arith

none_less : (c : ℕ) (parts : Option (List ℕ × List ℕ)) → one_more c parts ≡ None → parts ≡ None
none_less c None h = refl
none_less c (Some parts) h = absurd (cc)

-- a text with a line feed begins with the line before it
pub lines_cut : (text line rest : List ℕ) → cut 10 text ≡ Some (line, rest) → lines_of text ≡ line ∷ lines_of rest
unfolding cut lines_of
lines_cut [] line rest h = absurd (cc)
lines_cut (c ∷ cs) line rest h = by_test (c == 10) (λ front is. lines_cut cs front rest is) h
  where
    by_test : (b : Bool) → ((front : List ℕ) → cut 10 cs ≡ Some (front, rest) → lines_of cs ≡ front ∷ lines_of rest)
        → cond {A = Option (List ℕ × List ℕ)} b (Some ([], cs)) (one_more c (cut 10 cs)) ≡ Some (line, rest)
        → cond {A = List (List ℕ)} b ([] ∷ lines_of cs) (led_by c (lines_of cs)) ≡ line ∷ lines_of rest
    by_test true on is = grind arith
    by_test false on is = let it = one_less c (cut 10 cs) line rest is in rw (on it.0 it.1) (ap (λ (l : List ℕ). l ∷ lines_of rest) (sym it.2))

-- a text without one is one line
pub lines_uncut : (c : ℕ) (cs : List ℕ) → cut 10 (c ∷ cs) ≡ None → lines_of (c ∷ cs) ≡ (c ∷ cs) ∷ []
unfolding cut lines_of
lines_uncut c [] h = by_test (c == 10) h
  where
    by_test : (b : Bool) → cond {A = Option (List ℕ × List ℕ)} b (Some ([], [])) None ≡ None → cond {A = List (List ℕ)} b ([] ∷ []) ((c ∷ []) ∷ []) ≡ (c ∷ []) ∷ []
    by_test true is = absurd (cc)
    by_test false is = refl
lines_uncut c (d ∷ ds) h = by_test (c == 10) (λ none. lines_uncut d ds none) h
  where
    by_test : (b : Bool) → (cut 10 (d ∷ ds) ≡ None → lines_of (d ∷ ds) ≡ (d ∷ ds) ∷ []) → cond {A = Option (List ℕ × List ℕ)} b (Some ([], d ∷ ds)) (one_more c (cut 10 (d ∷ ds))) ≡ None
        → cond {A = List (List ℕ)} b ([] ∷ lines_of (d ∷ ds)) (led_by c (lines_of (d ∷ ds))) ≡ (c ∷ d ∷ ds) ∷ []
    by_test true on is = absurd (cc)
    by_test false on is = let e = on (none_less c (cut 10 (d ∷ ds)) is) in ap (led_by c) e

-- what is left after a cut is shorter
pub cut_shorter : (byte : ℕ) (text line rest : List ℕ) → cut byte text ≡ Some (line, rest) → length rest < length text
unfolding cut
cut_shorter byte [] line rest h = absurd (cc)
cut_shorter byte (c ∷ cs) line rest h = by_test (c == byte) (λ front is. cut_shorter byte cs front rest is) h
  where
    by_test : (b : Bool) → ((front : List ℕ) → cut byte cs ≡ Some (front, rest) → length rest < length cs)
        → cond {A = Option (List ℕ × List ℕ)} b (Some ([], cs)) (one_more c (cut byte cs)) ≡ Some (line, rest) → length rest < length (c ∷ cs)
    by_test true on is = grind arith
    by_test false on is = let it = one_less c (cut byte cs) line rest is in let low = on it.0 it.1 in omega arith

abbrev pub texts : Option (Bor (List ℕ) × Bor (List ℕ)) → Option (List ℕ × List ℕ)
texts found = option_map (λ parts. (parts.0.now, parts.1.now)) found

pub lines_found : (text : List ℕ) (found : Option (Bor (List ℕ) × Bor (List ℕ))) → texts found ≡ cut 10 text → true ≡ is_some found → LinesAre (lines_of text) (texts found)
lines_found text None is some = absurd (cc)
lines_found text (Some parts) is some = lines_cut text parts.0.now parts.1.now (sym is)

pub shorter_found : (text : List ℕ) (found : Option (Bor (List ℕ) × Bor (List ℕ))) → texts found ≡ cut 10 text → IfSome found (λ parts. length parts.1.now < length text)
shorter_found text None is = tt
shorter_found text (Some parts) is = cut_shorter 10 text parts.0.now parts.1.now (sym is)

none_found : (found : Option (Bor (List ℕ) × Bor (List ℕ))) → is_some found ≡ false → texts found ≡ None
none_found None h = refl
none_found (Some parts) h = absurd (cc)

-- where nothing was found the text is one line, and nothing is left
pub lines_left : (text : List ℕ) (found : Option (Bor (List ℕ) × Bor (List ℕ))) → false ≡ (length text == 0) → texts found ≡ cut 10 text → false ≡ is_some found → lines_of text ≡ text ∷ []
lines_left [] found some is none = absurd (cc)
lines_left (c ∷ cs) found some is none = lines_uncut c cs (sym is ∙ none_found found (sym none))

pub nothing_left : (text : List ℕ) → lines_of (take (length text - length text) (drop (length text) text)) ≡ []
unfolding lines_of
nothing_left text = let e : length text - length text ≡ 0 = omega arith in rw e refl

pub no_lines : (text : List ℕ) → true ≡ (length text == 0) → lines_of text ≡ []
unfolding lines_of
no_lines [] h = refl
no_lines (c ∷ cs) h = absurd (grind arith)

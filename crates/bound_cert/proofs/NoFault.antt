-- A text of a line whose numbers are in range has no fault.
use Rattle.std.proofs.Common.{◌≡◌, ℕ, ◌+◌, ◌-◌, ◌^◌, ◌<◌, ◌≤◌, ◌⊎◌, inl, inr, List, [], ◌∷◌, ◌++◌, length, slice_index, take, drop, refl, sym, ap, ◌∙◌, subst, arith, append_assoc, length-append, codes, All}
use Rattle.std.proofs.lemmas.List.{append-nil, take_at, drop-drop, length-drop, get_or-drop}
use Rattle.std.proofs.lemmas.List.Elements.{All-nil, All-head, All-tail}
use Rattle.std.proofs.Math.Seq.{drop-append_seam}
use Rattle.std.specs.Fmt.{decimal}
use Rattle.span_base.specs.Number.{IsNumber, number_of}
use Rattle.span_base.specs.Grammar.{BreaksAt}
use Rattle.span_base.proofs.Spelling.{decimal_reads}
use Rattle.bound_cert.specs.declared.leaves.Pair.{Pair}
use Rattle.bound_cert.specs.declared.leaves.Line.{Line}
use Rattle.bound_cert.specs.declared.leaves.Line.TheVariants.{Branch, Close}
use Rattle.bound_cert.specs.Text.{pairs_text, line_text}
use Rattle.bound_cert.specs.Reading.{IsSpellablePair, IsSpellable, IsWithinRanges, IsLineShape, IsTooLargeAt, IsFirstFault}
use Rattle.bound_cert.specs.Laws.{LinesHaveNoFault}
use Rattle.bound_cert.proofs.Numbers.{HasDigits, number_digits}
use Rattle.bound_cert.proofs.Fronts.{Role, Front, var, scale, row, mult, number}
use Rattle.bound_cert.proofs.Places.{leaf_of, leaf_text, leaf_text_push, push_good, front_text, IsGood}
use Rattle.bound_cert.proofs.Faults.{Stands, IsLarge, IsLimit, stands_behind, stands_next, LargeFrom, too_large_from}
use Rattle.bound_cert.proofs.Lines.{branch_begins, leaf_begins}

-- the text goes on so from the place
record GoesOn (text : List ℕ) (place : ℕ) (f : Front) (rest : List ℕ) : Type 0 where
  pub stands : Stands text place f
  pub rest_is : drop place text ≡ rest

over_number : (text : List ℕ) (place : ℕ) (role : Role) (limit n : ℕ) (rest : List ℕ) → GoesOn text place (number role []) (decimal n ++ rest) → IsLimit role limit → n < 10 ^ 38 → n ≤ limit → GoesOn text (place + length (decimal n)) (number role (decimal n)) rest
over_number text place role limit n rest here is low within =
    let d : IsNumber (decimal n) × (number_of (decimal n) ≡ n) = decimal_reads n low in
    let digits : HasDigits (decimal n) = number_digits (decimal n) d.0 in
    let count : ℕ = length (decimal n) in
    let front : take count (drop place text) ≡ decimal n = ap (take count) here.rest_is ∙ take_at (decimal n) rest count refl in
    let long : length (drop place text) ≡ length (decimal n ++ rest) = ap length here.rest_is in
    let behind : Stands text (place + count) (number role (take count (drop place text))) =
    stands_behind text place role limit count here.stands is (omega (arith, length-append (decimal n) rest)) digits.some (subst IsNumber (sym front) d.0) (rw front (omega (arith, d.1))) in
    record {
      stands = subst (λ ds. Stands text (place + count) (number role ds)) front behind;
      rest_is = sym (drop-drop count place text) ∙ ap (drop count) here.rest_is ∙ drop-append_seam (decimal n) rest;
    }

over_byte : (text : List ℕ) (place : ℕ) (f g : Front) (c : ℕ) (rest : List ℕ) → GoesOn text place f (c ∷ rest) → IsGood g → front_text g ≡ front_text f ++ c ∷ [] → ¬ IsLarge g → GoesOn text (place + 1) g rest
over_byte text place f g c rest here good longer small =
    let long : length (drop place text) ≡ length (c ∷ rest) = ap length here.rest_is in
    let left : length (drop place text) ≡ length text - place = length-drop place text in
    let byte : slice_index text place ≡ c = ap (slice_index text) (place_is place) ∙ sym (get_or-drop place text 0 0) ∙ ap (λ t. slice_index t 0) here.rest_is in
    record {
      stands = stands_next text place f g here.stands (omega arith) good (longer ∙ ap (λ b. front_text f ++ b ∷ []) (sym byte)) small;
      rest_is = sym (drop-drop 1 place text) ∙ ap (drop 1) here.rest_is;
    }
  where
    place_is : (k : ℕ) → k ≡ k + 0
    place_is k = omega arith

-- the text is read to its end
record IsReadWhole (text : List ℕ) : Type 0 where
  pub place : ℕ
  pub state : Front
  pub whole : GoesOn text place state []

over_pairs : (text : List ℕ) (place s : ℕ) (done todo : List Pair) (f : Front) → GoesOn text place f (pairs_text todo) → front_text f ≡ leaf_text s done → IsSpellable (Close (leaf_of s done)) → All IsSpellablePair todo → All (λ pair. pair.row ≤ 65535) todo → IsReadWhole text
over_pairs text place s done [] f here front good low small = record { place = place; state = f; whole = here }
over_pairs text place s done (pair ∷ todo) f here front good low small =
    let spelled : IsSpellablePair pair = All-head IsSpellablePair pair todo low in
    let r : ℕ = pair.row in
    let m : ℕ = pair.mult in
    let first : GoesOn text place f (32 ∷ (decimal r ++ (58 ∷ (decimal m ++ pairs_text todo)))) = record { stands = here.stands; rest_is = here.rest_is ∙ regroup (decimal r) (decimal m) (pairs_text todo) } in
    let at_row : GoesOn text (place + 1) (number (row s done) []) (decimal r ++ (58 ∷ (decimal m ++ pairs_text todo))) =
    over_byte text place f (number (row s done) []) 32 (decimal r ++ (58 ∷ (decimal m ++ pairs_text todo))) first (good, inl refl)
    (append-nil (leaf_text s done ++ codes " ") ∙ ap (λ t. t ++ codes " ") (sym front)) (λ h. omega arith) in
    let row_read : GoesOn text (place + 1 + length (decimal r)) (number (row s done) (decimal r)) (58 ∷ (decimal m ++ pairs_text todo)) =
    over_number text (place + 1) (row s done) 65535 r (58 ∷ (decimal m ++ pairs_text todo)) at_row refl spelled.0 (All-head (λ p. p.row ≤ 65535) pair todo small) in
    let at_mult : GoesOn text (place + 1 + length (decimal r) + 1) (number (mult s done r) []) (decimal m ++ pairs_text todo) =
    over_byte text (place + 1 + length (decimal r)) (number (row s done) (decimal r)) (number (mult s done r) []) 58 (decimal m ++ pairs_text todo) row_read ((good, spelled.0), inl refl)
    (append-nil ((leaf_text s done ++ codes " ") ++ (decimal r ++ codes ":")) ∙ sym (append_assoc (leaf_text s done ++ codes " ") (decimal r) (codes ":"))) (λ h. h) in
    let mult_read : GoesOn text (place + 1 + length (decimal r) + 1 + length (decimal m)) (number (mult s done r) (decimal m)) (pairs_text todo) =
    over_number text (place + 1 + length (decimal r) + 1) (mult s done r) (10 ^ 38) m (pairs_text todo) at_mult (omega arith) spelled.1 (let short : m < 10 ^ 38 = spelled.1 in omega arith) in
    over_pairs text (place + 1 + length (decimal r) + 1 + length (decimal m)) s (done ++ pair ∷ []) todo (number (mult s done r) (decimal m)) mult_read
    (sym (leaf_text_push s done r m)) (push_good s done r m good spelled.0 spelled.1) (All-tail IsSpellablePair pair todo low) (All-tail (λ p. p.row ≤ 65535) pair todo small)
  where
    regroup : (a b c : List ℕ) → (((codes " " ++ a) ++ codes ":") ++ b) ++ c ≡ 32 ∷ (a ++ (58 ∷ (b ++ c)))
    regroup a b c = simp append_assoc

-- a text of a line that is read to its end has no fault
whole_sound : (text : List ℕ) → IsReadWhole text → IsLineShape text → (place : ℕ) → ¬ IsFirstFault text place
whole_sound text read shape place fault = by fault.found
  where
    by : BreaksAt IsLineShape text place ⊎ IsTooLargeAt text place → ⊥
    by (inl broken) = broken.faulty shape
    by (inr large) =
        let whole : GoesOn text read.place read.state [] = read.whole in
        let stands : Stands text read.place read.state = whole.stands in
        let none : length (drop read.place text) ≡ 0 = ap length whole.rest_is in
        let left : length (drop read.place text) ≡ length text - read.place = length-drop read.place text in
        let from : LargeFrom text place = too_large_from text place large in
        let within : place + from.count ≤ length text = from.within in
        stands.fits (place + from.count) (omega arith) from.large

read_whole : (line : Line) → IsSpellable line → IsWithinRanges line → IsReadWhole (line_text line)
read_whole (Branch v) low small =
    let text : List ℕ = line_text (Branch v) in
    let first : GoesOn text 2 (number var []) (decimal v ++ []) = record { stands = branch_begins text refl; rest_is = sym (append-nil (decimal v)) } in
    record { place = 2 + length (decimal v); state = number var (decimal v); whole = over_number text 2 var 65535 v [] first refl low small }
read_whole (Close end) low small =
    let text : List ℕ = line_text (Close end) in
    let first : GoesOn text 2 (number scale []) (decimal end.s ++ pairs_text end.pairs) = record { stands = leaf_begins text refl; rest_is = refl } in
    let s_read : GoesOn text (2 + length (decimal end.s)) (number scale (decimal end.s)) (pairs_text end.pairs) =
    over_number text 2 scale 4294967295 end.s (pairs_text end.pairs) first refl low.0 small.0 in
    over_pairs text (2 + length (decimal end.s)) end.s [] end.pairs (number scale (decimal end.s)) s_read (sym (append-nil (codes "l " ++ decimal end.s))) (low.0, All-nil IsSpellablePair) low.1 small.1

pub no_fault : LinesHaveNoFault
no_fault line low small place fault = whole_sound (line_text line) (read_whole line low small) (line, low, refl) place fault

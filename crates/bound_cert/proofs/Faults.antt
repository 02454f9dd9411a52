-- Where a text stops to be the front of a line, or holds a number past its limit.
use Rattle.std.proofs.Common.{◌≡◌, ◌≢◌, ℕ, zero, suc, ◌+◌, ◌-◌, ◌^◌, ◌<◌, ◌≤◌, ◌⊎◌, inl, inr, true, false, List, [], ◌∷◌, ◌++◌, length, slice_index, take, drop, refl, sym, ap, ◌∙◌, subst, arith, codes}
use Rattle.std.proofs.lemmas.List.{append-nil, take-append-drop, take_all, take-take, drop-take, take_more, length-take-le, length-drop}
use Rattle.std.proofs.lemmas.Bool.{cases_lt, false_from_ne_true}
use Rattle.std.proofs.lemmas.Str.Parse.{digits_value-take-le}
use Rattle.span_base.specs.Number.{IsNumber, number_of}
use Rattle.span_base.specs.Grammar.{CanGoOn, BreaksAt}
use Rattle.span_base.proofs.Breaks.{breaks_inside, breaks_at_end, earlier}
use Rattle.bound_cert.specs.declared.leaves.Line.{Line}
use Rattle.bound_cert.specs.Text.{line_text}
use Rattle.bound_cert.specs.Reading.{IsSpellable, IsLineShape, BeginsAbove, IsTooLargeAt, IsFirstFault}
use Rattle.bound_cert.proofs.Numbers.{HasDigits, number_digits, number_front, number_low}
use Rattle.bound_cert.proofs.Fronts.{Role, Front, var, scale, row, mult, start, began_branch, began_leaf, number, stuck, step, step_none, run, run_append, run_stuck, is_end, line_ends}
use Rattle.bound_cert.proofs.Places.{role_text, leaf_of, leaf_text, front_text, IsGoodRole, IsGood, reaches, reaches_number, goes_on}

-- the number is past the limit of its role; a multiplier has none
abbrev pub IsPast : Role → ℕ → Type 0
IsPast var n = 65535 < n
IsPast scale n = 4294967295 < n
IsPast (row s pairs) n = 65535 < n
IsPast (mult s pairs r) n = ⊥

-- the state is one of a number past its limit
abbrev pub IsLarge : Front → Type 0
IsLarge start = ⊥
IsLarge began_branch = ⊥
IsLarge began_leaf = ⊥
IsLarge (number role ds) = IsPast role (number_of ds)
IsLarge stuck = ⊥

-- the text before the place is this front of a line, and no number in it is past its limit
pub record Stands (text : List ℕ) (place : ℕ) (f : Front) : Type 0 where
  pub good : IsGood f
  pub text_is : front_text f ≡ take place text
  pub within : place ≤ length text
  pub fits : (k : ℕ) → k ≤ place → ¬ IsLarge (run start (take k text))

pub stands_run : (text : List ℕ) (place : ℕ) (f : Front) → Stands text place f → run start (take place text) ≡ f
stands_run text place f here = ap (run start) (sym here.text_is) ∙ reaches f here.good

pub take_split : (a b : ℕ) (text : List ℕ) → take (a + b) text ≡ take a text ++ take b (drop a text)
take_split a b text =
    let first : take a (take (a + b) text) ≡ take a text = take-take a (a + b) text (omega arith) in
    let second : drop a (take (a + b) text) ≡ take b (drop a text) = drop-take a b text in
    sym (take-append-drop a (take (a + b) text)) ∙ (λ i. first i ++ second i)

-- inside a number each byte leads to the digits so far
pub run_inside : (text : List ℕ) (place : ℕ) (role : Role) → IsGoodRole role → role_text role ≡ take place text → (count : ℕ) → count ≤ length (drop place text) → IsNumber (take count (drop place text)) → (j : ℕ) → 0 < j → j ≤ count → run start (take (place + j) text) ≡ number role (take j (drop place text))
run_inside text place role good before count within h j low high =
    let rest : List ℕ = drop place text in
    let digits : List ℕ = take j rest in
    let long : length digits ≡ j = length-take-le j rest (omega arith) in
    let whole : digits ++ drop j (take count rest) ≡ take count rest =
    ap (λ t. t ++ drop j (take count rest)) (sym (take-take j count rest high)) ∙ take-append-drop j (take count rest) in
    let front : IsNumber digits = number_front digits (drop j (take count rest)) (omega arith) (subst IsNumber (sym whole) h) in
    ap (run start) (take_split place j text ∙ ap (λ t. t ++ digits) (sym before)) ∙ reaches_number role digits good front

-- from the place on the text leads to a number past its limit
pub record LargeFrom (text : List ℕ) (place : ℕ) : Type 0 where
  pub count : ℕ
  pub some : 0 < count
  pub within : place + count ≤ length text
  pub large : IsLarge (run start (take (place + count) text))
  pub begun : (j : ℕ) → 0 < j → j ≤ count → (role : Role) → run start (take (place + j) text) ≢ number role []

large_from : (text : List ℕ) (place : ℕ) (role : Role) (limit : ℕ) → IsGoodRole role → role_text role ≡ take place text → ((n : ℕ) → limit < n → IsPast role n) → BeginsAbove limit (drop place text) → LargeFrom text place
large_from text place role limit good before past h =
    let rest : List ℕ = drop place text in
    let count : ℕ = h.0 in
    let within : count ≤ length rest = h.1 in
    let d : HasDigits (take count rest) = number_digits (take count rest) h.2 in
    let long : length (take count rest) ≡ count = length-take-le count rest within in
    let some : 0 < length (take count rest) = d.some in
    let left : length rest ≡ length text - place = length-drop place text in
    let inside : (j : ℕ) → 0 < j → j ≤ count → run start (take (place + j) text) ≡ number role (take j rest) =
    run_inside text place role good before count within h.2 in
    record {
      count = count;
      some = omega arith;
      within = omega arith;
      large = subst IsLarge (sym (inside count (omega arith) (omega arith))) (past (number_of (take count rest)) h.3);
      begun = λ j low high role' e.
          let none : take j rest ≡ [] = digits_of role role' (take j rest) [] (sym (inside j low high) ∙ e) in
          let short : length (take j rest) ≡ 0 = ap length none in
          let full : length (take j rest) ≡ j = length-take-le j rest (omega arith) in
          omega arith;
    }
  where
    digits_of : (a b : Role) (xs ys : List ℕ) → number a xs ≡ number b ys → xs ≡ ys
    digits_of a b xs ys e = cc

pub too_large_from : (text : List ℕ) (place : ℕ) → IsTooLargeAt text place → LargeFrom text place
too_large_from text place (inl h) = large_from text place var 65535 tt (sym h.0) (λ n above. above) h.1
too_large_from text place (inr (inl h)) = large_from text place scale 4294967295 tt (sym h.0) (λ n above. above) h.1
too_large_from text place (inr (inr h)) = large_from text place (row h.0.0.s h.0.0.pairs) 65535 h.0.1 h.0.2 (λ n above. above) h.1

can_go : (text : List ℕ) (place : ℕ) (f : Front) → Stands text place f → CanGoOn IsLineShape (take place text)
can_go text place f here = subst (CanGoOn IsLineShape) here.text_is (goes_on f here.good)

at_most : (a b : ℕ) → (a < b → ⊥) → b ≤ a
at_most a b never = omega arith

-- a fault where no number before is past its limit, be it only read in part, is the first
first_fault : (text : List ℕ) (place : ℕ) (f : Front) → Stands text place f → BreaksAt IsLineShape text place ⊎ IsTooLargeAt text place → ((before : ℕ) (large : LargeFrom text before) → before < place → place < before + large.count → ⊥) → IsFirstFault text place
first_fault text place f here found stop = record {
  found = found;
  first = λ before low. (
    λ broken. broken.there (let within : place ≤ length text = here.within in omega arith)
        (earlier IsLineShape text before place (omega arith) (can_go text place f here)),
    λ large. none before low (too_large_from text before large),
  );
}
  where
    none : (before : ℕ) → before < place → LargeFrom text before → ⊥
    none before low large =
        here.fits (before + large.count) (at_most place (before + large.count) (λ beyond. stop before large low beyond)) large.large

-- a byte without a step leaves no way on
run_over : (text : List ℕ) (place : ℕ) (f : Front) → Stands text place f → place < length text → step f (slice_index text place) ≡ stuck → run start (take (place + 1) text) ≡ stuck
run_over text place f here inside none =
    ap (run start) (take_more text place 0 inside)
    ∙ run_append start (take place text) (slice_index text place ∷ [])
    ∙ ap (λ g. step g (slice_index text place)) (stands_run text place f here)
    ∙ none

run_beyond : (text : List ℕ) (place far : ℕ) → place ≤ far → run start (take place text) ≡ stuck → run start (take far text) ≡ stuck
run_beyond text place far low none =
    let far_is : far ≡ place + (far - place) = omega arith in
    ap (λ k. run start (take k text)) far_is
    ∙ ap (run start) (take_split place (far - place) text)
    ∙ run_append start (take place text) (take (far - place) (drop place text))
    ∙ ap (λ g. run g (take (far - place) (drop place text))) none
    ∙ run_stuck (take (far - place) (drop place text))

no_line : (front : List ℕ) → run start front ≡ stuck → ¬ CanGoOn IsLineShape front
no_line front none more =
    let line : Line = more.1.0 in
    let end : is_end (run start (line_text line)) ≡ true = line_ends line more.1.1 in
    let leads : run start (line_text line) ≡ stuck =
    ap (run start) more.1.2 ∙ run_append start front more.0 ∙ ap (λ g. run g more.0) none ∙ run_stuck more.0 in
    let no_end : is_end (run start (line_text line)) ≡ false = ap is_end leads in
    cc

stops_inside : (text : List ℕ) (place : ℕ) (f : Front) → Stands text place f → place < length text → step f (slice_index text place) ≡ stuck → IsFirstFault text place
stops_inside text place f here inside none =
    let over : run start (take (place + 1) text) ≡ stuck = run_over text place f here inside none in
    first_fault text place f here
    (inl (breaks_inside IsLineShape text place inside (can_go text place f here) (no_line (take (place + 1) text) over)))
    (λ before large low beyond. subst IsLarge (run_beyond text (place + 1) (before + large.count) (omega arith) over) large.large)

stops_at_end : (text : List ℕ) (place : ℕ) (f : Front) → Stands text place f → place ≡ length text → is_end f ≡ false → IsFirstFault text place
stops_at_end text place f here last none =
    let all : take place text ≡ text = take_all place text (omega arith) in
    let leads : run start text ≡ f = ap (run start) (sym all) ∙ stands_run text place f here in
    let faulty : ¬ IsLineShape text = λ h. no_end h.0 h.1 h.2 leads in
    first_fault text place f here
    (inl (subst (BreaksAt IsLineShape text) (sym last) (breaks_at_end IsLineShape text faulty (subst (CanGoOn IsLineShape) all (can_go text place f here)))))
    (λ before large low beyond. let within : before + large.count ≤ length text = large.within in omega arith)
  where
    no_end : (line : Line) → IsSpellable line → line_text line ≡ text → run start text ≡ f → ⊥
    no_end line low same leads =
        let end : is_end (run start (line_text line)) ≡ true = line_ends line low in
        let is : is_end (run start (line_text line)) ≡ is_end f = ap is_end (ap (run start) same ∙ leads) in
        cc

-- where no byte leads on, or the text ends where no line does
pub stops : (text : List ℕ) (place : ℕ) (f : Front) → Stands text place f → (place < length text → step f (slice_index text place) ≡ stuck) → (place ≡ length text → is_end f ≡ false) → IsFirstFault text place
stops text place f here none last =
    elim (cases_lt place (length text)) [
      | inl inside ↦ stops_inside text place f here inside (none inside)
      | inr past ↦ (
          let within : place ≤ length text = here.within in
          let end : place ≡ length text = omega arith in
          stops_at_end text place f here end (last end))
    ]

-- a limit of the role: what is past the role's limit is above it, and a number that isn't above it is not past the role's
abbrev pub IsLimit : Role → ℕ → Type 0
IsLimit var limit = limit ≡ 65535
IsLimit scale limit = limit ≡ 4294967295
IsLimit (row s pairs) limit = limit ≡ 65535
IsLimit (mult s pairs r) limit = 10 ^ 38 ≤ limit

past_limit : (role : Role) (limit n : ℕ) → IsLimit role limit → n ≤ limit → ¬ IsPast role n
past_limit var limit n is low past = omega arith
past_limit scale limit n is low past = omega arith
past_limit (row s pairs) limit n is low past = omega arith
past_limit (mult s pairs r) limit n is low past = past

above_limit : (text : List ℕ) (place : ℕ) (role : Role) (limit : ℕ) → Stands text place (number role []) → IsLimit role limit → BeginsAbove limit (drop place text) → IsTooLargeAt text place
above_limit text place var limit here is h = inl (sym here.text_is, subst (λ (n : ℕ). BeginsAbove n (drop place text)) is h)
above_limit text place scale limit here is h = inr (inl (sym here.text_is, subst (λ (n : ℕ). BeginsAbove n (drop place text)) is h))
above_limit text place (row s pairs) limit here is h =
    inr (inr ((leaf_of s pairs, here.good.0, sym (append-nil (leaf_text s pairs ++ codes " ")) ∙ here.text_is), subst (λ (n : ℕ). BeginsAbove n (drop place text)) is h))
above_limit text place (mult s pairs r) limit here is h =
    absurd (let low : number_of (take h.0 (drop place text)) < 10 ^ 38 = number_low (take h.0 (drop place text)) h.2 in omega (arith, h.3))

-- a number past its limit begins here
exceeds : (text : List ℕ) (place : ℕ) (role : Role) (limit : ℕ) → Stands text place (number role []) → IsLimit role limit → BeginsAbove limit (drop place text) → IsFirstFault text place
exceeds text place role limit here is h =
    first_fault text place (number role []) here (inr (above_limit text place role limit here is h))
    (λ before large low beyond.
    let j : ℕ = place - before in
    let at : place ≡ before + (place - before) = omega arith in
    large.begun (place - before) (omega arith) (omega arith) role
    (ap (λ k. run start (take k text)) (sym at) ∙ stands_run text place (number role []) here))

one_byte : (text : List ℕ) (place : ℕ) → place < length text → take 1 (drop place text) ≡ slice_index text place ∷ []
one_byte [] place inside = absurd (omega arith)
one_byte (c ∷ cs) zero inside = refl
one_byte (c ∷ cs) (suc k) inside = one_byte cs k (omega arith)

-- no number begins here that is within its limit
pub no_number_at : (text : List ℕ) (place : ℕ) (role : Role) (limit : ℕ) → Stands text place (number role []) → IsLimit role limit → ¬ IsNumber (take 1 (drop place text)) ⊎ BeginsAbove limit (drop place text) → IsFirstFault text place
no_number_at text place role limit here is (inl none) =
    stops text place (number role []) here
    (λ inside. step_none role (slice_index text place) (false_from_ne_true _ (λ h. none (subst IsNumber (sym (one_byte text place inside)) h))))
    (λ end. refl)
no_number_at text place role limit here is (inr above) = exceeds text place role limit here is above

-- behind a number that is within its limit
pub stands_behind : (text : List ℕ) (place : ℕ) (role : Role) (limit count : ℕ) → Stands text place (number role []) → IsLimit role limit → count ≤ length (drop place text) → 0 < count → IsNumber (take count (drop place text)) → number_of (take count (drop place text)) ≤ limit → Stands text (place + count) (number role (take count (drop place text)))
stands_behind text place role limit count here is within some h low =
    let rest : List ℕ = drop place text in
    let before : role_text role ≡ take place text = sym (append-nil (role_text role)) ∙ here.text_is in
    let left : length rest ≡ length text - place = length-drop place text in
    record {
      good = (here.good.0, inr h);
      text_is = ap (λ t. t ++ take count rest) before ∙ sym (take_split place count text);
      within = omega arith;
      fits = λ k at_most large. elim (cases_lt place k) [
        | inl beyond ↦ (
            let k_is : k ≡ place + (k - place) = omega arith in
            let leads : run start (take k text) ≡ number role (take (k - place) rest) =
            ap (λ n. run start (take n text)) k_is ∙ run_inside text place role here.good.0 before count within h (k - place) (omega arith) (omega arith) in
            let part : take (k - place) (take count rest) ≡ take (k - place) rest = take-take (k - place) count rest (omega arith) in
            let less : number_of (take (k - place) rest) ≤ number_of (take count rest) =
            subst (λ t. number_of t ≤ number_of (take count rest)) part (digits_value-take-le 10 (take count rest) (k - place) (omega arith)) in
            past_limit role limit (number_of (take (k - place) rest)) is (omega arith) (subst IsLarge leads large))
        | inr old ↦ here.fits k old large
      ];
    }

-- behind one more byte
pub stands_next : (text : List ℕ) (place : ℕ) (f g : Front) → Stands text place f → place < length text → IsGood g → front_text g ≡ front_text f ++ slice_index text place ∷ [] → ¬ IsLarge g → Stands text (place + 1) g
stands_next text place f g here inside good longer small =
    let text_is : front_text g ≡ take (place + 1) text =
    longer ∙ ap (λ t. t ++ slice_index text place ∷ []) here.text_is ∙ sym (take_more text place 0 inside) in
    let leads : run start (take (place + 1) text) ≡ g = ap (run start) (sym text_is) ∙ reaches g good in
    record {
      good = good;
      text_is = text_is;
      within = omega arith;
      fits = λ k at_most large. elim (cases_lt place k) [
        | inl beyond ↦ (
            let k_is : k ≡ place + 1 = omega arith in
            small (subst IsLarge (ap (λ n. run start (take n text)) k_is ∙ leads) large))
        | inr old ↦ here.fits k old large
      ];
    }

pub stands_start : (text : List ℕ) → Stands text 0 start
stands_start text = record { good = tt; text_is = refl; within = omega arith; fits = none }
  where
    none : (k : ℕ) → k ≤ 0 → ¬ IsLarge (run start (take k text))
    none zero low large = large
    none (suc k) low large = omega arith

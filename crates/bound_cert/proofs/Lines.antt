-- The places that a reader comes to in a line.
use Rattle.std.proofs.Common.{◌≡◌, ◌≢◌, ℕ, ◌+◌, ◌-◌, ◌^◌, ◌<◌, ◌≤◌, inl, false, cond, ◌==◌, List, [], ◌∷◌, ◌++◌, length, slice_index, take, drop, refl, sym, ap, ◌∙◌, subst, arith, append_assoc, codes, All, Ok, Err}
use Rattle.std.proofs.lemmas.List.{append-nil, take_all, take_more, length-drop, get_or-drop}
use Rattle.std.proofs.lemmas.List.Elements.{All-nil, All-weaker}
use Rattle.std.proofs.lemmas.Bool.{ne_eqb, false_from_ne_true}
use Rattle.std.specs.Fmt.{decimal}
use Rattle.span_base.specs.Number.{IsNumber, number_of}
use Rattle.bound_cert.specs.declared.leaves.Pair.{Pair}
use Rattle.bound_cert.specs.declared.leaves.Line.{Line}
use Rattle.bound_cert.specs.declared.leaves.Line.TheVariants.{Close}
use Rattle.bound_cert.specs.declared.read.Number.{Number}
use Rattle.bound_cert.specs.declared.read.LineFault.{LineFault}
use Rattle.bound_cert.specs.declared.read.LineFault.TheVariants.{Bad, NoMemory}
use Rattle.bound_cert.specs.Text.{IsSpelled}
use Rattle.bound_cert.specs.Reading.{IsSpellablePair, IsSpellable, IsFirstFault, IsLongestNumber, IsNumberAt, FindsNumber, PassesByte, ReadsLine, IsOutOfMemory}
use Rattle.bound_cert.proofs.Numbers.{number_low, decimal-number_of}
use Rattle.bound_cert.proofs.Fronts.{Role, Front, var, scale, row, mult, start, began_branch, began_leaf, number, stuck, step, step_after, after, is_end, may_end}
use Rattle.bound_cert.proofs.Places.{role_text, leaf_of, leaf_text, leaf_text_push, push_good, front_text, IsGood}
use Rattle.bound_cert.proofs.Faults.{IsLarge, Stands, IsLimit, no_number_at, stops, stands_start, stands_next, stands_behind}

-- a text that begins with two such bytes
two_bytes : (text : List ℕ) (a b : ℕ) → take 2 text ≡ a ∷ b ∷ [] → (1 < length text) × (slice_index text 0 ≡ a) × (slice_index text 1 ≡ b)
two_bytes [] a b e = absurd (cc)
two_bytes (c ∷ []) a b e = absurd (cc)
two_bytes (c ∷ d ∷ rest) a b e = (omega arith, cc, cc)

begins : (text : List ℕ) (c : ℕ) (f : Front) → 0 < length text → slice_index text 0 ≡ c → IsGood f → front_text f ≡ c ∷ [] → ¬ IsLarge f → Stands text 1 f
begins text c f some first good is small =
    stands_next text 0 start f (stands_start text) some good (is ∙ ap (λ d. d ∷ []) (sym first)) small

pub branch_begins : (text : List ℕ) → take 2 text ≡ codes "b " → Stands text 2 (number var [])
branch_begins text e =
    let two : (1 < length text) × (slice_index text 0 ≡ 98) × (slice_index text 1 ≡ 32) = two_bytes text 98 32 e in
    let one : Stands text 1 began_branch = begins text 98 began_branch (omega arith) two.1 tt refl (λ h. h) in
    stands_next text 1 began_branch (number var []) one two.0 (tt, inl refl) (ap (λ c. 98 ∷ c ∷ []) (sym two.2)) (λ h. omega arith)

pub leaf_begins : (text : List ℕ) → take 2 text ≡ codes "l " → Stands text 2 (number scale [])
leaf_begins text e =
    let two : (1 < length text) × (slice_index text 0 ≡ 108) × (slice_index text 1 ≡ 32) = two_bytes text 108 32 e in
    let one : Stands text 1 began_leaf = begins text 108 began_leaf (omega arith) two.1 tt refl (λ h. h) in
    stands_next text 1 began_leaf (number scale []) one two.0 (tt, inl refl) (ap (λ c. 108 ∷ c ∷ []) (sym two.2)) (λ h. omega arith)

-- before the place stands a number of the role, and it doesn't go on there
pub record IsBehind (text : List ℕ) (place : ℕ) (role : Role) (n : ℕ) : Type 0 where
  pub digits : List ℕ
  pub stands : Stands text place (number role digits)
  pub spelled : IsNumber digits
  pub value_is : n ≡ number_of digits
  pub longest : place < length text → ¬ IsNumber (digits ++ slice_index text place ∷ [])

index_drop : (text : List ℕ) (a b : ℕ) → slice_index (drop a text) b ≡ slice_index text (a + b)
index_drop text a b = get_or-drop a text b 0

-- behind a number that was found
pub number_found : (text : List ℕ) (place : ℕ) (role : Role) (limit : ℕ) (found : Number) → Stands text place (number role []) → IsLimit role limit → IsNumberAt text place limit found → IsBehind text found.end role found.value
number_found text place role limit found here is h =
    let rest : List ℕ = drop place text in
    let digits : List ℕ = take h.count rest in
    let longest : IsLongestNumber rest h.count = h.longest in
    let spelled : IsNumber digits = longest.number h.some in
    let value_is : found.value ≡ number_of digits = h.value_is in
    let left : length rest ≡ length text - place = length-drop place text in
    let behind : IsBehind text (place + h.count) role found.value = record {
      digits = digits;
      stands = stands_behind text place role limit h.count here is longest.within h.some spelled (let low : found.value ≤ limit = h.low in omega arith);
      spelled = spelled;
      value_is = value_is;
      longest = λ inside more.
          let short : h.count < length rest = omega arith in
          let same : take (h.count + 1) rest ≡ digits ++ slice_index text (place + h.count) ∷ [] =
          take_more rest h.count 0 short ∙ ap (λ c. digits ++ c ∷ []) (index_drop text place h.count) in
          longest.longest short (subst IsNumber (sym same) more);
    } in
    subst (λ end. IsBehind text end role found.value) (sym h.end_is) behind

-- behind a number a byte leads where its role says
step_behind : (text : List ℕ) (place : ℕ) (role : Role) (n : ℕ) (here : IsBehind text place role n) → place < length text → step (number role here.digits) (slice_index text place) ≡ after role n (slice_index text place)
step_behind text place role n here inside =
    step_after role here.digits (slice_index text place) (false_from_ne_true _ (here.longest inside)) here.spelled
    ∙ ap (λ m. after role m (slice_index text place)) (sym here.value_is)

-- behind a number a byte stands that doesn't go on with the line, or nothing
pub stops_behind : (text : List ℕ) (place : ℕ) (role : Role) (n : ℕ) → IsBehind text place role n → (place < length text → after role n (slice_index text place) ≡ stuck) → (place ≡ length text → may_end role ≡ false) → IsFirstFault text place
stops_behind text place role n here none last =
    stops text place (number role here.digits) here.stands
    (λ inside. step_behind text place role n here inside ∙ none inside)
    (λ end. no_end (last end))
  where
    no_end : may_end role ≡ false → is_end (number role here.digits) ≡ false
    no_end h = rw (here.spelled, h) refl

-- what stands before such a place
number_text : (text : List ℕ) (place : ℕ) (role : Role) (n : ℕ) → IsBehind text place role n → role_text role ++ decimal n ≡ take place text
number_text text place role n here =
    let stands : Stands text place (number role here.digits) = here.stands in
    ap (λ m. role_text role ++ decimal m) here.value_is
    ∙ ap (λ t. role_text role ++ t) (decimal-number_of here.digits here.spelled)
    ∙ stands.text_is

-- a branch whose VAR ends the text is the line of the text
pub branch_whole : (text : List ℕ) (place n : ℕ) → IsBehind text place var n → length text ≤ place → codes "b " ++ decimal n ≡ text
branch_whole text place n here last = number_text text place var n here ∙ take_all place text last

-- behind the S of a leaf, or behind some pairs
pub record IsBetween (text : List ℕ) (place s : ℕ) (pairs : List Pair) : Type 0 where
  pub role : Role
  pub n : ℕ
  pub behind : IsBehind text place role n
  pub only_space : (c : ℕ) → c ≢ 32 → after role n c ≡ stuck
  pub text_is : leaf_text s pairs ≡ take place text
  pub spellable : IsSpellable (Close (leaf_of s pairs))

only : (c byte : ℕ) (f : Front) → c ≢ byte → cond (c == byte) f stuck ≡ stuck
only c byte f ne = rw (ne_eqb c byte ne) refl

pub between_none : (text : List ℕ) (place s : ℕ) → IsBehind text place scale s → IsBetween text place s []
between_none text place s here = record {
  role = scale;
  n = s;
  behind = here;
  only_space = λ c ne. only c 32 (number (row s []) []) ne;
  text_is = append-nil (codes "l " ++ decimal s) ∙ number_text text place scale s here;
  spellable = (subst (λ n. n < 10 ^ 38) (sym here.value_is) (number_low here.digits here.spelled), All-nil IsSpellablePair);
}

pub between_more : (text : List ℕ) (place s : ℕ) (pairs : List Pair) (r m : ℕ) → IsBehind text place (mult s pairs r) m → IsBetween text place s (pairs ++ record { row = r; mult = m } ∷ [])
between_more text place s pairs r m here =
    let stands : Stands text place (number (mult s pairs r) here.digits) = here.stands in
    let good = stands.good.0 in
    record {
      role = mult s pairs r;
      n = m;
      behind = here;
      only_space = λ c ne. only c 32 (number (row s (pairs ++ record { row = r; mult = m } ∷ [])) []) ne;
      text_is = leaf_text_push s pairs r m ∙ number_text text place (mult s pairs r) m here;
      spellable = push_good s pairs r m good.0 good.1 (subst (λ n. n < 10 ^ 38) (sym here.value_is) (number_low here.digits here.spelled));
    }

-- between pairs nothing but a space stands
pub no_space : (text : List ℕ) (place s : ℕ) (pairs : List Pair) → IsBetween text place s pairs → place < length text → slice_index text place ≢ 32 → IsFirstFault text place
no_space text place s pairs here inside ne =
    stops_behind text place here.role here.n here.behind (λ h. here.only_space (slice_index text place) ne) (λ end. absurd (omega arith))

pub row_begins : (text : List ℕ) (place s : ℕ) (pairs : List Pair) → IsBetween text place s pairs → place < length text → slice_index text place ≡ 32 → Stands text (place + 1) (number (row s pairs) [])
row_begins text place s pairs here inside is =
    let behind : IsBehind text place here.role here.n = here.behind in
    stands_next text place (number here.role behind.digits) (number (row s pairs) []) behind.stands inside (here.spellable, inl refl)
    (append-nil (leaf_text s pairs ++ codes " ")
    ∙ ap (λ t. t ++ codes " ") (here.text_is ∙ sym behind.stands.text_is)
    ∙ ap (λ c. (role_text here.role ++ behind.digits) ++ c ∷ []) (sym is))
    (λ h. omega arith)

-- behind a row nothing but a colon stands
pub no_colon : (text : List ℕ) (place s : ℕ) (pairs : List Pair) (r : ℕ) → IsBehind text place (row s pairs) r → (place < length text → slice_index text place ≢ 58) → IsFirstFault text place
no_colon text place s pairs r here ne =
    stops_behind text place (row s pairs) r here (λ inside. only (slice_index text place) 58 (number (mult s pairs r) []) (ne inside)) (λ end. refl)

pub mult_begins : (text : List ℕ) (place s : ℕ) (pairs : List Pair) (r : ℕ) → IsBehind text place (row s pairs) r → place < length text → slice_index text place ≡ 58 → Stands text (place + 1) (number (mult s pairs r) [])
mult_begins text place s pairs r here inside is =
    let stands : Stands text place (number (row s pairs) here.digits) = here.stands in
    stands_next text place (number (row s pairs) here.digits) (number (mult s pairs r) []) stands inside
    ((stands.good.0, subst (λ n. n < 10 ^ 38) (sym here.value_is) (number_low here.digits here.spelled)), inl refl)
    (append-nil ((leaf_text s pairs ++ codes " ") ++ (decimal r ++ codes ":"))
    ∙ sym (append_assoc (leaf_text s pairs ++ codes " ") (decimal r) (codes ":"))
    ∙ ap (λ t. t ++ codes ":") (number_text text place (row s pairs) r here ∙ sym stands.text_is)
    ∙ ap (λ c. ((leaf_text s pairs ++ codes " ") ++ here.digits) ++ c ∷ []) (sym is))
    (λ h. h)

-- a text that is read up to its end is that of the leaf
pub leaf_whole : (text : List ℕ) (place s : ℕ) (pairs : List Pair) → IsBetween text place s pairs → length text ≤ place → (leaf_text s pairs ≡ text) × All IsSpelled pairs
leaf_whole text place s pairs here last =
    (here.text_is ∙ take_all place text last, All-weaker IsSpellablePair IsSpelled (λ pair low. low.1) pairs here.spellable.1)

-- a fault of a line, and no want of memory
pub record IsRefused (text : List ℕ) (fault : LineFault) : Type 0 where
  pub reads : ReadsLine text (Err fault)
  pub memory : ¬ IsOutOfMemory {T = Line} (Err fault)

pub refused_at : (text : List ℕ) (place at : ℕ) → at ≡ place → IsFirstFault text place → IsRefused text (Bad at)
refused_at text place at is first = record { reads = subst (IsFirstFault text) (sym is) first; memory = λ h. h }

pub number_refused : (text : List ℕ) (place : ℕ) (role : Role) (limit : ℕ) (fault : LineFault) → Stands text place (number role []) → IsLimit role limit → FindsNumber text place limit (Err fault) → IsRefused text fault
number_refused text place role limit (Bad at) here is h = refused_at text place at h.0 (no_number_at text place role limit here is h.1)
number_refused text place role limit (NoMemory error) here is h = absurd h

pub space_refused : (text : List ℕ) (place s : ℕ) (pairs : List Pair) (fault : LineFault) → IsBetween text place s pairs → place < length text → PassesByte text place 32 (Err fault) → IsRefused text fault
space_refused text place s pairs (Bad at) here inside h = refused_at text place at h.0 (no_space text place s pairs here inside (h.1 inside))
space_refused text place s pairs (NoMemory error) here inside h = absurd h

pub colon_refused : (text : List ℕ) (place s : ℕ) (pairs : List Pair) (r : ℕ) (fault : LineFault) → IsBehind text place (row s pairs) r → PassesByte text place 58 (Err fault) → IsRefused text fault
colon_refused text place s pairs r (Bad at) here h = refused_at text place at h.0 (no_colon text place s pairs r here h.1)
colon_refused text place s pairs r (NoMemory error) here h = absurd h

kind_refused : (text : List ℕ) (f : Front) (fault : LineFault) → Stands text 1 f → ((c : ℕ) → c ≢ 32 → step f c ≡ stuck) → is_end f ≡ false → PassesByte text 1 32 (Err fault) → IsRefused text fault
kind_refused text f (Bad at) here only_space end h =
    refused_at text 1 at h.0 (stops text 1 f here (λ inside. only_space (slice_index text 1) (h.1 inside)) (λ last. end))
kind_refused text f (NoMemory error) here only_space end h = absurd h

-- behind the first byte of a line nothing but a space stands
pub branch_refused : (text : List ℕ) (fault : LineFault) → 0 < length text → slice_index text 0 ≡ 98 → PassesByte text 1 32 (Err fault) → IsRefused text fault
unfolding step
branch_refused text fault some first h =
    kind_refused text began_branch fault (begins text 98 began_branch some first tt refl (λ h. h)) (λ c ne. only c 32 (number var []) ne) refl h

pub leaf_refused : (text : List ℕ) (fault : LineFault) → 0 < length text → slice_index text 0 ≡ 108 → PassesByte text 1 32 (Err fault) → IsRefused text fault
unfolding step
leaf_refused text fault some first h =
    kind_refused text began_leaf fault (begins text 108 began_leaf some first tt refl (λ h. h)) (λ c ne. only c 32 (number scale []) ne) refl h

-- no line begins otherwise
pub none_begins : (text : List ℕ) → (0 < length text → (slice_index text 0 ≢ 98) × (slice_index text 0 ≢ 108)) → IsFirstFault text 0
unfolding step
none_begins text other =
    stops text 0 start (stands_start text)
    (λ inside. rw (ne_eqb (slice_index text 0) 98 (other inside).0, ne_eqb (slice_index text 0) 108 (other inside).1) refl)
    (λ end. refl)

-- behind the VAR of a branch the text has to end
pub branch_longer : (text : List ℕ) (place n : ℕ) → IsBehind text place var n → place < length text → IsFirstFault text place
branch_longer text place n here inside =
    stops_behind text place var n here (λ h. refl) (λ end. absurd (omega arith))

pub row_stands : (text : List ℕ) (place s : ℕ) (pairs : List Pair) (next : ℕ) → IsBetween text place s pairs → PassesByte text place 32 (Ok next) → Stands text next (number (row s pairs) [])
row_stands text place s pairs next here h =
    subst (λ at. Stands text at (number (row s pairs) [])) (sym h.0) (row_begins text place s pairs here h.1 h.2)

pub mult_stands : (text : List ℕ) (place s : ℕ) (pairs : List Pair) (r next : ℕ) → IsBehind text place (row s pairs) r → PassesByte text place 58 (Ok next) → Stands text next (number (mult s pairs r) [])
mult_stands text place s pairs r next here h =
    subst (λ at. Stands text at (number (mult s pairs r) [])) (sym h.0) (mult_begins text place s pairs r here h.1 h.2)
